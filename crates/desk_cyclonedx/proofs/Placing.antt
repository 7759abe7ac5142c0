-- Lists and the components in them.
use Rattle.std.proofs.Common.{◌≡◌, ◌∙◌, ℕ, zero, suc, ◌+◌, ◌-◌, List, [], ◌∷◌, ◌++◌, length}
use Rattle.std.proofs.Common.{append_assoc, codes, refl, ap, arith, Bool, true, false}
use Rattle.serde_json.specs.Data.{Data}
use Rattle.serde_json.specs.Find.{get}
use Rattle.serde_json.specs.View.{items_of, items_view}
use Rattle.serde_json.specs.declared.value.Value.{Value}
use Rattle.desk_spdx_json.specs.Steps.{member_at}
use Rattle.desk_cyclonedx.specs.Components.{excluded_ids, is_excluded}
use Rattle.desk_cyclonedx.specs.Licences.{count}
use Rattle.desk_cyclonedx.specs.Placed.{PlacedText, id_of, listed_in, placed_from, placed_here}

pub counted : (ds : List Data) → count (items_of ds) ≡ length ds
counted [] = refl
counted (d ∷ ds) = ap (λ n. n + 1) (counted ds) ∙ omega arith

pub counted_values : (vs : List Value) → count (items_view vs) ≡ length vs
counted_values [] = refl
counted_values (v ∷ vs) = ap (λ n. n + 1) (counted_values vs) ∙ omega arith

-- a component with none in it, and one with others
pub placed_end : (depth : ℕ) (owner at : List ℕ) (d : Data) (old mid : List PlacedText) → depth ≡ 0
    → mid ≡ old ++ placed_here depth owner at d ∷ [] → mid ≡ old ++ placed_from depth owner at d
placed_end zero owner at d old mid none pushed = pushed
placed_end (suc n) owner at d old mid none pushed = absurd (omega arith)

pub placed_more : (depth : ℕ) (owner at : List ℕ) (d : Data) (old mid new : List PlacedText)
    → (depth ≡ 0 → ⊥) → mid ≡ old ++ placed_here depth owner at d ∷ []
    → new ≡ mid ++ listed_in (placed_from (depth - 1) (id_of at d))
    (member_at at (codes "components")) (get (codes "components") d)
    → new ≡ old ++ placed_from depth owner at d
placed_more zero owner at d old mid new some pushed added = absurd (some refl)
placed_more (suc n) owner at d old mid new some pushed added =
    let less : suc n - 1 ≡ n = omega arith in
    let inner = λ (k : ℕ). listed_in (placed_from k (id_of at d))
    (member_at at (codes "components")) (get (codes "components") d) in
    added ∙ ap (λ k. mid ++ inner k) less ∙ ap (λ l. l ++ inner n) pushed
    ∙ append_assoc old (placed_here (suc n) owner at d ∷ []) (inner n)

-- the excluded ones among one more and others
pub excluded_more : (p : PlacedText) (ps : List PlacedText)
    → excluded_ids (p ∷ ps) ≡ excluded_ids (p ∷ []) ++ excluded_ids ps
excluded_more p ps = step (is_excluded p.value) refl where
  step : (b : Bool) → is_excluded p.value ≡ b
      → excluded_ids (p ∷ ps) ≡ excluded_ids (p ∷ []) ++ excluded_ids ps
  step true is = rw is refl
  step false is = rw is refl
