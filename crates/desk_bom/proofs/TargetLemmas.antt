-- The run of the arrows that come from a place.
use Rattle.std.proofs.Common.{◌≡◌, ◌∙◌, ⊎_elim, ℕ, ◌+◌, ◌-◌, ◌<◌, ◌≤◌, true, false, List, length}
use Rattle.std.proofs.Common.{take, drop, get_or, ap, sym, refl, subst, ltb, arith, length-take}
use Rattle.std.proofs.Common.{length-drop, get_or-take, get_or-drop}
use Rattle.std.specs.Prelude.{Contains, map}
use Rattle.std.proofs.lemmas.List.{get_or-map, length-map}
use Rattle.std.proofs.lemmas.List.Elements.{Contains-get_or}
use Rattle.std.specs.List.{AllWithin}
use Rattle.std.specs.List.Sorted.{IsPartitionPoint, IsNonDecreasingBy}
use Rattle.std.proofs.lemmas.List.{get_or_default}
use Rattle.std.proofs.lemmas.Bool.{ltb-true, ltb-false, cases_lt}
use Rattle.desk_bom.specs.declared.arrows.Arrow.{Arrow}
use Rattle.desk_bom.specs.Targets.{AreTargets}

-- if an arrow comes from a higher place, so do all from it on
pub above_all : (xs : List Arrow) (place i n : ℕ) (e : Arrow) → IsNonDecreasingBy (λ x. x.from) xs
    → i < length xs → place < (get_or xs i e).from → n ≡ i
    → AllWithin (λ x. place < x.from) xs n (length xs)
above_all xs place i n e up inside high same k d ge within =
    let a = up i k d (omega arith) within in
    let b = ap (λ (x : Arrow). x.from) (get_or_default xs i d e inside) in
    omega arith

module _ (xs rest : List Arrow) (place s n : ℕ) (behind : rest ≡ drop s xs)
    (below : IsPartitionPoint (λ x. ltb x.from place ≡ true) (λ x. ltb x.from place ≡ false) xs s)
    (upto : AllWithin (λ x. x.from ≤ place) rest 0 n)
    (above : AllWithin (λ x. place < x.from) rest n (length rest)) where
  rest_at : (k : ℕ) (x : Arrow) → get_or rest k x ≡ get_or xs (s + k) x
  rest_at k x = ap (λ l. get_or l k x) behind ∙ get_or-drop s xs k x

  long : length rest ≡ length xs - s
  long = ap length behind ∙ length-drop s xs

  all : (x : Arrow) → Contains xs x → x.from ≡ place → Contains (take n rest) x
  all x h from =
      let behind_start : s ≤ h.0 = ⊎_elim (λ lt. absurd (early lt)) (λ ge. ge) (cases_lt h.0 s) in
      let at : get_or rest (h.0 - s) x ≡ x = let same : s + (h.0 - s) ≡ h.0 = omega arith in
      rest_at (h.0 - s) x ∙ ap (λ k. get_or xs k x) same ∙ h.2 in
      let inside : h.0 - s < length rest = let lt = h.1 in let l = long in omega arith in
      let before_end : h.0 - s < n =
      ⊎_elim (λ lt. lt) (λ ge. absurd (late (h.0 - s) ge inside at)) (cases_lt (h.0 - s) n) in (
        h.0 - s,
        (let l = length-take n rest in omega arith),
        get_or-take n rest (h.0 - s) x before_end ∙ at,
      )
    where
      early : h.0 < s → ⊥
      early lt =
          let t = ltb-true x.from place
          (subst (λ (y : Arrow). ltb y.from place ≡ true) h.2 (below.0 h.0 x (omega arith) lt)) in
          omega arith

      late : (k : ℕ) → n ≤ k → k < length rest → get_or rest k x ≡ x → ⊥
      late k ge inside at =
          let t = subst (λ (y : Arrow). place < y.from) at (above k x ge inside) in
          omega arith

  only : (x : Arrow) → Contains (take n rest) x → Contains xs x × (x.from ≡ place)
  only x h =
      let l = length-take n rest in
      let lt = h.1 in
      let in_take : h.0 < n = omega arith in
      let in_rest : h.0 < length rest = omega arith in
      let r = long in
      let inside : s + h.0 < length xs = omega arith in
      let there : get_or rest h.0 x ≡ x = sym (get_or-take n rest h.0 x in_take) ∙ h.2 in
      let at : get_or xs (s + h.0) x ≡ x = sym (rest_at h.0 x) ∙ there in
      let least = ltb-false x.from place
      (subst (λ (y : Arrow). ltb y.from place ≡ false) at
      (below.1 (s + h.0) x (omega arith) inside)) in
      let most = subst (λ (y : Arrow). y.from ≤ place) there (upto h.0 x (omega arith) in_take) in
      ((s + h.0, inside, at), omega arith)

  pub are_targets : AreTargets xs place (take n rest)
  are_targets = record { all = all; only = only }

arrow_is : (x : Arrow) (a b : ℕ) → x.from ≡ a → x.to ≡ b
    → ◌≡◌ {A = Arrow} x (record { from = a; to = b })
arrow_is x a b e f = let arrow : ℕ → ℕ → Arrow = λ m n. record { from = m; to = n } in
    ap (λ m. arrow m x.to) e ∙ ap (arrow a) f

-- what the arrows of a place lead to
module _ (arrows ts : List Arrow) (place j : ℕ) (targets : AreTargets arrows place ts) where
  pub led_to : Contains (map (λ x. x.to) ts) j → Contains arrows (record { from = place; to = j })
  led_to h =
      let long = length-map ts (λ (x : Arrow). x.to) in
      let lt = h.1 in
      let inside : h.0 < length ts = omega arith in
      let d : Arrow = record { from = place; to = j } in
      let x = get_or ts h.0 d in
      let it = targets.only x (Contains-get_or ts h.0 d inside) in
      let to : x.to ≡ j = sym (get_or-map (λ (y : Arrow). y.to) ts h.0 d j inside) ∙ h.2 in
      let same : x ≡ d = arrow_is x place j it.1 to in
      subst (Contains arrows) same it.0

  pub leads_to : Contains arrows (record { from = place; to = j }) → Contains (map (λ x. x.to) ts) j
  leads_to h =
      let d : Arrow = record { from = place; to = j } in
      let t = targets.all d h refl in
      let long = length-map ts (λ (x : Arrow). x.to) in
      let lt = t.1 in (
        t.0,
        omega arith,
        get_or-map (λ (y : Arrow). y.to) ts t.0 d j t.1
            ∙ ap (λ (y : Arrow). y.to) t.2,
      )
