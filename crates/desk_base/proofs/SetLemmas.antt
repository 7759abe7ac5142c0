-- Sets of borrowed texts.
use Rattle.std.proofs.Common.{◌≡◌, ◌∙◌, ℕ, ◌+◌, ◌<◌, true, cond, List, length, get_or, drop, sym}
use Rattle.std.proofs.Common.{ap}
use Rattle.std.specs.Prelude.{◌||◌}
use Rattle.std.specs.Str.{bytes_eq}
use Rattle.std.specs.BTreeSet.{BTreeSet, UpdatesBy}
use Rattle.std.proofs.lemmas.List.{drop_more}
use Rattle.std.proofs.lemmas.Map.Text.{is_eq-slice_cmp}
use denote.Ref.{Bor}
use Rattle.desk_base.specs.Borrowed.{texts, borrowed_cmp}
use Rattle.desk_base.specs.TextSets.{has_text, is_among}
use Rattle.desk_base.proofs.Bools.{cond_or, or_moves}

-- one more text
pub one_more : (v : Bor (List ℕ)) (old new : BTreeSet (Bor (List ℕ)))
    → UpdatesBy borrowed_cmp (borrowed_cmp v) old new true → (q : List ℕ)
    → has_text new q ≡ (bytes_eq v.now q || has_text old q)
one_more v old new h q =
    h.0 (record v { now = q }) ∙ ap (λ b. cond b true (has_text old q)) (is_eq-slice_cmp v.now q)
    ∙ cond_or (bytes_eq v.now q) (has_text old q)

-- a text goes from those to come to those in the set
pub set_step : (listed : List (Bor (List ℕ))) (i : ℕ) (v : Bor (List ℕ))
    (old new : BTreeSet (Bor (List ℕ))) → i < length listed
    → UpdatesBy borrowed_cmp (borrowed_cmp (get_or listed i v)) old new true
    → (q : List ℕ) → (is_among (texts (drop (i + 1) listed)) q || has_text new q)
    ≡ (is_among (texts (drop i listed)) q || has_text old q)
set_step listed i v old new within h q =
    ap (λ b. is_among (texts (drop (i + 1) listed)) q || b)
    (one_more (get_or listed i v) old new h q)
    ∙ or_moves (bytes_eq (get_or listed i v).now q) (is_among (texts (drop (i + 1) listed)) q)
    (has_text old q)
    ∙ ap (λ l. is_among (texts l) q || has_text old q) (sym (drop_more listed i v within))
