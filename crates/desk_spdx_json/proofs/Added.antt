-- Steps and names added one after another.
use Rattle.std.proofs.Common.{◌≡◌, ◌∙◌, ℕ, ◌+◌, ◌<◌, List, ◌++◌, append_assoc, length, drop, get_or, ap}
use Rattle.std.proofs.Common.{sym}
use Rattle.std.proofs.lemmas.List.{drop_more}
use Rattle.serde_json.specs.Data.{Data}
use Rattle.serde_json.specs.View.{items_view, view}
use Rattle.serde_json.specs.declared.value.Value.{Value}
use Rattle.desk_spdx_json.specs.Steps.{item_at}
use Rattle.desk_spdx_json.specs.Values.{items_steps}
pub use Rattle.desk_spdx_files.proofs.Added.{before, piece_more, pieces_end}

-- the steps of one more item, and those that are still to come
pub items_more : {A : Type 0} (steps : List ℕ → Data → List A) (at : List ℕ) (xs : List Value)
    (i : ℕ) (d : Value) (old new all : List A) → i < length xs
    → old ++ items_steps steps at i (items_view (drop i xs)) ≡ all
    → new ≡ old ++ steps (item_at at i) (view (get_or xs i d))
    → new ++ items_steps steps at (i + 1) (items_view (drop (i + 1) xs)) ≡ all
items_more steps at xs i d old new all inside so_far added =
    let here = steps (item_at at i) (view (get_or xs i d)) in
    let rest = items_steps steps at (i + 1) (items_view (drop (i + 1) xs)) in
    ap (λ l. l ++ rest) added ∙ append_assoc old here rest
    ∙ ap (λ (l : List Value). old ++ items_steps steps at i (items_view l))
    (sym (drop_more xs i d inside)) ∙ so_far
