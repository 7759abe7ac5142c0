-- A list of entries, read one after another.
use Rattle.std.proofs.Common.{◌≡◌, ◌∙◌, ℕ, ◌+◌, ◌<◌, ◌≤◌, List, [], ◌∷◌, ◌++◌, length, get_or, drop, ap}
use Rattle.std.specs.Prelude.{Ok, Err}
use Rattle.std.proofs.lemmas.List.{append-nil, drop_more, drop_all}
use Rattle.toml.specs.Data.{Data}
use Rattle.toml.specs.View.{view, items_view}
use Rattle.toml.specs.declared.value.Value.{Value}
use Rattle.desk_tree_annotations.specs.declared.fault.AnnotationsFault.{AnnotationsFault}
use Rattle.desk_tree_annotations.specs.Reading.{Read, each}
use Rattle.desk_base.specs.Results.{followed}
use Rattle.desk_base.proofs.Results.{onto, onto-followed}

-- one more value
pub onto-item : {A : Type 0} (entry : ℕ → Data → Read A) (done : List A) (vs : List Value) (i : ℕ)
    (v : Value) (x : A) → i < length vs → entry i (view (get_or vs i v)) ≡ Ok x
    → onto done (each entry i (items_view (drop i vs)))
    ≡ onto (done ++ x ∷ []) (each entry (i + 1) (items_view (drop (i + 1) vs)))
onto-item entry done vs i v x within is =
    ap (λ l. onto done (each entry i (items_view l))) (drop_more vs i v within)
    ∙ ap (λ r. onto done (followed r (each entry (i + 1) (items_view (drop (i + 1) vs))))) is
    ∙ onto-followed done x (each entry (i + 1) (items_view (drop (i + 1) vs)))

-- a fault
pub onto-fault : {A : Type 0} (entry : ℕ → Data → Read A) (done : List A) (vs : List Value) (i : ℕ)
    (v : Value) (fault : AnnotationsFault) → i < length vs
    → entry i (view (get_or vs i v)) ≡ Err fault
    → onto done (each entry i (items_view (drop i vs))) ≡ Err fault
onto-fault entry done vs i v fault within is =
    ap (λ l. onto done (each entry i (items_view l))) (drop_more vs i v within)
    ∙ ap (λ r. onto done (followed r (each entry (i + 1) (items_view (drop (i + 1) vs))))) is

-- the end
pub onto-end : {A : Type 0} (entry : ℕ → Data → Read A) (done : List A) (vs : List Value) (i : ℕ)
    → length vs ≤ i → onto done (each entry i (items_view (drop i vs))) ≡ Ok done
onto-end entry done vs i past = ap (λ l. onto done (each entry i (items_view l)))
    (drop_all i vs past) ∙ ap Ok (append-nil done)
