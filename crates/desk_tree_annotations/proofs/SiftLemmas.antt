-- A reading that goes on after faults.
use Rattle.std.proofs.Common.{◌≡◌, ◌∙◌, ℕ, ◌+◌, ◌<◌, ◌≤◌, List, [], ◌∷◌, ◌++◌, length, get_or, drop}
use Rattle.std.proofs.Common.{sym, ap, refl, append_assoc}
use Rattle.std.specs.Prelude.{Ok, Err}
use Rattle.std.proofs.lemmas.List.{append-nil, drop_more, drop_all}
use Rattle.toml.specs.Data.{Data, Items, no_items, item}
use Rattle.toml.specs.View.{view, items_view}
use Rattle.toml.specs.declared.value.Value.{Value}
use Rattle.desk_tree_annotations.specs.declared.fault.AnnotationsFault.{AnnotationsFault}
use Rattle.desk_tree_annotations.specs.Right.{Reading}
use Rattle.desk_tree_annotations.specs.Reading.{Read, each, annotation_at}
use Rattle.desk_tree_annotations.specs.Sifting.{good, bad, each_good, each_bad, good_in, bad_in, Agrees}
use Rattle.desk_base.specs.Results.{then_read, followed}

agrees_item : {A : Type 0} (x : Read A) (rest : Read (List A)) (faults : List AnnotationsFault)
    (ys : List A) → Agrees rest faults ys
    → Agrees (followed x rest) (bad x ++ faults) (good x ++ ys)
agrees_item (Ok x) (Ok xs) faults ys h = (h.0, ap (λ l. x ∷ l) h.1)
agrees_item (Ok x) (Err fault) faults ys h = h
agrees_item (Err fault) rest faults ys h = (faults, refl)

agrees_each : {A : Type 0} (entry : ℕ → Data → Read A) (index : ℕ) (ds : Items)
    → Agrees (each entry index ds) (each_bad entry index ds) (each_good entry index ds)
agrees_each entry index no_items = (refl, refl)
agrees_each entry index (item d ds) = agrees_item (entry index d) (each entry (index + 1) ds)
    (each_bad entry (index + 1) ds) (each_good entry (index + 1) ds)
    (agrees_each entry (index + 1) ds)

pub agrees_in : (r : Reading) (e : Read Items)
    → Agrees (then_read e (each (annotation_at r) 0)) (bad_in r e) (good_in r e)
agrees_in r (Ok ds) = agrees_each (annotation_at r) 0 ds
agrees_in r (Err fault) = ([], refl)

-- one more entry
module _ {A : Type 0} (entry : ℕ → Data → Read A) (vs : List Value) (i : ℕ) (v : Value) (x : Read A)
    (within : i < length vs) (is : x ≡ entry i (view (get_or vs i v))) where
  pub good_more : (done : List A)
      → (done ++ good x) ++ each_good entry (i + 1) (items_view (drop (i + 1) vs)) ≡ done
      ++ each_good entry i (items_view (drop i vs))
  good_more done =
      append_assoc done (good x) (each_good entry (i + 1) (items_view (drop (i + 1) vs)))
      ∙ ap (λ y. done ++ (good y ++ each_good entry (i + 1) (items_view (drop (i + 1) vs)))) is
      ∙ ap (λ l. done ++ each_good entry i (items_view l)) (sym (drop_more vs i v within))

  pub bad_more : (done : List AnnotationsFault)
      → (done ++ bad x) ++ each_bad entry (i + 1) (items_view (drop (i + 1) vs)) ≡ done
      ++ each_bad entry i (items_view (drop i vs))
  bad_more done =
      append_assoc done (bad x) (each_bad entry (i + 1) (items_view (drop (i + 1) vs)))
      ∙ ap (λ y. done ++ (bad y ++ each_bad entry (i + 1) (items_view (drop (i + 1) vs)))) is
      ∙ ap (λ l. done ++ each_bad entry i (items_view l)) (sym (drop_more vs i v within))

-- the end
pub good_end : {A : Type 0} (entry : ℕ → Data → Read A) (done : List A) (vs : List Value) (i : ℕ)
    → length vs ≤ i → done ++ each_good entry i (items_view (drop i vs)) ≡ done
good_end entry done vs i past = ap (λ l. done ++ each_good entry i (items_view l))
    (drop_all i vs past) ∙ append-nil done

pub bad_end : {A : Type 0} (entry : ℕ → Data → Read A) (done : List AnnotationsFault)
    (vs : List Value) (i : ℕ) → length vs ≤ i
    → done ++ each_bad entry i (items_view (drop i vs)) ≡ done
bad_end entry done vs i past = ap (λ l. done ++ each_bad entry i (items_view l))
    (drop_all i vs past) ∙ append-nil done
