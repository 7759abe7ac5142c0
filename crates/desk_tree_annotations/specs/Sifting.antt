-- The annotations of a REUSE.toml that can be read, and the faults for which others can't.
use Rattle.std.specs.Prelude.{◌≡◌, ℕ, ◌+◌, List, [], ◌∷◌, ◌++◌, Ok, Err}
use Rattle.toml.specs.Data.{Data, Items, no_items, item}
use Rattle.desk_tree_annotations.specs.declared.annotation.Annotation.{Annotation}
use Rattle.desk_tree_annotations.specs.declared.fault.AnnotationsFault.{AnnotationsFault}
use Rattle.desk_tree_annotations.specs.Right.{Reading}
use Rattle.desk_tree_annotations.specs.Reading.{Read, annotation_at, entries}

-- what is read, if anything
abbrev pub good : {A : Type 0} → Read A → List A
good (Ok x) = x ∷ []
good (Err fault) = []

-- why nothing is read, if so
abbrev pub bad : {A : Type 0} → Read A → List AnnotationsFault
bad (Ok x) = []
bad (Err fault) = fault ∷ []

-- what is read of entries with their indices
abbrev pub each_good : {A : Type 0} → (ℕ → Data → Read A) → ℕ → Items → List A
each_good entry index no_items = []
each_good entry index (item d ds) = good (entry index d) ++ each_good entry (index + 1) ds

-- why others of them can't be read, in their order
abbrev pub each_bad : {A : Type 0} → (ℕ → Data → Read A) → ℕ → Items → List AnnotationsFault
each_bad entry index no_items = []
each_bad entry index (item d ds) = bad (entry index d) ++ each_bad entry (index + 1) ds

-- the annotations that can be read, of entries that may be none: then there are none
abbrev pub good_in : Reading → Read Items → List Annotation
good_in r (Ok ds) = each_good (annotation_at r) 0 ds
good_in r (Err fault) = []

-- the faults, of entries that may be none: then the only one is that of the whole file
abbrev pub bad_in : Reading → Read Items → List AnnotationsFault
bad_in r (Ok ds) = each_bad (annotation_at r) 0 ds
bad_in r (Err fault) = fault ∷ []

-- the annotations of a text that can be read, and the faults of the others, or of the whole
abbrev pub good_annotations : Reading → List ℕ → List Annotation
good_annotations r text = good_in r (entries text)

-- all faults of a text, in the order of its entries; that of the whole file is alone
abbrev pub annotation_faults : Reading → List ℕ → List AnnotationsFault
annotation_faults r text = bad_in r (entries text)

-- a reading up to the first fault, compared with all faults and all that can be read
abbrev pub Agrees : {A : Type 0} → Read (List A) → List AnnotationsFault → List A → Type 0
Agrees (Ok xs) faults ys = (faults ≡ []) × (ys ≡ xs)
Agrees (Err fault) faults ys = (more : List AnnotationsFault) × (faults ≡ fault ∷ more)
