-- The information of a file: its notices and its licences, from what it states itself and from the
-- annotations that count, at most one for each folder from the root to the file's own.
use Rattle.std.specs.Prelude.{ℕ, ◌==◌, ◌-◌, Bool, true, false, List, [], ◌∷◌, ◌++◌, length, take}
use Rattle.std.specs.Prelude.{filter, Option, Some, None, option_map, if◌then◌else◌}
use Rattle.std.specs.List.{list_any, flat_map, filter_map}
use Rattle.desk_tree_annotations.specs.declared.annotation.Annotation.{Annotation}
use Rattle.desk_tree_annotations.specs.declared.annotation.Precedence.{Precedence}
use Rattle.desk_tree_annotations.specs.declared.annotation.Precedence.TheVariants.{Closest, Aggregate, Override}
use Rattle.desk_tree_infos.specs.declared.information.Subject.{Subject}
use Rattle.desk_tree_infos.specs.declared.information.Subject.TheVariants.{Notices, Licences}
use Rattle.desk_tree_infos.specs.Readers.{Reader}
use Rattle.desk_tree_infos.specs.Tomls.{TomlText, annotations_in}

-- ---- which annotations count

-- what follows each slash of a path: the path as it is seen from each folder on its way
abbrev pub rests : List ℕ → List (List ℕ)
rests [] = []
rests (b ∷ bs) = if b == 47 then bs ∷ rests bs else rests bs

-- some pattern of the annotation matches the path
abbrev pub covers : Reader → Annotation → List ℕ → Bool
covers r annotation path = list_any (λ pieces. r.matches pieces path) annotation.paths

-- the first of two that is there
abbrev pub or_else : {A : Type 0} → Option A → Option A → Option A
or_else (Some x) other = Some x
or_else None other = other

-- the last annotation that covers the path
abbrev pub last_covering : Reader → List ℕ → List Annotation → Option Annotation
last_covering r path [] = None
last_covering r path (a ∷ more) = or_else (last_covering r path more)
    (if covers r a path then Some a else None)

-- the one that counts in the folder from which the rest of a path is seen
abbrev pub counting_in : Reader → List TomlText → List ℕ → List ℕ → Option Annotation
counting_in r tomls path rest = last_covering r rest
    (annotations_in tomls (take (length path - length rest) path))

-- those that count, from the root to the file's folder
abbrev pub counting : Reader → List TomlText → List ℕ → List Annotation
counting r tomls path = filter_map (counting_in r tomls path) (path ∷ rests path)

-- ---- what they give

-- the notices that an annotation gives, or its licences
abbrev pub texts_of : Subject → Annotation → List (List ℕ)
texts_of Notices annotation = annotation.notices
texts_of Licences annotation = annotation.licences

-- what the annotation gives counts instead of what the file states, and of what annotations in
-- lower folders give
abbrev pub is_override : Precedence → Bool
is_override Override = true
is_override Aggregate = false
is_override Closest = false

-- what the annotation gives counts in addition to what the file states
abbrev pub is_aggregate : Precedence → Bool
is_aggregate Override = false
is_aggregate Aggregate = true
is_aggregate Closest = false

-- the annotations above the override nearest the root, and that override
abbrev pub topmost : List Annotation → Option (List Annotation × Annotation)
topmost [] = None
topmost (a ∷ more) = if is_override a.precedence then Some ([], a)
    else option_map (λ (t : List Annotation × Annotation). (a ∷ t.0, t.1)) (topmost more)

-- the texts of all aggregates
abbrev pub aggregated : Subject → List Annotation → List (List ℕ)
aggregated of annotations = flat_map (texts_of of)
    (filter (λ a. is_aggregate a.precedence) annotations)

-- a list, or the other one if it is empty
abbrev pub some_or : {A : Type 0} → List A → List A → List A
some_or [] others = others
some_or (x ∷ xs) others = x ∷ xs

-- the texts of an annotation with the precedence `closest`; none for another precedence
abbrev pub closest_texts : Subject → Precedence → Annotation → List (List ℕ)
closest_texts of Override annotation = []
closest_texts of Aggregate annotation = []
closest_texts of Closest annotation = texts_of of annotation

-- the texts of the nearest `closest` annotation that has some
abbrev pub nearest : Subject → List Annotation → List (List ℕ)
nearest of [] = []
nearest of (a ∷ more) = some_or (nearest of more) (closest_texts of a.precedence a)

-- if there is an override, the topmost gives the texts, with the aggregates above it; otherwise the
-- aggregates do, with the file's own or, if it has none, those of the nearest `closest`
abbrev pub given_by : Subject → List (List ℕ) → List Annotation
    → Option (List Annotation × Annotation) → List (List ℕ)
given_by of own annotations (Some top) = aggregated of top.0 ++ texts_of of top.1
given_by of own annotations None = aggregated of annotations ++ some_or own (nearest of annotations)

-- The notices or the licences of a file, from what it states itself and from the annotations that
-- count, the root's first (REUSE Specification 3.3, "REUSE.toml").
abbrev pub given : Subject → List (List ℕ) → List Annotation → List (List ℕ)
given of own annotations = given_by of own annotations (topmost annotations)
