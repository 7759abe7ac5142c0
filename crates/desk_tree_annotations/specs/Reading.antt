-- The annotations of a REUSE.toml, or its first fault: first those of the whole document, then
-- those of each annotation in turn. If an annotation has several faults, the one with the lowest
-- number is reported.
use Rattle.std.specs.Prelude.{ℕ, ◌+◌, List, [], map, codes, Option, Some, None, Result, Ok, Err, if◌then◌else◌}
use Rattle.std.specs.Option.{ok_or}
use Rattle.std.specs.List.{list_all}
use Rattle.toml.specs.Data.{Data, as_array, as_table, get_member, Items, no_items, item, Members}
use Rattle.toml.specs.Parse.{parse_document}
use Rattle.desk_tree_annotations.specs.declared.annotation.Annotation.{Annotation}
use Rattle.desk_tree_annotations.specs.declared.fault.AnnotationFault.TheVariants.{NoPath, BadKind}
use Rattle.desk_tree_annotations.specs.declared.fault.AnnotationFault.TheVariants.{BadPrecedence}
use Rattle.desk_tree_annotations.specs.declared.fault.AnnotationFault.TheVariants.{BadExpression}
use Rattle.desk_tree_annotations.specs.declared.fault.AnnotationsFault.{AnnotationsFault}
use Rattle.desk_tree_annotations.specs.declared.fault.AnnotationsFault.TheVariants.{BadToml, BadAnnotation}
use Rattle.desk_tree_annotations.specs.Right.{Reading}
use Rattle.desk_tree_annotations.specs.Values.{texts_of, texts_at, precedence_text, precedence_of, is_version}
use Rattle.desk_base.specs.Results.{then_read, followed}

-- something, or its fault
abbrev pub Read : Type 0 → Type 0
Read A = Result A AnnotationsFault

-- each item in turn, with its index, or the first fault
abbrev pub each : {A : Type 0} → (ℕ → Data → Read A) → ℕ → Items → Read (List A)
each entry index no_items = Ok []
each entry index (item d ds) = followed (entry index d) (each entry (index + 1) ds)

-- what an annotation says, as it is written
pub record WrittenTexts : Type 0 where
  pub paths : List (List ℕ)
  pub precedence : List ℕ
  pub notices : List (List ℕ)
  pub licences : List (List ℕ)

-- What these values say, if each has its kind. A value of another kind is missing here, and the
-- fault is BadKind whichever it is.
abbrev pub written_by : ℕ → Option (List (List ℕ)) → Option (List ℕ) → Option (List (List ℕ))
    → Option (List (List ℕ)) → Read WrittenTexts
written_by index (Some paths) (Some precedence) (Some notices) (Some licences) =
    Ok (record { paths = paths; precedence = precedence; notices = notices; licences = licences })
written_by index (Some paths) (Some precedence) (Some notices) None = Err
    (BadAnnotation index BadKind)
written_by index (Some paths) (Some precedence) None licences = Err (BadAnnotation index BadKind)
written_by index (Some paths) None notices licences = Err (BadAnnotation index BadKind)
written_by index None precedence notices licences = Err (BadAnnotation index BadKind)

-- the values of a table's keys; the path must be there
abbrev pub written_with : ℕ → Members → Data → Read WrittenTexts
written_with index ms path =
    written_by index (texts_of path) (precedence_text (get_member (codes "precedence") ms))
    (texts_at (get_member (codes "SPDX-FileCopyrightText") ms))
    (texts_at (get_member (codes "SPDX-License-Identifier") ms))

-- what the entry with this index says: it is a table, and has a `path`
abbrev pub written_at : ℕ → Data → Read WrittenTexts
written_at index d =
    then_read (ok_or (as_table d) (BadAnnotation index BadKind)) (λ ms.
    then_read (ok_or (get_member (codes "path") ms) (BadAnnotation index NoPath))
    (written_with index ms))

-- the annotation with these texts, if its precedence is known and each licence is an expression
abbrev pub annotation_of : Reading → ℕ → WrittenTexts → Read Annotation
annotation_of r index w =
    then_read (ok_or (precedence_of w.precedence) (BadAnnotation index BadPrecedence))
    (λ precedence.
    if list_all r.is_expression w.licences
    then Ok (record {
      paths = map r.pieces w.paths;
      precedence = precedence;
      notices = w.notices;
      licences = w.licences;
    })
    else Err (BadAnnotation index BadExpression))

-- the annotation of the entry with this index, or its first fault
abbrev pub annotation_at : Reading → ℕ → Data → Read Annotation
annotation_at r index d = then_read (written_at index d) (annotation_of r index)

-- the entries that are listed: `annotations` may be absent, and else is a list
abbrev pub listed : Option Data → Read Items
listed None = Ok no_items
listed (Some d) = ok_or (as_array d) (BadAnnotation 0 BadKind)

-- those of a table of version 1
abbrev pub entries_in : Members → Read Items
entries_in ms = if is_version (get_member (codes "version") ms)
    then listed (get_member (codes "annotations") ms) else Err BadToml

-- the entries of a text that is TOML 1.0 with `version = 1`; their own faults come later
abbrev pub entries : List ℕ → Read Items
entries text = then_read (ok_or (parse_document text) BadToml) entries_in

-- those of a text
abbrev pub annotations_of : Reading → List ℕ → Read (List Annotation)
annotations_of r text = then_read (entries text) (each (annotation_at r) 0)
