-- What a REUSE.toml says, as it is read.
use Rattle.std.proofs.Common.{◌≡◌, ◌∙◌, ◌⊎◌, inl, inr, cond, List, ap}
use Rattle.std.specs.Prelude.{◌≢◌, alloc_error, Ok, Err}
use Rattle.std.specs.Str.{IsUtf8, is_utf8}
use Rattle.std.proofs.lemmas.Str.{IsUtf8-from_is_utf8, is_utf8-from_IsUtf8}
use Rattle.std.proofs.lemmas.Bool.{cases_Bool}
use Rattle.desk_tree_annotations.specs.declared.annotation.Annotation.{Annotation}
use Rattle.desk_tree_annotations.specs.declared.fault.AnnotationsFault.{AnnotationsFault}
use Rattle.desk_tree_annotations.specs.declared.fault.AnnotationsFault.TheVariants.{Memory}
use Rattle.desk_tree_annotations.specs.Reading.{annotations_of}
use Rattle.desk_tree_gather.specs.declared.fault.GatherFault.TheVariants.{BadToml}
use Rattle.desk_tree_gather.specs.declared.files.SourceFile.{SourceFile}
use Rattle.desk_tree_infos.specs.Readers.{Reader}
use Rattle.desk_tree_gather.specs.Paths.{folder_of}
use Rattle.desk_tree_gather.specs.Tomls.{told_of, toml_read, toml_of}

pub toml_no_text : (r : Reader) (f : SourceFile) → (IsUtf8 f.bytes → ⊥)
    → toml_of r f ≡ Err (BadToml f.path)
toml_no_text r f none =
    elim (cases_Bool (is_utf8 f.bytes)) [
      | inl is ↦ absurd (none (IsUtf8-from_is_utf8 f.bytes is))
      | inr other ↦ ap (λ b. cond b (toml_read f.path (annotations_of r.reading f.bytes))
          (Err (BadToml f.path))) other
    ]

text_read : (r : Reader) (f : SourceFile) → IsUtf8 f.bytes
    → toml_of r f ≡ toml_read f.path (annotations_of r.reading f.bytes)
text_read r f is = ap (λ b. cond b (toml_read f.path (annotations_of r.reading f.bytes))
    (Err (BadToml f.path))) (is_utf8-from_IsUtf8 f.bytes is)

pub toml_good : (r : Reader) (f : SourceFile) (list : List Annotation) → IsUtf8 f.bytes
    → annotations_of r.reading f.bytes ≡ Ok list
    → toml_of r f ≡ Ok (record { folder = folder_of f.path; annotations = list })
toml_good r f list is read = text_read r f is ∙ ap (toml_read f.path) read

pub toml_fault : (r : Reader) (f : SourceFile) (fault : AnnotationsFault) → IsUtf8 f.bytes
    → (fault ≢ Memory alloc_error)
    → (fault ≡ Memory alloc_error) ⊎ (annotations_of r.reading f.bytes ≡ Err fault)
    → toml_of r f ≡ Err (told_of f.path fault)
toml_fault r f fault is other (inl memory) = absurd (other memory)
toml_fault r f fault is other (inr read) = text_read r f is ∙ ap (toml_read f.path) read
