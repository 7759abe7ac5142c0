-- Blanks of a REUSE.toml that can be read, and of one that can't.
use Rattle.std.proofs.Common.{◌≡◌, ℕ, cond, List, [], ap, sym}
use Rattle.std.specs.Str.{IsUtf8}
use Rattle.std.proofs.lemmas.Str.{is_utf8-from_IsUtf8}
use Rattle.desk_tree_annotations.specs.Reading.{annotations_of, entries}
use Rattle.desk_tree_annotations.specs.Right.{Reading}
use Rattle.desk_tree_annotations.specs.Sifting.{good_annotations, annotation_faults, Agrees}
use Rattle.desk_tree_annotations.proofs.SiftLemmas.{agrees_in}
use Rattle.desk_tree_gather.specs.declared.files.SourceFile.{SourceFile}
use Rattle.desk_tree_gather.specs.Blanks.{blanks_of, blanks_read}
use Rattle.desk_tree_gather.proofs.SurveyLemmas.{no_text}

pub agrees_annotations : (r : Reading) (text : List ℕ)
    → Agrees (annotations_of r text) (annotation_faults r text) (good_annotations r text)
agrees_annotations r text = agrees_in r (entries text)

pub blanks_no_text : (r : Reading) (f : SourceFile) → (IsUtf8 f.bytes → ⊥) → blanks_of r f ≡ []
blanks_no_text r f none = ap (λ b. cond b (blanks_read f.path (annotations_of r f.bytes)) [])
    (no_text f none)

pub blanks_text : (r : Reading) (f : SourceFile) → IsUtf8 f.bytes
    → blanks_read f.path (annotations_of r f.bytes) ≡ blanks_of r f
blanks_text r f text = ap (λ b. cond b (blanks_read f.path (annotations_of r f.bytes)) [])
    (sym (is_utf8-from_IsUtf8 f.bytes text))
