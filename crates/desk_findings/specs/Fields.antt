-- The fields of a document in their sections, and what single fields say.
use Rattle.std.specs.Prelude.{ℕ, ◌+◌, ◌-◌, ◌&&◌, ◌||◌, ◌==◌, not, nat_eq, Bool, true, false, List}
use Rattle.std.specs.Prelude.{[], ◌∷◌, Option, Some, None, is_none, length, codes, if◌then◌else◌}
use Rattle.std.specs.Prelude.{slice_get}
use Rattle.std.specs.List.{list_any, starts_with}
use Rattle.std.specs.Str.{bytes_eq}
use Rattle.desk_base.specs.Folded.{folded}
use Rattle.desk_base.specs.declared.profile.Profile.{Profile}
use Rattle.desk_expr.specs.declared.term.Term.{Term}
use Rattle.desk_expr.specs.Tree.{Tree}
use Rattle.desk_expr.specs.Occurring.{leaves}
use Rattle.desk_expr.specs.Spelling.{SpellsWithinBy}
use Rattle.desk_fields.specs.declared.tag.Tag.{Tag}
use Rattle.desk_fields.specs.declared.tag.Tag.TheVariants as tags
use Rattle.desk_fields.specs.Tags.{same_tag}
use Rattle.desk_fields.specs.Text.{first_word, after_word, skip_blanks}
use Rattle.desk_tagvalue.specs.declared.sections.SectionKind.{SectionKind}
use Rattle.desk_tagvalue.specs.Entries.{EntryText}
use Rattle.desk_tagvalue.specs.Faults.{kind_after}
use Rattle.desk_tagvalue.specs.Parts.{DocumentText, PackageText, is_sha1}
use Rattle.desk_tagvalue.specs.Sections.{section_begun, is_placed}
use Rattle.desk_bom.specs.Codes.{is_code, is_unanalyzed}
use Rattle.desk_bom.specs.declared.state.CodeState.{CodeState}
use Rattle.desk_bom.specs.declared.state.CodeState.TheVariants as states

-- ---- licence fields (clauses 7.13, 7.15, 8.5, 8.6; Annex D)

-- only this word
abbrev pub is_only_word : List ℕ → List ℕ → Bool
is_only_word word text = bytes_eq (first_word text) word
    && length (skip_blanks (after_word text)) == 0

-- only NONE or NOASSERTION, which names no licence
abbrev pub is_no_licence : List ℕ → Bool
is_no_licence text = is_only_word (codes "NONE") text || is_only_word (codes "NOASSERTION") text

-- the expression that a value is by a profile of operators, if it is one
abbrev pub IsRead : Profile → List ℕ → Option Tree → Type 0
IsRead profile text None = (e : Tree) → SpellsWithinBy profile text e → ⊥
IsRead profile text (Some e) = SpellsWithinBy profile text e

-- a reading of values as expressions by a profile of operators
abbrev pub IsReading : Profile → (List ℕ → Option Tree) → Type 0
IsReading profile reads = (text : List ℕ) → IsRead profile text (reads text)

-- the tags whose value is an expression, NONE or NOASSERTION
abbrev pub is_licence_field : Tag → Bool
is_licence_field tags.PackageConcluded = true
is_licence_field tags.PackageDeclared = true
is_licence_field tags.FileConcluded = true
is_licence_field tags.FileLicense = true
is_licence_field _ = false

-- ---- a field in its section

-- the kind of the section, how many packages have begun, the field
pub record FieldAt : Type 0 where
  pub section : SectionKind
  pub packages : ℕ
  pub entry : EntryText

-- how many packages have begun after a field
abbrev pub packages_after : ℕ → EntryText → ℕ
packages_after n e = if same_tag e.tag tags.PackageName then n + 1 else n

-- the fields of a text, if the last field before them was in a section of this kind, and this many
-- packages had begun
abbrev pub fields_in : SectionKind → ℕ → List EntryText → List FieldAt
fields_in kind n [] = []
fields_in kind n (e ∷ es) =
    record {
      section = kind_after (section_begun e.tag) kind;
      packages = packages_after n e;
      entry = e;
    }
    ∷ fields_in (kind_after (section_begun e.tag) kind) (packages_after n e) es

-- a field with this tag, in a section that has it
abbrev pub is_field : Tag → FieldAt → Bool
is_field tag f = same_tag f.entry.tag tag && is_placed f.section f.entry.tag

-- a tag that the standard doesn't have
abbrev pub is_unknown : FieldAt → Bool
is_unknown f = same_tag f.entry.tag tags.Unknown

-- a tag that is read, in a section that doesn't have it
abbrev pub is_misplaced : FieldAt → Bool
is_misplaced f = not (is_placed f.section f.entry.tag)

-- a licence field whose value is no expression and neither NONE nor NOASSERTION
abbrev pub is_bad_expression : (List ℕ → Option Tree) → FieldAt → Bool
is_bad_expression reads f =
    is_licence_field f.entry.tag && is_placed f.section f.entry.tag
    && not (is_no_licence f.entry.value) && is_none (reads f.entry.value)

-- a reference within the document that no extracted licence defines
abbrev pub is_undefined : DocumentText → Term → Bool
is_undefined d t = starts_with nat_eq t.key (codes "LicenseRef-")
    && not (list_any (λ x. bytes_eq x.id t.key) d.extracted)

-- such a reference is in an expression; a value that is none has no terms
abbrev pub uses_undefined : DocumentText → Option Tree → Bool
uses_undefined d None = false
uses_undefined d (Some e) = list_any (is_undefined d) (leaves e)

-- a package's concluded licence (clause 7.13) uses such a reference; other fields aren't looked at
abbrev pub is_undefined_use : (List ℕ → Option Tree) → DocumentText → FieldAt → Bool
is_undefined_use reads d f = is_field tags.PackageConcluded f && not (is_no_licence f.entry.value)
    && uses_undefined d (reads f.entry.value)

-- a SHA1 of another form
abbrev pub is_bad_digest : FieldAt → Bool
is_bad_digest f = is_field tags.FileChecksum f && starts_with nat_eq f.entry.value (codes "SHA1:")
    && not (is_sha1 f.entry.value)

-- a verification code of another form (clause 7.9)
abbrev pub is_bad_code : FieldAt → Bool
is_bad_code f = is_field tags.VerificationCode f && not (is_code f.entry.value)

-- the state of a code that isn't that of the files
abbrev pub is_differing : CodeState → Bool
is_differing states.Differs = true
is_differing _ = false

-- the code of the package that the field belongs to
abbrev pub differs : (ℕ → CodeState) → FieldAt → Bool
differs state f = is_field tags.VerificationCode f && is_differing (state (f.packages - 1))

-- FilesAnalyzed of a package (clause 7.8), if it has that field
abbrev pub flag_of : Option PackageText → Option (List ℕ)
flag_of None = None
flag_of (Some p) = p.files_analyzed

-- a code although FilesAnalyzed is false
abbrev pub is_unwanted_code : DocumentText → FieldAt → Bool
is_unwanted_code d f = is_field tags.VerificationCode f
    && is_unanalyzed (flag_of (slice_get d.packages (f.packages - 1)))

-- `true` or `false` in any case
abbrev pub is_flag : List ℕ → Bool
is_flag value = bytes_eq (folded value) (codes "true") || bytes_eq (folded value) (codes "false")

-- FilesAnalyzed with another value, which counts as true
abbrev pub is_bad_flag : FieldAt → Bool
is_bad_flag f = is_field tags.FilesAnalyzed f && not (is_flag f.entry.value)
