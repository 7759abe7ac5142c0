-- All findings of a document.
use Rattle.std.specs.Prelude.{◌≡◌, ℕ, ◌<◌, ◌≤◌, ◌&&◌, ◌||◌, nat_eq, Bool, List, ◌++◌, Option, is_none, length, codes}
use Rattle.std.specs.List.{flat_map, starts_with}
use Rattle.std.specs.List.Sorted.{IsPermutation, IsSorted}
use Rattle.desk_expr.specs.Tree.{Tree}
use Rattle.desk_fields.specs.declared.tag.Tag.TheVariants as tags
use Rattle.desk_tagvalue.specs.declared.sections.SectionKind.TheVariants as sections
use Rattle.desk_tagvalue.specs.Entries.{value_of}
use Rattle.desk_tagvalue.specs.Parts.{DocumentText, EdgeText, PackageText, FileText, ExtractedText}
use Rattle.desk_bom.specs.Codes.{IsState}
use Rattle.desk_bom.specs.Elements.{element_named}
use Rattle.desk_bom.specs.declared.state.CodeState.{CodeState}
use Rattle.desk_bom.specs.declared.state.CodeState.TheVariants.{Absent}
use Rattle.desk_model.specs.declared.finding.Finding.{Finding}
use Rattle.desk_model.specs.declared.finding.FindingKind.TheVariants as kinds
use Rattle.desk_model.specs.declared.finding.MissingField.TheVariants as missing
use Rattle.desk_findings.specs.Kinds.{noted, finding_order}
use Rattle.desk_findings.specs.Fields.{FieldAt, fields_in, is_unknown, is_misplaced}
use Rattle.desk_findings.specs.Fields.{is_bad_expression, is_undefined_use, is_bad_digest}
use Rattle.desk_findings.specs.Fields.{is_bad_code, differs, is_unwanted_code, is_bad_flag}

-- those of a field
abbrev pub field_findings : (List ℕ → Option Tree) → (ℕ → CodeState) → DocumentText → FieldAt
    → List Finding
field_findings reads state d f =
    noted (is_unknown f) f.entry.line kinds.UnknownTag
    ++ (noted (is_misplaced f) f.entry.line kinds.Misplaced
    ++ (noted (is_bad_expression reads f) f.entry.line kinds.BadExpression
    ++ (noted (is_bad_digest f) f.entry.line kinds.BadDigest
    ++ (noted (is_bad_code f) f.entry.line kinds.BadCode
    ++ (noted (differs state f) f.entry.line kinds.CodeDiffers
    ++ (noted (is_unwanted_code d f) f.entry.line kinds.CodeUnwanted
    ++ (noted (is_bad_flag f) f.entry.line kinds.BadFlag
    ++ noted (is_undefined_use reads d f) f.entry.line kinds.UndefinedRef)))))))

-- an identifier of this document that none of its elements has
abbrev pub is_lost : DocumentText → List ℕ → Bool
is_lost d id = starts_with nat_eq id (codes "SPDXRef-") && is_none (element_named d id)

-- those of a relationship
abbrev pub edge_findings : DocumentText → EdgeText → List Finding
edge_findings d e = noted (is_lost d e.left || is_lost d e.right) e.line kinds.Dangling

-- those of fields that are missing
abbrev pub missing_of_document : DocumentText → List Finding
missing_of_document d =
    noted (is_none (value_of tags.DataLicense d.entries)) 1 (kinds.MissingField missing.DataLicense)
    ++ (noted (is_none (value_of tags.Creator d.entries)) 1 (kinds.MissingField missing.Creator)
    ++ noted (is_none (value_of tags.Created d.entries)) 1 (kinds.MissingField missing.Created))

-- PackageDownloadLocation (clause 7.7), at the line where the package begins
abbrev pub missing_of_package : PackageText → List Finding
missing_of_package p = noted (is_none p.download_location) p.line
    (kinds.MissingField missing.DownloadLocation)

-- a FileChecksum with a SHA1 (clause 8.4), at the line where the file begins
abbrev pub missing_of_file : FileText → List Finding
missing_of_file f = noted (is_none f.sha1) f.line (kinds.MissingField missing.Checksum)

-- ExtractedText (clause 10.2), at the line where the licence begins
abbrev pub missing_of_extracted : ExtractedText → List Finding
missing_of_extracted x = noted (is_none x.text) x.line (kinds.MissingField missing.ExtractedText)

-- everything that isn't as the standard has it
abbrev pub all_findings : (List ℕ → Option Tree) → (ℕ → CodeState) → DocumentText → List Finding
all_findings reads state d =
    flat_map (field_findings reads state d) (fields_in sections.Document 0 d.entries)
    ++ (flat_map (edge_findings d) d.edges
    ++ (missing_of_document d
    ++ (flat_map missing_of_package d.packages
    ++ (flat_map missing_of_file d.files
    ++ flat_map missing_of_extracted d.extracted))))

-- the states of the codes of all packages; if there is no package, there is no code
pub record AreStates (d : DocumentText) (state : ℕ → CodeState) : Type 0 where
  pub of_packages : (k : ℕ) → k < length d.packages → IsState d k (state k)
  pub past_packages : (k : ℕ) → length d.packages ≤ k → state k ≡ Absent

-- each of these once, by line, by kind, and in the stated order
pub record AreFindings (reads : List ℕ → Option Tree) (d : DocumentText)
    (found : List Finding) : Type 0 where
  pub state : ℕ → CodeState
  pub states : AreStates d state
  pub each : IsPermutation (all_findings reads state d) found
  pub ordered : IsSorted finding_order found
