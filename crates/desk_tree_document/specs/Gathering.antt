-- The answer for the document of a tree of files.
use Rattle.std.specs.Prelude.{◌≡◌, ◌≤◌, ◌<◌, ℕ, Bool, true, false, List, [], ◌++◌, length, map}
use Rattle.std.specs.Prelude.{codes, decimal, Ok, Err, All, Option, Some, None}
use Rattle.std.specs.String.{string_bytes}
use Rattle.desk_tree_annotations.specs.Numbers.{kind_number}
use Rattle.desk_base.specs.Limits.{document_bytes, document_elements}
use Rattle.desk_bom.specs.Codes.{IsCode}
use Rattle.desk_tree_gather.specs.declared.fault.GatherFault.{GatherFault}
use Rattle.desk_tree_gather.specs.declared.fault.GatherFault.TheVariants.{BadToml, BadAnnotation}
use Rattle.desk_tree_gather.specs.declared.fault.GatherFault.TheVariants.{BadExpression, BadPath}
use Rattle.desk_tree_gather.specs.declared.fault.GatherFault.TheVariants.{TwicePath, TooManyFiles}
use Rattle.desk_tree_gather.specs.declared.fault.GatherFault.TheVariants.{ExpressionTooLong, Memory}
use Rattle.desk_tree_gather.specs.declared.files.SourceFile.{SourceFile}
use Rattle.desk_tree_infos.specs.Readers.{Reader}
use Rattle.desk_tree_document.specs.Drafts.{Named, draft_of}
use Rattle.desk_tree_document.specs.Gaps.{gaps_of}
use Rattle.desk_tree_document.specs.declared.gaps.Gaps.{Gaps}
use Rattle.desk_tree_document.specs.Shipping.{ShipsWhenRead}
use Rattle.desk_tagvalue.specs.declared.drafts.Draft.{Draft}
use Rattle.desk_tagvalue.specs.declared.drafts.DraftFile.{DraftFile}
use Rattle.desk_tagvalue.specs.Documents.{Spells}
use Rattle.desk_tagvalue.specs.Drafts.{draft_lines}
use Rattle.desk_tagvalue.specs.Given.{GivesDraft}
use Rattle.desk_tagvalue.specs.Parts.{DocumentText}
use Rattle.desk_tagvalue.specs.Written.{Adds, Stands}
use Rattle.desk_tree_document.specs.declared.document.Gathering.{Gathering}
use Rattle.desk_tree_document.specs.declared.document.Gathering.TheVariants.{Document, Fault}
use Rattle.desk_tree_document.specs.declared.document.TextFault.{TextFault}
use Rattle.desk_tree_document.specs.declared.document.TextFault.TheVariants.{BadValue, Memory as NoMemory}

-- a fault's line: its name, and each of its values after a space; lack of memory has none
abbrev pub fault_line : GatherFault → List ℕ
fault_line (BadToml file) = codes "fault: BadToml " ++ file ++ codes "\n"
fault_line (BadAnnotation file index kind) = codes "fault: BadAnnotation "
    ++ (file ++ (codes " " ++ (decimal index
    ++ (codes " " ++ (decimal (kind_number kind) ++ codes "\n")))))
fault_line (BadExpression file line) = codes "fault: BadExpression "
    ++ (file ++ (codes " " ++ (decimal line ++ codes "\n")))
fault_line BadPath = codes "fault: BadPath\n"
fault_line TwicePath = codes "fault: TwicePath\n"
fault_line TooManyFiles = codes "fault: TooManyFiles\n"
fault_line ExpressionTooLong = codes "fault: ExpressionTooLong\n"
fault_line (Memory error) = []

-- the draft of a tree of files, with its verification code
abbrev pub IsDraft : Reader → List SourceFile → Named → Draft → Type 0
IsDraft r files title d = (draft_of r files title d.code ≡ Ok d)
    × IsCode (map (λ (f : DraftFile). f.digest) d.files) d.code

-- a text with no more bytes and elements than a document may have is read as a document that says
-- what a draft says
abbrev pub IsReadBack : Draft → List ℕ → Type 0
IsReadBack d text = length text ≤ document_bytes → length d.files < document_elements
    → (x : DocumentText) × Spells text (Ok x) × GivesDraft d x

-- the answer for a tree: the text of its draft's lines, from which the draft is read back and which
-- ships its package, whose code agrees, and about how many files the draft says nothing; or the
-- fault because of which it has no draft
abbrev pub IsGathering : Reader → List SourceFile → Named → Gathering → Type 0
IsGathering r files title (Document text gaps) =
    (d : Draft) × IsDraft r files title d × Adds [] (draft_lines d) (string_bytes text)
    × IsReadBack d (string_bytes text) × ShipsWhenRead d (string_bytes text) × (gaps ≡ gaps_of d)
IsGathering r files title (Fault fault) = (code : List ℕ) → draft_of r files title code ≡ Err fault

-- it has a draft with a value that can't be in its field
abbrev pub IsUnwritable : Reader → List SourceFile → Named → Type 0
IsUnwritable r files title = (d : Draft) × IsDraft r files title d
    × (All Stands (draft_lines d) → ⊥)

-- what is printed for a tree: the document, or the fault's line
abbrev pub gathering_text : Gathering → List ℕ
gathering_text (Document text gaps) = string_bytes text
gathering_text (Fault fault) = fault_line fault

-- whether it is a document
abbrev pub is_document : Gathering → Bool
is_document (Document text gaps) = true
is_document (Fault fault) = false

-- about how many files it says nothing, if it is one
abbrev pub gaps_in : Gathering → Option Gaps
gaps_in (Document text gaps) = Some gaps
gaps_in (Fault fault) = None

-- lack of memory is possible for any tree, `BadValue` only for one whose draft has such a value
abbrev pub MayFail : Reader → List SourceFile → Named → TextFault → Type 0
MayFail r files title BadValue = IsUnwritable r files title
MayFail r files title (NoMemory error) = Unit {0}
