-- What `propose` writes, and the status that it returns.
use Rattle.std.specs.Prelude.{◌≡◌, ◌⊎◌, ℕ, List, Option, Ok, Err}
use Rattle.std.specs.String.{string_bytes}
use Rattle.desk_expr.specs.Tree.{Tree}
use Rattle.desk_model.specs.Readings.{Readings}
use Rattle.desk_model.specs.declared.command.Answer.TheVariants.{Refused}
use Rattle.desk_model.specs.declared.command.Outcome.TheVariants.{Answered}
use Rattle.desk_model.specs.declared.refusal.DocumentFault.{DocumentFault}
use Rattle.desk_model.specs.declared.refusal.Refusal.TheVariants.{BadDocument}
use Rattle.desk_import.specs.Proposals.{AreProposals}
use Rattle.desk_import.specs.declared.proposals.Proposals.{Proposals}
use Rattle.desk_tagvalue.specs.Documents.{Spells}
use Rattle.desk_tagvalue.specs.Parts.{DocumentText}
use Rattle.desk_subcommands.specs.Filing.{outcome_line}

-- the lines that are proposed for a document
abbrev pub HasLines : (List ℕ → Option Tree) → ℕ → DocumentText → List ℕ → ℕ → Type 0
HasLines reads number d text status =
    (proposals : Proposals) × AreProposals reads number d proposals
    × (text ≡ string_bytes proposals.lines) × (status ≡ 0)

-- the reply to an import of bytes that are no document
abbrev pub IsRefused : Readings → List ℕ → List ℕ → ℕ → Type 0
IsRefused w bytes text status =
    (fault : DocumentFault) × (w.document bytes ≡ Err fault)
    × (text ≡ outcome_line (Answered (Refused (BadDocument fault)))) × (status ≡ 1)

-- the text and the status for the proposals for the document that bytes spell, or for bytes that
-- spell none
abbrev pub Proposes : Readings → (List ℕ → Option Tree) → ℕ → List ℕ → List ℕ → ℕ → Type 0
Proposes w reads number bytes text status =
    ((d : DocumentText) × Spells bytes (Ok d) × HasLines reads number d text status)
    ⊎ IsRefused w bytes text status
