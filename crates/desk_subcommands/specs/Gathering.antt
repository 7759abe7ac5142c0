-- What `gather` writes, and the status that it returns.
use Rattle.std.specs.Prelude.{◌≡◌, ◌++◌, ◌&&◌, ◌==◌, ℕ, Bool, List, [], Option, Some, None, codes, decimal, if◌then◌else◌}
use Rattle.desk_report.specs.Terminal.{lines_shown, text_on}
use Rattle.desk_tree_gather.specs.declared.files.SourceFile.{SourceFile}
use Rattle.desk_tree_infos.specs.Readers.{Reader}
use Rattle.desk_tree_document.specs.Drafts.{Named}
use Rattle.desk_tree_document.specs.declared.document.Gathering.{Gathering}
use Rattle.desk_tree_document.specs.declared.gaps.Gaps.{Gaps}
use Rattle.desk_tree_document.specs.Gathering.{IsGathering, gathering_text, is_document}
use Rattle.desk_subcommands.specs.declared.gathering.Title.{Title}

-- what a document says of itself
abbrev pub named : Title → Named
named title = record {
  name = title.name.now;
  namespace = title.namespace.now;
  created = title.created.now;
}

-- the program's status: done if there is a document, and else refused
abbrev pub gathering_status : Gathering → ℕ
gathering_status answer = if is_document answer then 0 else 1

-- the text and the status for the document of a tree; a terminal gets the text as it shows it
abbrev pub Gathers : Reader → List SourceFile → Title → Bool → List ℕ → ℕ → Type 0
Gathers r files title is_terminal text status =
    (answer : Gathering) × IsGathering r files (named title) answer
    × (text ≡ text_on is_terminal (gathering_text answer)) × (status ≡ gathering_status answer)

-- the line on the files of which the document says no licence or no notice, if there are any
abbrev pub gaps_line : Gaps → List ℕ
gaps_line gaps = if gaps.licences == 0 && gaps.notices == 0 then []
    else codes "files without a licence: " ++ (decimal gaps.licences
    ++ (codes ", without a notice: " ++ (decimal gaps.notices
    ++ codes "; the document says NOASSERTION of them\n")))

-- what is reported besides the text, which may go into a file: this line of a document, and the
-- text itself if it is that of a fault
abbrev pub report : Option Gaps → List ℕ → List ℕ
report None text = lines_shown text
report (Some gaps) text = gaps_line gaps
