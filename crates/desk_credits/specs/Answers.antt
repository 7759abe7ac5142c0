-- What is written for a source tree: the file with its credit, what standard error reports, and the
-- program's status.
use Rattle.std.specs.Prelude.{◌≡◌, ℕ, Bool, true, false, List, [], ◌++◌, codes, decimal, length}
use Rattle.std.specs.Prelude.{nat_lt, Option, Some, None}
use Rattle.std.specs.List.{flat_map}
use Rattle.desk_base.specs.Limits as most
use Rattle.desk_base.specs.Terminal.{shown}
use Rattle.desk_entries.specs.Answers.{refused}
use Rattle.desk_entries.specs.declared.answers.Answer.{Answer}
use Rattle.desk_fill.specs.Values.{says_something}
use Rattle.desk_fill.specs.declared.fill.Credit.{Credit}
use Rattle.desk_tree_gather.specs.declared.files.SourceFile.{SourceFile}
use Rattle.desk_tree_gather.specs.declared.flaw.Flaw.{Flaw}
use Rattle.desk_tree_gather.specs.declared.flaw.Flaw.TheVariants.{TooManyFiles, BadPath, TwicePath}
use Rattle.desk_tree_gather.specs.declared.flaw.Flaw.TheVariants.{BadToml, BadAnnotation}
use Rattle.desk_tree_gather.specs.declared.flaw.Flaw.TheVariants.{BadExpression}
use Rattle.desk_tree_gather.specs.Survey.{flaws_of}
use Rattle.desk_tree_infos.specs.Readers.{Reader}
use Rattle.desk_credits.specs.declared.notice.Notice.{Notice}
use Rattle.desk_credits.specs.Notices.{AreNotices}
use Rattle.desk_credits.specs.Written.{IsCreditFile, credit_for, if_fits}

-- a line about a file
abbrev pub left_line : List ℕ → List ℕ → List ℕ
left_line path words = shown path ++ (codes ": " ++ (words ++ codes "\n"))

-- the line of a flaw because of which notices may be missing; a licence is none of them
abbrev pub flaw_line : Flaw → List ℕ
flaw_line TooManyFiles = []
flaw_line (BadPath path) = left_line path (codes "its path can not be in a tree")
flaw_line (TwicePath path) = left_line path (codes "its path is there twice")
flaw_line (BadToml path) = left_line path (codes "it is no TOML document of version 1")
flaw_line (BadAnnotation path index kind) =
    left_line path (codes "its annotation " ++ (decimal index ++ codes " can not be read"))
flaw_line (BadExpression path line text) = []

-- the lines of all of them
abbrev pub flaw_lines : List Flaw → List ℕ
flaw_lines flaws = flat_map flaw_line flaws

-- a file is written, or else standard error says why not
abbrev pub answer_by : List ℕ → Option (List ℕ) → Answer
answer_by notes None = refused (notes ++ codes "more than 4 MiB\n")
answer_by notes (Some file) = record { text = file; notes = notes; status = 0 }

-- the answer with a credit, by whether it says something
abbrev pub AnswersCredit : Bool → List ℕ → List Notice → Credit → Answer → Type 0
AnswersCredit false notes notices credit answer =
    answer ≡ refused (notes ++ codes "no notice is found\n")
AnswersCredit true notes notices credit answer = (file : List ℕ)
    × IsCreditFile notices credit file × (answer ≡ answer_by notes (if_fits file))

-- the answer with these notices
abbrev pub AnswersNotices : List ℕ → List Notice → Credit → Answer → Type 0
AnswersNotices notes notices credit answer =
    AnswersCredit (says_something credit.text) notes notices credit answer

-- the answer for a tree
abbrev pub AnswersTree : Reader → List SourceFile → List ℕ → Option (List ℕ) → Answer → Type 0
AnswersTree r files name version answer = (notices : List Notice) × AreNotices r files notices
    × AnswersNotices (flaw_lines (flaws_of r files)) notices (credit_for name version notices) answer

-- the answer for files that are too many or aren't
abbrev pub AnswersIf : Bool → Reader → List SourceFile → List ℕ → Option (List ℕ) → Answer → Type 0
AnswersIf true r files name version answer = answer ≡ refused (codes "more than 10000 files\n")
AnswersIf false r files name version answer = AnswersTree r files name version answer

-- the answer for a tree and a package, of which more than 10,000 files are not read
abbrev pub IsCreditsAnswer : Reader → List SourceFile → List ℕ → Option (List ℕ) → Answer → Type 0
IsCreditsAnswer r files name version answer =
    AnswersIf (nat_lt most.tree_files (length files)) r files name version answer
