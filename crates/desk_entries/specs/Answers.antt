-- What is written for a folder or a tree: a file that fills gaps, what standard error reports, and
-- the program's status.
use Rattle.std.specs.Prelude.{◌≡◌, ℕ, ◌==◌, Bool, true, false, List, [], ◌++◌, codes, length}
use Rattle.std.specs.Prelude.{nat_lt, Option, Some, None}
use Rattle.std.specs.List.{flat_map}
use Rattle.desk_base.specs.Limits as most
use Rattle.desk_base.specs.Terminal.{shown}
use Rattle.desk_tree_gather.specs.declared.files.SourceFile.{SourceFile}
use Rattle.desk_entries.specs.Sifting.{sifted}
use Rattle.desk_entries.specs.Written.{IsTextFile, if_fits}
use Rattle.desk_entries.specs.declared.answers.Answer.{Answer}
use Rattle.desk_entries.specs.declared.sifting.Left.{Left}
use Rattle.desk_entries.specs.declared.sifting.Reason.{Reason}
use Rattle.desk_entries.specs.declared.sifting.Reason.TheVariants.{BadName, NotUtf8, Nothing, Twice}
use Rattle.desk_entries.specs.declared.sifting.Sifted.{Sifted}

-- a reason in words
abbrev pub reason_words : Reason → List ℕ
reason_words BadName = codes "its name is no id of a licence or an exception, and no reference"
reason_words NotUtf8 = codes "it is not UTF-8"
reason_words Nothing = codes "it is empty, or says NONE or NOASSERTION"
reason_words Twice = codes "a file before it is named after the same id or reference"

-- the line of a file that is left out
abbrev pub left_line : Left → List ℕ
left_line left = shown left.path ++ (codes ": " ++ (reason_words left.reason ++ codes "\n"))

-- the lines of all of them
abbrev pub left_lines : List Left → List ℕ
left_lines left = flat_map left_line left

-- nothing is written, and standard error says why
abbrev pub refused : List ℕ → Answer
refused notes = record { text = []; notes = notes; status = 1 }

-- if a file is written, what is left out is reported, and else also why there is none
abbrev pub answer_by : List ℕ → Bool → Option (List ℕ) → Answer
answer_by notes true made = refused (notes ++ codes "no text is found\n")
answer_by notes false None =
    refused (notes ++ codes "more than 10000 texts or 4 MiB: use several folders\n")
answer_by notes false (Some file) = record { text = file; notes = notes; status = 0 }

-- the answer for a folder with these texts, and these files that are left out
abbrev pub AnswersSifted : Sifted → Answer → Type 0
AnswersSifted sifted answer = (file : List ℕ) × IsTextFile sifted.texts file
    × (answer ≡ answer_by (left_lines sifted.left) (length sifted.texts == 0)
    (if_fits (length sifted.texts) file))

-- the answer for files that are too many or aren't
abbrev pub AnswersIf : Bool → List SourceFile → Answer → Type 0
AnswersIf true files answer = answer ≡ refused (codes "more than 10000 files\n")
AnswersIf false files answer = AnswersSifted (sifted files) answer

-- the answer for a folder, of which more than 10,000 files are not read
abbrev pub IsTextsAnswer : List SourceFile → Answer → Type 0
IsTextsAnswer files answer = AnswersIf (nat_lt most.tree_files (length files)) files answer
