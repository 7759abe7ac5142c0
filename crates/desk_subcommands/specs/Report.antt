-- The one line that `check` writes, and the status that it returns.
use Rattle.std.specs.Prelude.{◌≡◌, ℕ, ◌<◌, List, [], ◌∷◌, ◌++◌, codes, slice_get, Some, Contains, decimal}
use Rattle.desk_base.specs.declared.profile.Profile.{Profile}
use Rattle.desk_expr.specs.declared.fault.ParseFault.{ParseFault}
use Rattle.desk_expr.specs.declared.term.Term.{Term}
use Rattle.desk_expr.specs.Tree.{Tree}
use Rattle.desk_expr.specs.Grammar.{SpellsTree}
use Rattle.desk_expr.specs.Spelling.{SpellsWithinBy, SpellsTermWithin, IsStopBy, SpellsNoTerm}
use Rattle.desk_expr.specs.Faults.{fault_name, fault_number, fault_place}
use Rattle.desk_expr.specs.Meaning.{Holds, IsMinimal, CanGo, IsFirst}
use Rattle.desk_subcommands.specs.declared.report.Report.{Report}
use Rattle.desk_subcommands.specs.declared.report.Report.TheVariants.{Minimal, NotEnough, Superfluous, BadTerm, Fault}
use Rattle.desk_subcommands.specs.declared.checking.Terms.{Terms}
use Rattle.desk_subcommands.specs.declared.checking.Terms.TheVariants as terms_read

-- ---- the words

-- each word spells its term
abbrev pub SpellTerms : List (List ℕ) → List Term → Type 0
SpellTerms [] [] = Unit {0}
SpellTerms [] (term ∷ more) = ⊥
SpellTerms (word ∷ words) [] = ⊥
SpellTerms (word ∷ words) (term ∷ more) = SpellsTermWithin word term × SpellTerms words more

-- the first word that spells no term; each word before it spells one
abbrev pub IsFirstBad : List (List ℕ) → List ℕ → Type 0
IsFirstBad words bad =
    (front : List (List ℕ)) × (behind : List (List ℕ)) × (words ≡ front ++ bad ∷ behind)
    × ((terms : List Term) × SpellTerms front terms) × SpellsNoTerm bad

-- ---- the answer

-- how the terms of the words satisfy the tree
abbrev pub IsVerdict : List (List ℕ) → List Term → Tree → Report → Type 0
IsVerdict words terms tree Minimal = IsMinimal terms tree
IsVerdict words terms tree NotEnough = Holds (Contains terms) tree → ⊥
IsVerdict words terms tree (Superfluous word) = (i : ℕ) × (slice_get words i ≡ Some word.now)
    × IsFirst (CanGo terms tree) i
IsVerdict words terms tree _ = ⊥

-- read by the profile, the expression spells no tree, and reading stops with this fault, which is
-- not for lack of memory
abbrev pub StopsWith : Profile → List ℕ → ParseFault → Type 0
StopsWith profile expression fault =
    ((tree : Tree) → SpellsWithinBy profile expression tree → ⊥) × (0 < fault_number fault)
    × IsStopBy SpellsTree profile expression fault

-- the answer to an expression, its profile of operators and words: a fault of the expression first,
-- then the first bad word, then the verdict
abbrev pub IsReport : Profile → List ℕ → List (List ℕ) → Report → Type 0
IsReport profile expression words (Fault fault) = StopsWith profile expression fault
IsReport profile expression words (BadTerm word) = ((tree : Tree)
    × SpellsWithinBy profile expression tree) × IsFirstBad words word.now
IsReport profile expression words verdict =
    (tree : Tree) × (terms : List Term) × SpellsWithinBy profile expression tree
    × SpellTerms words terms × IsVerdict words terms tree verdict

-- ---- its text

-- the answer's line, without its end
abbrev pub text_of : Report → List ℕ
text_of Minimal = codes "minimal"
text_of NotEnough = codes "not enough"
text_of (Superfluous word) = codes "superfluous: " ++ word.now
text_of (BadTerm word) = codes "bad term: " ++ word.now
text_of (Fault fault) = codes "fault: " ++ fault_name fault ++ codes " at "
    ++ decimal (fault_place fault)

-- the program's status: done, or refused
abbrev pub status_of : Report → ℕ
status_of Minimal = 0
status_of _ = 1

-- the line and the status that say whether the words are a minimal choice for the expression
abbrev pub Tells : Profile → List ℕ → List (List ℕ) → List ℕ → ℕ → Type 0
Tells profile expression words line status =
    (report : Report) × IsReport profile expression words report × (line ≡ text_of report)
    × (status ≡ status_of report)

-- there is only one such line and one such status
abbrev pub TellsOnce : Profile → List ℕ → List (List ℕ) → Type 0
TellsOnce profile expression words =
    (line other : List ℕ) (status another : ℕ) → Tells profile expression words line status
    → Tells profile expression words other another
    → (line ≡ other) × (status ≡ another)

-- ---- the reading of the words

-- the terms of the words, or the first bad word
abbrev pub IsReadTo : List (List ℕ) → Terms → Type 0
IsReadTo words (terms_read.All terms) = SpellTerms words terms.items
IsReadTo words (terms_read.Bad word) = IsFirstBad words word.now
