-- What is reported about each problem: where it is, what is wrong, and what to do.
use Rattle.std.specs.Prelude.{◌≡◌, ◌<◌, ℕ, nat_eq, nat_lt, Bool, true, false, List, [], ◌∷◌, ◌++◌}
use Rattle.std.specs.Prelude.{length, map, codes, decimal, Option, Some, None, if◌then◌else◌}
use Rattle.std.specs.List.{list_any, starts_with, ends_with}
use Rattle.desk_expr.specs.Faults.{fault_number, fault_name, fault_place}
use Rattle.desk_expr.specs.Grammar.{SpellsTree}
use Rattle.desk_expr.specs.Spelling.{SpellsWithin, IsStop}
use Rattle.desk_expr.specs.Tree.{Tree}
use Rattle.desk_expr.specs.declared.fault.ParseFault.{ParseFault}
use Rattle.desk_tree_annotations.specs.declared.fault.AnnotationFault.{AnnotationFault}
use Rattle.desk_tree_annotations.specs.declared.fault.AnnotationFault.TheVariants.{NoPath, BadKind}
use Rattle.desk_tree_annotations.specs.declared.fault.AnnotationFault.TheVariants.{BadPrecedence}
use Rattle.desk_tree_annotations.specs.declared.fault.AnnotationFault.TheVariants.{BadExpression as BadLicence}
use Rattle.desk_tree_gather.specs.declared.flaw.Flaw.{Flaw}
use Rattle.desk_tree_gather.specs.declared.flaw.Flaw.TheVariants.{TooManyFiles, BadPath, TwicePath}
use Rattle.desk_tree_gather.specs.declared.flaw.Flaw.TheVariants.{BadToml, BadAnnotation}
use Rattle.desk_tree_gather.specs.declared.flaw.Flaw.TheVariants.{BadExpression}
use Rattle.desk_tree_lint.specs.declared.naming.Name.{Name}
use Rattle.desk_tree_problems.specs.declared.bare.Bare.{Bare}
use Rattle.desk_tree_problems.specs.declared.bare.Lacking.{Lacking}
use Rattle.desk_tree_gather.specs.declared.blanks.Blank.{Blank}
use Rattle.desk_tree_problems.specs.declared.bare.Lacking.TheVariants.{Notice, Licence, Both}
use Rattle.desk_tree_problems.specs.declared.problems.Problems.{Problems}
use Rattle.desk_tree_problems.specs.declared.row.Kind.{Kind}
use Rattle.desk_tree_problems.specs.declared.row.Kind.TheVariants as kind
use Rattle.desk_tree_problems.specs.declared.row.Row.{Row}

-- the place of a kind in the order in which rows are reported
abbrev pub kind_number : Kind → ℕ
kind_number kind.Dep5 = 0
kind_number kind.TooManyFiles = 1
kind_number kind.BadPath = 2
kind_number kind.TwicePath = 3
kind_number kind.BadToml = 4
kind_number kind.BadAnnotation = 5
kind_number kind.BadExpression = 6
kind_number kind.BlankAtEnd = 7
kind_number kind.Missing = 8
kind_number kind.Unused = 9
kind_number kind.Bare = 10

-- each kind, in the order in which they are reported
abbrev pub kinds : List Kind
kinds = kind.Dep5 ∷ kind.TooManyFiles ∷ kind.BadPath ∷ kind.TwicePath ∷ kind.BadToml
    ∷ kind.BadAnnotation ∷ kind.BadExpression ∷ kind.BlankAtEnd ∷ kind.Missing ∷ kind.Unused
    ∷ kind.Bare ∷ []

-- the name of a kind, as the report writes it
abbrev pub kind_name : Kind → List ℕ
kind_name kind.Dep5 = codes "Dep5"
kind_name kind.TooManyFiles = codes "TooManyFiles"
kind_name kind.BadPath = codes "BadPath"
kind_name kind.TwicePath = codes "TwicePath"
kind_name kind.BadToml = codes "BadToml"
kind_name kind.BadAnnotation = codes "BadAnnotation"
kind_name kind.BadExpression = codes "BadExpression"
kind_name kind.BlankAtEnd = codes "BlankAtEnd"
kind_name kind.Missing = codes "Missing"
kind_name kind.Unused = codes "Unused"
kind_name kind.Bare = codes "Bare"

-- a row without a line
abbrev pub plain_row : Kind → List ℕ → List ℕ → Row
plain_row k path message = record { kind = k; path = path; line = None; message = message }

-- ---- flaws

-- what is wrong with an annotation
abbrev pub annotation_words : AnnotationFault → List ℕ
annotation_words NoPath = codes "no path: give it the paths of its files"
annotation_words BadKind = codes "a value of another kind: write a text or a list of texts"
annotation_words BadPrecedence = codes "an unknown precedence: write closest, aggregate or override"
annotation_words BadLicence = codes
    "a licence that is no expression: write one as in SPDX 2.3, Annex D"

-- the fault at which a text that is no licence expression stops, or none if it is one
abbrev pub StopsAt : List ℕ → Option ParseFault → Type 0
StopsAt text None = (e : Tree) × SpellsWithin text e
StopsAt text (Some fault) = ((e : Tree) → SpellsWithin text e → ⊥) × (0 < fault_number fault)
    × IsStop SpellsTree text fault

-- the fault of an expression and the byte at which it stops, in parentheses
abbrev pub stop_words : Option ParseFault → List ℕ
stop_words None = []
stop_words (Some fault) = codes " ("
    ++ (fault_name fault ++ (codes " at " ++ (decimal (fault_place fault) ++ codes ")")))

-- a text in quotes, or how long it is if it is over 200 bytes
abbrev pub quoted : List ℕ → List ℕ
quoted text = if nat_lt 200 (length text)
    then codes "a text of " ++ (decimal (length text) ++ codes " bytes")
    else codes "'" ++ (text ++ codes "'")

-- what to do about a text that is no licence expression
abbrev pub mending_words : List ℕ
mending_words = codes
    " is no licence expression: mend it, state the licence in FILE.license beside the file, or put REUSE-IgnoreStart before the line and REUSE-IgnoreEnd behind it"

-- what is wrong with such a text, and what to do
abbrev pub expression_words : List ℕ → Option ParseFault → List ℕ
expression_words text stop = quoted text ++ (stop_words stop ++ mending_words)

-- what is wrong with a path that can't be in a tree
abbrev pub low_words : List ℕ
low_words = codes "a byte below 32 in the path, as a line end or a tab: give the file another name"

-- what is wrong with a path that ends with a space
abbrev pub blank_words : List ℕ
blank_words = codes "a blank at the end of the path: give the file another name"

-- what is wrong with the parts of any other path that can't be in a tree
abbrev pub part_words : List ℕ
part_words = codes "an empty part, . or .. in the path: give its parts from the root, each a name"

-- what is wrong with a path: of several faults, the first in this order
abbrev pub path_words : List ℕ → List ℕ
path_words path =
    if list_any (λ b. nat_lt b 32) path then low_words
    else (if ends_with nat_eq path (codes " ") then blank_words else part_words)

-- the row of a flaw, if the text of a tag stops with this fault
abbrev pub flaw_row : Flaw → Option ParseFault → Row
flaw_row TooManyFiles stop = plain_row kind.TooManyFiles (codes ".")
    (codes "more than 10,000 files: remove files that are not part of the source")
flaw_row (BadPath path) stop = plain_row kind.BadPath path (path_words path)
flaw_row (TwicePath path) stop = plain_row kind.TwicePath path
    (codes "a path that stands twice: keep one of the files")
flaw_row (BadToml path) stop = plain_row kind.BadToml path
    (codes "no TOML document of version 1: mend it, with version = 1 at its top")
flaw_row (BadAnnotation path index fault) stop = plain_row kind.BadAnnotation path
    (codes "annotation " ++ (decimal index
    ++ (codes ", counted from 0, has " ++ annotation_words fault)))
flaw_row (BadExpression path line text) stop = record {
  kind = kind.BadExpression;
  path = path;
  line = Some line;
  message = expression_words text stop;
}

-- the kind of a flaw
abbrev pub flaw_kind : Flaw → Kind
flaw_kind TooManyFiles = kind.TooManyFiles
flaw_kind (BadPath path) = kind.BadPath
flaw_kind (TwicePath path) = kind.TwicePath
flaw_kind (BadToml path) = kind.BadToml
flaw_kind (BadAnnotation path index fault) = kind.BadAnnotation
flaw_kind (BadExpression path line text) = kind.BadExpression

-- how the text of a flaw stops, where it has one
abbrev pub StopsSo : Flaw → Option ParseFault → Type 0
StopsSo (BadExpression path line text) stop = StopsAt text stop
StopsSo _ stop = stop ≡ None

-- the row is that of the flaw; for a licence, with the place where its text stops
abbrev pub IsFlawRow : Flaw → Row → Type 0
IsFlawRow flaw row = (stop : Option ParseFault) × StopsSo flaw stop × (row ≡ flaw_row flaw stop)

-- a row for each flaw
abbrev pub AreFlawRows : List Flaw → List Row → Type 0
AreFlawRows [] [] = Unit {0}
AreFlawRows [] (row ∷ rows) = ⊥
AreFlawRows (flaw ∷ flaws) [] = ⊥
AreFlawRows (flaw ∷ flaws) (row ∷ rows) = IsFlawRow flaw row × AreFlawRows flaws rows

-- ---- licences that no document can hold

-- the row of an annotation with such a licence
abbrev pub blank_row : Blank → Row
blank_row blank = plain_row kind.BlankAtEnd blank.path
    (codes "annotation " ++ (decimal blank.index
    ++ codes
    ", counted from 0, has a licence with a blank at an end, which no document can hold: take the blank away"))

-- ---- older annotations

-- the row of the older file of annotations, if it is there (REUSE Specification 3.3 allows it and
-- calls it deprecated)
abbrev pub dep5_rows : Bool → List Row
dep5_rows true = plain_row kind.Dep5 (codes ".reuse/dep5")
    (codes
    "this file isn't read: write what it says into a REUSE.toml, and take it away; until then no text is called unused")
    ∷ []
dep5_rows false = []

-- ---- lists

-- which file names a licence
abbrev pub named_words : Option (List ℕ) → List ℕ
named_words None = []
named_words (Some path) = codes ", which " ++ (path ++ codes " names")

-- what to do about a missing text; that of a licence of another document isn't kept here
abbrev pub text_words : List ℕ → List ℕ
text_words id =
    if starts_with nat_eq id (codes "DocumentRef-")
    then codes ": its text is in another document, so name a licence whose text is in LICENSES/"
    else codes ": add it as LICENSES/" ++ (id ++ codes ".txt")

-- the row of a licence without a text, at the folder where texts are kept
abbrev pub missing_row : Name → Row
missing_row name = plain_row kind.Missing (codes "LICENSES/")
    (codes "no text of " ++ (name.id ++ (named_words name.path ++ text_words name.id)))

-- the row of a licence text that no file uses
abbrev pub unused_row : List ℕ → Row
unused_row path = plain_row kind.Unused path
    (codes "no file uses this text: take it away, or state its licence where it is used")

-- what a file lacks, and the three places where it can be stated
abbrev pub lacking_words : Lacking → List ℕ
lacking_words Notice = codes
    "no SPDX-FileCopyrightText (a notice without it doesn't count): state one in the file, beside it in FILE.license, or in REUSE.toml"
lacking_words Licence = codes
    "no SPDX-License-Identifier (a licence without it doesn't count): state one in the file, beside it in FILE.license, or in REUSE.toml"
lacking_words Both = codes
    "no SPDX-FileCopyrightText and no SPDX-License-Identifier (what is said without them doesn't count): state them in the file, beside it in FILE.license, or in REUSE.toml"

-- the row of a file without a notice, a licence or both
abbrev pub bare_row : Bare → Row
bare_row bare = plain_row kind.Bare bare.path (lacking_words bare.lacking)

-- ---- the whole

-- the rows of the lists: licences with blanks, missing texts, unused texts, bare files
abbrev pub list_rows : Problems → List Row
list_rows p = map blank_row p.blanks
    ++ (map missing_row p.names ++ (map unused_row p.unused ++ map bare_row p.bare))

-- a row for each problem: the older annotations, the flaws, then the lists
abbrev pub AreRows : Problems → List Row → Type 0
AreRows p rows = (told : List Row) × AreFlawRows p.flaws told
    × (rows ≡ dep5_rows p.dep5 ++ (told ++ list_rows p))
