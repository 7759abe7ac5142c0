-- The entries of a name, and their text. 10 is the line feed.
use Rattle.std.specs.Prelude.{ℕ, Bool, List, [], ◌∷◌, ◌++◌, codes, decimal, filter, Option, Some, None}
use Rattle.std.specs.List.{flat_map}
use Rattle.std.specs.Str.{bytes_eq}
use Rattle.desk_explain.specs.declared.entry.Entry.{Entry}
use Rattle.desk_explain.specs.declared.entry.Kind.{Kind}
use Rattle.desk_explain.specs.declared.entry.Kind.TheVariants.{Refusal, DocumentFault}
use Rattle.desk_explain.specs.declared.entry.Kind.TheVariants.{ExpressionFault, OtherFault, Finding}
use Rattle.desk_explain.specs.declared.entry.Kind.TheVariants.{CatalogueFault, Condition, Problem}
use denote.Ref.{Bor}

-- ---- the entries

-- names compare as they are written
abbrev pub is_named : List ℕ → Entry → Bool
is_named name entry = bytes_eq name entry.name.now

-- what each table says of a name, one table after another
abbrev pub entries_named : List ℕ → List (Bor (List Entry)) → List Entry
entries_named name tables = flat_map
    (λ (table : Bor (List Entry)). filter (is_named name) table.now) tables

-- ---- their text

-- a number between words
abbrev pub numbered : List ℕ → ℕ → List ℕ → List ℕ
numbered before number after = before ++ (decimal number ++ after)

-- what a name stands for
abbrev pub kind_text : Kind → List ℕ
kind_text (Refusal number requests) = numbered (codes "refusal ") number
    (codes " (" ++ (requests.now ++ codes ")"))
kind_text (DocumentFault number) = numbered (codes "fault ") number
    (codes " of a document (BadDocument)")
kind_text (ExpressionFault number) = numbered (codes "fault ") number
    (codes " of an expression (BadExpression)")
kind_text (OtherFault place) = codes "fault (" ++ (place.now ++ codes ")")
kind_text (Finding number clauses) = numbered (codes "finding ") number
    (codes " (SPDX 2.3: " ++ (clauses.now ++ codes ")"))
kind_text (CatalogueFault number) = numbered (codes "fault ") number
    (codes " of a catalogue (BadCatalogue)")
kind_text (Condition number) = numbered (codes "condition ") number (codes " of an audit")
kind_text Problem = codes "problem of a source tree"

-- the first line of a block
abbrev pub heading : Entry → List ℕ
heading entry = entry.name.now ++ (codes ": " ++ (kind_text entry.kind ++ 10 ∷ []))

-- what the first line below the heading is called: a condition says what must hold, any other entry
-- what is wrong
abbrev pub meaning_label : Kind → List ℕ
meaning_label (Condition number) = codes "What must hold"
meaning_label _ = codes "What is wrong"

-- what the second line is called: a document's fault also says what is wanted in its place
abbrev pub cause_label : Kind → List ℕ
cause_label (DocumentFault number) = codes "Usual cause, and what is wanted"
cause_label _ = codes "Usual cause"

-- the page that says more
abbrev pub page : Kind → List ℕ
page (Finding number clauses) = codes "docs/REQUESTS.md"
page (CatalogueFault number) = codes "docs/CATALOGUE.md"
page (Condition number) = codes "docs/AUDIT.md"
page Problem = codes "docs/LINT.md"
page _ = codes "docs/REFUSALS.md"

-- a line below it
abbrev pub label_line : List ℕ → List ℕ → List ℕ
label_line label words = codes "  " ++ label ++ codes ": " ++ words ++ 10 ∷ []

-- the same, left out if the page says nothing
abbrev pub line : List ℕ → Option (Bor (List ℕ)) → List ℕ
line label None = []
line label (Some words) = label_line label words.now

-- the heading of an entry, what it means, its usual cause, and its page
abbrev pub block : Entry → List ℕ
block entry = heading entry ++ line (meaning_label entry.kind) entry.meaning
    ++ line (cause_label entry.kind) entry.cause
    ++ label_line (codes "Page") (page entry.kind)
