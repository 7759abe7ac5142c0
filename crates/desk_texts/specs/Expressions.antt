-- Licence expressions in the fields of a document (SPDX 2.3, clause 7.13 and Annex D), read by the
-- profile of operators that the document was imported with.
use Rattle.std.specs.Prelude.{◌≡◌, ◌⊎◌, ℕ, ◌-◌, ◌<◌, Bool, true, false, List, Option, Some, None, length, Contains}
use Rattle.desk_base.specs.declared.profile.Profile.{Profile}
use Rattle.desk_expr.specs.declared.term.Term.{Term}
use Rattle.desk_expr.specs.Tree.{Tree}
use Rattle.desk_expr.specs.Faults.{fault_number}
use Rattle.desk_expr.specs.Grammar.{SpellsTree}
use Rattle.desk_expr.specs.Spelling.{SpellsWithinBy, IsStopBy}
use Rattle.desk_expr.specs.declared.fault.ParseFault.{ParseFault}
use Rattle.desk_expr.specs.declared.fault.ParseFault.TheVariants as parse
use Rattle.desk_expr.specs.Meaning.{Holds, CanGo, IsFirst, IsMinimal}
use Rattle.desk_fields.specs.Text.{skip_blanks}
use Rattle.desk_model.specs.declared.refusal.ExpressionFault.{ExpressionFault}
use Rattle.desk_model.specs.declared.refusal.ExpressionFault.TheVariants as fault
use Rattle.desk_model.specs.declared.reading.Verdict.{Verdict}
use Rattle.desk_model.specs.declared.reading.Verdict.TheVariants.{NotEnough, Superfluous, Minimal}
use Rattle.desk_texts.specs.Terms.{AreTerms}
use Rattle.desk_findings.specs.Fields.{is_no_licence}

-- the expression of a field's value
abbrev pub IsExpression : Profile → List ℕ → Tree → Type 0
IsExpression profile text e = (is_no_licence text ≡ false) × SpellsWithinBy profile text e

-- a value that is no expression: NONE, NOASSERTION, or a text that spells nothing within the limits
abbrev pub IsNoExpression : Profile → List ℕ → Type 0
IsNoExpression profile text = (e : Tree) → IsExpression profile text e → ⊥

-- the expression that a value is, if it is one
abbrev pub IsRead : Profile → List ℕ → Option Tree → Type 0
IsRead profile text None = IsNoExpression profile text
IsRead profile text (Some e) = IsExpression profile text e

-- whether a value is an expression
abbrev pub Tells : Profile → List ℕ → Bool → Type 0
Tells profile text true = (e : Tree) × IsExpression profile text e
Tells profile text false = IsNoExpression profile text

-- the fault of a text that stops; `Memory` is none, so its value here doesn't matter
abbrev pub fault_of : ParseFault → ExpressionFault
fault_of (parse.Memory error) = fault.Empty 0
fault_of (parse.Empty place) = fault.Empty place
fault_of (parse.BadToken place) = fault.BadToken place
fault_of (parse.Unexpected place) = fault.Unexpected place
fault_of (parse.Unclosed place) = fault.Unclosed place
fault_of (parse.TooDeep place) = fault.TooDeep place
fault_of (parse.TooLong place) = fault.TooLong place
fault_of (parse.TooManyTerms place) = fault.TooManyTerms place

-- where the first word of a text begins
abbrev pub word_place : List ℕ → ℕ
word_place text = length text - length (skip_blanks text)

-- the value stops here, for a reason other than lack of memory
abbrev pub StopsBy : Profile → List ℕ → ExpressionFault → Type 0
StopsBy profile text f = (stop : ParseFault) × IsStopBy SpellsTree profile text stop
    × (0 < fault_number stop) × (f ≡ fault_of stop)

-- it spells a tree, but is only NONE or NOASSERTION: that word is unexpected
abbrev pub NamesNone : Profile → List ℕ → ExpressionFault → Type 0
NamesNone profile text f = ((e : Tree) × SpellsWithinBy profile text e)
    × (is_no_licence text ≡ true) × (f ≡ fault.Unexpected (word_place text))

-- why a value is no expression, if it is none
abbrev pub IsFault : Profile → List ℕ → Option ExpressionFault → Type 0
IsFault profile text None = (e : Tree) × IsExpression profile text e
IsFault profile text (Some f) = StopsBy profile text f ⊎ NamesNone profile text f

-- how a list of terms satisfies an expression
abbrev pub IsVerdict : Tree → List Term → Verdict → Type 0
IsVerdict e ts NotEnough = ¬ Holds (Contains ts) e
IsVerdict e ts (Superfluous i) = IsFirst (CanGo ts e) i
IsVerdict e ts Minimal = IsMinimal ts e

-- how texts that spell terms satisfy an expression: they are not enough if a text spells no term
abbrev pub JudgesTerms : Tree → List (List ℕ) → Verdict → Type 0
JudgesTerms e words verdict =
    ((ts : List Term) × AreTerms words ts × IsVerdict e ts verdict)
    ⊎ (((ts : List Term) → AreTerms words ts → ⊥) × (verdict ≡ NotEnough))

-- how they satisfy the expression of a value: they are not enough if it has none, or if a text
-- spells no term
abbrev pub Judges : Profile → List ℕ → List (List ℕ) → Verdict → Type 0
Judges profile text words verdict =
    ((e : Tree) × (ts : List Term) × IsExpression profile text e × AreTerms words ts
    × IsVerdict e ts verdict)
    ⊎ (((e : Tree) (ts : List Term) → IsExpression profile text e → AreTerms words ts → ⊥)
    × (verdict ≡ NotEnough))
