-- The data that words spell: a word, and assignments KEY=VALUE (POSIX, XCU, operands of awk).
use Rattle.std.specs.Prelude.{◌≡◌, ◌+◌, ◌==◌, ℕ, List, [], ◌∷◌, codes, is_some, Option, Some, None}
use Rattle.std.specs.Prelude.{Result, Ok, Err, ⊤, if◌then◌else◌}
use Rattle.std.specs.List.{list_any, before_first, after_first}
use Rattle.serde_json.specs.Data.{Data, string, object, Members, no_members, put}
use Rattle.serde_json.specs.Find.{get_member}
use Rattle.desk_assignments.specs.Values.{assigned_value}
use Rattle.desk_assignments.specs.declared.line.WordsFault.{WordsFault}
use Rattle.desk_assignments.specs.declared.line.WordsFault.TheVariants as fault
use Rattle.desk_assignments.specs.declared.verb.Verb.{Verb}
use Rattle.desk_assignments.specs.declared.verb.Verb.TheVariants as verb

-- the key of a word in a request
abbrev pub verb_key : Verb → List ℕ
verb_key verb.Do = codes "do"
verb_key verb.Ask = codes "ask"

-- the key and the text of an assignment: what is before and behind its first =
abbrev pub assignment : List ℕ → Option (List ℕ × List ℕ)
assignment operand = if list_any (λ b. b == 61) operand
    then Some (before_first (λ b. b == 61) operand, after_first (λ b. b == 61) operand) else None

-- members with one more, unless there is one of that key
abbrev pub with_assignment : ℕ → Members → Option (List ℕ × List ℕ) → Result Members WordsFault
with_assignment place ms None = Err (fault.NoAssignment place)
with_assignment place ms (Some a) = if is_some (get_member a.0 ms) then Err (fault.Repeated place)
    else Ok (put a.0 (assigned_value a.0 a.1) ms)

-- members with the one that an operand assigns
abbrev pub with_operand : ℕ → Members → List ℕ → Result Members WordsFault
with_operand place ms operand = with_assignment place ms (assignment operand)

-- what comes next, unless there was a fault
abbrev pub and_then : Result Members WordsFault → (Members → Result Members WordsFault)
    → Result Members WordsFault
and_then (Ok ms) next = next ms
and_then (Err why) next = Err why

-- members with those that operands are, from the one with this number on, or the first fault
abbrev pub members_from : ℕ → Members → List (List ℕ) → Result Members WordsFault
members_from place ms [] = Ok ms
members_from place ms (operand ∷ more) = and_then (with_operand place ms operand)
    (λ with. members_from (place + 1) with more)

-- the word, and the members that the operands are
abbrev pub members_in : Verb → List ℕ → List (List ℕ) → Result Members WordsFault
members_in v word operands = members_from 0 (put (verb_key v) (string word) no_members) operands

-- the object with these members, or the fault
abbrev pub object_of : Result Members WordsFault → Result Data WordsFault
object_of (Ok ms) = Ok (object ms)
object_of (Err why) = Err why

-- the object that words spell, or why they spell none
abbrev pub words_data : Verb → List ℕ → List (List ℕ) → Result Data WordsFault
words_data v word operands = object_of (members_in v word operands)

-- a fault that is told is want of memory, or that of the words
abbrev pub IsFaultOf : {X : Type 0} → Result X WordsFault → WordsFault → Type 0
IsFaultOf found fault.Memory = ⊤
IsFaultOf found why = found ≡ Err why
