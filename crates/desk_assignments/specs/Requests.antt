-- The request that words spell.
use Rattle.std.specs.Prelude.{◌≡◌, ℕ, List, [], ◌∷◌, ⊤, Result, Ok, Err, slice_get, unwrap_or}
use Rattle.std.specs.String.{string_bytes}
use Rattle.serde_json.specs.Data.{Data}
use Rattle.desk_json.specs.Requests.{request_of}
use Rattle.desk_json.specs.declared.request.Request.{Request}
use Rattle.desk_json.specs.declared.request.Request.TheVariants.{BadCommand}
use Rattle.desk_assignments.specs.Words.{words_data}
use Rattle.desk_assignments.specs.declared.line.WordsFault.{WordsFault}
use Rattle.desk_assignments.specs.declared.trouble.WordsTrouble.{WordsTrouble}
use Rattle.desk_assignments.specs.declared.line.WordsFault.TheVariants as fault
use Rattle.desk_assignments.specs.declared.trouble.WordsTrouble.TheVariants as trouble
use Rattle.desk_assignments.specs.declared.trouble.WordsTrouble.TheVariants.{Memory}
use Rattle.desk_assignments.specs.declared.verb.Verb.{Verb}

-- the request that data is; words that spell no data are no request
abbrev pub request_from : Result Data WordsFault → Request
request_from (Ok d) = request_of d
request_from (Err why) = BadCommand

-- what a request in JSON with the members that words spell is
abbrev pub words_request : Verb → List ℕ → List (List ℕ) → Request
words_request v word operands = request_from (words_data v word operands)

-- the request that words spell, of which the first names it
abbrev pub request_in_words : Verb → List (List ℕ) → Request
request_in_words v [] = BadCommand
request_in_words v (word ∷ operands) = words_request v word operands

-- a trouble is told of words that spell no request, or of want of memory
abbrev pub IsTold : Request → WordsTrouble → Type 0
IsTold request Memory = ⊤
IsTold request trouble = request ≡ BadCommand

-- the operand with this number
abbrev pub operand_at : List (List ℕ) → ℕ → List ℕ
operand_at operands place = unwrap_or (slice_get operands place) []

-- a fault of words, told with its operand
abbrev pub IsToldAs : List (List ℕ) → WordsFault → WordsTrouble → Type 0
IsToldAs operands fault.Memory trouble.Memory = ⊤
IsToldAs operands (fault.NoAssignment place) (trouble.NoAssignment operand usage) =
    string_bytes operand ≡ operand_at operands place
IsToldAs operands (fault.Repeated place) (trouble.Repeated operand usage) =
    string_bytes operand ≡ operand_at operands place
IsToldAs operands _ _ = ⊥

-- A trouble is that of the words: the first operand that is no assignment or repeats a key is named,
-- or each is one, and the object that they spell is no request. Memory may run out at any time.
abbrev pub IsTroubleOf : List (List ℕ) → Result Data WordsFault → WordsTrouble → Type 0
IsTroubleOf operands found trouble.Memory = ⊤
IsTroubleOf operands found (trouble.NoAssignment operand usage) =
    (place : ℕ) × (found ≡ Err (fault.NoAssignment place))
    × (string_bytes operand ≡ operand_at operands place)
IsTroubleOf operands found (trouble.Repeated operand usage) =
    (place : ℕ) × (found ≡ Err (fault.Repeated place))
    × (string_bytes operand ≡ operand_at operands place)
IsTroubleOf operands found (trouble.NoRequest why usage) =
    (d : Data) × (found ≡ Ok d) × (request_of d ≡ BadCommand)

-- the trouble of words of which the first names the request; without any there is no request
abbrev pub IsTrouble : Verb → List (List ℕ) → WordsTrouble → Type 0
IsTrouble v [] trouble.Memory = ⊤
IsTrouble v [] (trouble.NoRequest why usage) = ⊤
IsTrouble v [] _ = ⊥
IsTrouble v (word ∷ operands) why = IsTroubleOf operands (words_data v word operands) why
