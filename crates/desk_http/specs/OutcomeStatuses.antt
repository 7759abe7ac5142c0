-- The status of a reply to an outcome.
use Rattle.std.specs.Prelude.{ℕ, Bool, ◌==◌, ◌||◌, if◌then◌else◌}
use Rattle.desk_http_head.specs.declared.status.Status.{Status}
use Rattle.desk_http_head.specs.declared.status.Status.TheVariants as status
use Rattle.desk_model.specs.Numbers.{refusal_number}
use Rattle.desk_model.specs.declared.command.Answer.TheVariants.{Refused}
use Rattle.desk_model.specs.declared.command.Fault.TheVariants.{Memory, Store}
use Rattle.desk_model.specs.declared.command.Outcome.{Outcome}
use Rattle.desk_model.specs.declared.command.Outcome.TheVariants.{Answered, Failed}

-- a document, package, release or duty doesn't exist
abbrev pub is_absent : ℕ → Bool
is_absent number = number == 4 || number == 5 || number == 12 || number == 23

-- what the desk holds doesn't allow the request
abbrev pub is_conflict : ℕ → Bool
is_conflict number = number == 3 || number == 7 || number == 10 || number == 13 || number == 14
    || number == 20 || number == 24

-- the status of a refusal, by its number
abbrev pub refusal_status : ℕ → Status
refusal_status number =
    if is_absent number then status.NotFound else if is_conflict number then status.Conflict
    else status.UnprocessableContent

-- the status of an outcome: 200 for an answer, that of its number for a refusal, 503 without
-- memory, 500 if the store failed (RFC 9110, section 15)
abbrev pub outcome_status : Outcome → Status
outcome_status (Answered (Refused why)) = refusal_status (refusal_number why)
outcome_status (Answered answer) = status.Ok
outcome_status (Failed Memory) = status.ServiceUnavailable
outcome_status (Failed (Store cause)) = status.InternalServerError
