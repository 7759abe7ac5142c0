-- A trouble that is told of words is one of words that spell no request.
use Rattle.std.proofs.Common.{◌≡◌, refl, ap}
use Rattle.std.specs.Prelude.{ℕ, List, Result}
use Rattle.serde_json.specs.Data.{Data}
use Rattle.desk_assignments.specs.Requests.{IsTold, IsToldAs, IsTroubleOf, request_from}
use Rattle.desk_assignments.specs.Words.{IsFaultOf}
use Rattle.desk_assignments.specs.declared.line.WordsFault.{WordsFault}
use Rattle.desk_assignments.specs.declared.line.WordsFault.TheVariants as fault
use Rattle.desk_assignments.specs.declared.trouble.WordsTrouble.{WordsTrouble}
use Rattle.desk_assignments.specs.declared.trouble.WordsTrouble.TheVariants as trouble
use Rattle.desk_json.specs.declared.request.Request.{Request}
use Rattle.desk_json.specs.declared.request.Request.TheVariants.{BadCommand}

of_none : (told : WordsTrouble) (request : Request) → request ≡ BadCommand → IsTold request told
of_none trouble.Memory request none = tt
of_none (trouble.NoAssignment operand usage) request none = none
of_none (trouble.Repeated operand usage) request none = none
of_none (trouble.NoRequest why usage) request none = none

pub told_of : (found : Result Data WordsFault) (why : WordsFault) (told : WordsTrouble)
    → IsFaultOf found why → (why ≡ fault.Memory → told ≡ trouble.Memory)
    → IsTold (request_from found) told
told_of found fault.Memory told is memory = rw (memory refl) tt
told_of found (fault.NoAssignment place) told is memory =
    of_none told (request_from found) (ap request_from is)
told_of found (fault.Repeated place) told is memory =
    of_none told (request_from found) (ap request_from is)

-- what is told of a fault is the trouble of the words that have it
pub trouble_of : (operands : List (List ℕ)) (found : Result Data WordsFault) (why : WordsFault)
    (told : WordsTrouble) → IsFaultOf found why → IsToldAs operands why told
    → IsTroubleOf operands found told
trouble_of operands found fault.Memory trouble.Memory is told = tt
trouble_of operands found (fault.NoAssignment place) (trouble.NoAssignment operand usage) is told =
    (place, is, told)
trouble_of operands found (fault.Repeated place) (trouble.Repeated operand usage) is told =
    (place, is, told)
trouble_of operands found fault.Memory (trouble.NoAssignment operand usage) is told = absurd told
trouble_of operands found fault.Memory (trouble.Repeated operand usage) is told = absurd told
trouble_of operands found fault.Memory (trouble.NoRequest why usage) is told = absurd told
trouble_of operands found (fault.NoAssignment place) trouble.Memory is told = absurd told
trouble_of operands found (fault.NoAssignment place) (trouble.Repeated operand usage) is told =
    absurd told
trouble_of operands found (fault.NoAssignment place) (trouble.NoRequest why usage) is told =
    absurd told
trouble_of operands found (fault.Repeated place) trouble.Memory is told = absurd told
trouble_of operands found (fault.Repeated place) (trouble.NoAssignment operand usage) is told =
    absurd told
trouble_of operands found (fault.Repeated place) (trouble.NoRequest why usage) is told = absurd told
