-- Facts about results.
use Rattle.std.proofs.Common.{◌≡◌, Result, Ok, Err, sym, subst}
use Rattle.std.specs.Prelude.{IfErr, IsErrAnd}
use Rattle.desk_script.specs.declared.serving.ScriptStop.{ScriptStop}

-- what is known of a fault is known of the result that passes it on
pub handed_on : {T : Type 0} (Holds : ScriptStop → Type 0) (r : Result T ScriptStop)
    (fault : ScriptStop) → IsErrAnd r (λ f. f ≡ fault) → Holds fault → IfErr r Holds
handed_on Holds (Ok x) fault is holds = tt
handed_on Holds (Err f) fault is holds = subst Holds (sym is) holds
