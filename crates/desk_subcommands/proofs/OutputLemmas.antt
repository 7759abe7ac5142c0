-- Why a text can't be written: no value of a document is at fault.
use Rattle.desk_subcommands.specs.Failures.{IfBadValue, IsOfDocument, IsOfOutput}
use Rattle.desk_subcommands.specs.declared.failure.Failure.{Failure}
use Rattle.desk_subcommands.specs.declared.failure.Failure.TheVariants as failure

pub no_bad_value : (X : Type 0) (why : Failure) → IsOfOutput why → IfBadValue X why
no_bad_value X (failure.Memory error) is = tt
no_bad_value X (failure.Write error) is = tt
no_bad_value X (failure.Script stop) is = tt
no_bad_value X (failure.Failed count) is = tt
no_bad_value X (failure.Request fault) is = tt
no_bad_value X (failure.Read path error) is = tt
no_bad_value X (failure.Database path trouble) is = tt
no_bad_value X (failure.Close path trouble) is = tt
no_bad_value X (failure.Listen port trouble) is = tt
no_bad_value X (failure.Connections count) is = tt
no_bad_value X (failure.Tree fault) is = tt
no_bad_value X (failure.UnknownName name) is = tt
no_bad_value X (failure.NotAFolder path) is = absurd is
no_bad_value X failure.BadValue is = absurd is

pub of_document : (why : Failure) → IsOfOutput why → IsOfDocument why
of_document (failure.Memory error) is = is
of_document (failure.Write error) is = is
of_document (failure.Script stop) is = is
of_document (failure.Failed count) is = is
of_document (failure.Request fault) is = is
of_document (failure.Read path error) is = is
of_document (failure.Database path trouble) is = is
of_document (failure.Close path trouble) is = is
of_document (failure.Listen port trouble) is = is
of_document (failure.Connections count) is = is
of_document (failure.Tree fault) is = is
of_document (failure.UnknownName name) is = is
of_document (failure.NotAFolder path) is = absurd is
of_document failure.BadValue is = tt
