use Rattle.std.proofs.Common.{codes}
use Rattle.std.specs.Str.Parse.{ExplainsUnsignedError, HasUnsignedDigitsIfOk, ParsesUnsigned}
use Rattle.clap.specs.Words.{found_of}
use Rattle.desk_line.proofs.NumberLemmas.{number_found}
use Rattle.desk_line.proofs.files.port_in.Goals as goal

pub returns : goal.returns
returns c = number_found 16 (found_of c.args.matches.now) (codes "PORT")
    (λ bs r. ParsesUnsigned 16 10 bs r × ExplainsUnsignedError 10 bs r × HasUnsignedDigitsIfOk bs r)
    c.get_one.result (λ t r is. is.0)
    c.get_one.ensures.none c.get_one.ensures.value
