use Rattle.std.specs.Str.Parse.{ExplainsUnsignedError, HasUnsignedDigitsIfOk, ParsesUnsigned}
use Rattle.clap.specs.Words.{found_of}
use Rattle.desk_line.proofs.NumberLemmas.{number_found}
use Rattle.desk_line.proofs.values.number_in.Goals as goal

pub returns : goal.returns
returns c = number_found 32 (found_of c.args.matches.now) c.args.id.now
    (λ bs r. ParsesUnsigned 32 10 bs r × ExplainsUnsignedError 10 bs r × HasUnsignedDigitsIfOk bs r)
    c.get_one.result (λ t r is. is.0)
    c.get_one.ensures.none c.get_one.ensures.value
