use Rattle.std.proofs.Common.{◌∙◌}
use Rattle.std.specs.Str.Parse.{ExplainsUnsignedError, HasUnsignedDigitsIfOk, ParsesUnsigned}
use Rattle.desk_line.proofs.NumberLemmas.{number_parsed}
use Rattle.desk_assignments.proofs.value.number_written.Goals as goal

pub returns : goal.returns
returns c = c.ok.ensures.value ∙ number_parsed 64 c.args.text.now
    (λ bs r. ParsesUnsigned 64 10 bs r × ExplainsUnsignedError 10 bs r × HasUnsignedDigitsIfOk bs r)
    c.parse.result (λ t r is. is.0) c.parse.ensures.value
