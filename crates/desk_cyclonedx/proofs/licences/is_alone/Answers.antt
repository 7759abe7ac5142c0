use Rattle.std.proofs.Common.{ap, sym}
use Rattle.std.specs.Prelude.{◌==◌}
use Rattle.desk_cyclonedx.proofs.Placing.{counted_values}
use Rattle.desk_cyclonedx.proofs.licences.is_alone.Goals as goal

pub returns : goal.returns
returns c = ap (λ n. n == 1) (sym (counted_values c.args.list.now))
