use Rattle.std.proofs.lemmas.Bool.{cond-true}
use Rattle.desk_looks.specs.Looks.{look_of}
use Rattle.desk_looks.proofs.laws.cyclonedx_counts_first.Goals as goal

pub returns : goal.returns
unfolding look_of
returns c rest has = cond-true _ _ _ has
