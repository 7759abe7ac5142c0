use Rattle.std.proofs.lemmas.Bool.{eqb-true, eq-eqb}
use Rattle.desk_alts.proofs.Bits.{and_same}
use Rattle.desk_alts.proofs.covering.is_within.Goals as goal

pub returns : goal.returns
returns c = (
  (λ yes. (and_same c.args.a c.args.b).0 (eqb-true _ _ yes)),
  (λ within. eq-eqb _ _ ((and_same c.args.a c.args.b).1 within)),
)
