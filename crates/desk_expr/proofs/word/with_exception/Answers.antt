use Rattle.desk_expr.proofs.WordLemmas.{excepted_is_term}
use Rattle.desk_expr.proofs.word.with_exception.Goals as goal

pub new-requires : goal.new-requires
new-requires c =
    rw c.into_term-key.ensures.term
    (excepted_is_term c.args.leaf c.args.exception c.into_term-key.ensures.well_formed c.requires)
