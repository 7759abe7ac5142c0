use Rattle.desk_expr.proofs.WordLemmas.{reference_is_term}
use Rattle.desk_expr.proofs.word.reference.Goals as goal

pub new-requires : goal.new-requires
new-requires c = reference_is_term c.args.text.now c.in_ok-key.key c.in_ok-key.ensures.ok c.requires
