use Rattle.desk_expr.proofs.WordLemmas.{licence_is_term}
use Rattle.desk_expr.proofs.word.licence.Goals as goal

pub new-requires : goal.new-requires
new-requires c = licence_is_term c.args.text.now c.in_ok-key.key c.in_ok-key.ensures.ok c.requires
