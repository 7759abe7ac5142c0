use Rattle.std.proofs.Common.{arith, ap, ◌∙◌}
use Rattle.desk_base.specs.Folded.{folded}
use Rattle.desk_expr.proofs.WordLemmas.{or_later_is_term, last_is_plus}
use Rattle.desk_expr.proofs.word.licence_or_later.Goals as goal

pub split_at-requires : goal.split_at-requires
split_at-requires c =
    let plus = last_is_plus c.args.text.now c.requires in
    (omega arith, λ within high. absurd (omega (arith, plus)))

pub new-requires : goal.new-requires
new-requires c =
    or_later_is_term c.args.text.now c.in_ok-key.key
    (c.in_ok-key.ensures.ok ∙ ap folded c.split_at.ensures.front) c.requires
