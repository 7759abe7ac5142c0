use Rattle.std.proofs.Common.{ap, sym, ◌∙◌}
use Rattle.desk_sql_lookup.proofs.Ruling.{empty_is, none_joined, split_some}
use Rattle.desk_sql_lookup.proofs.rules.words_of.Goals as goal
use Rattle.desk_base.specs.Borrowed.{texts}

pub returns-then-is_empty : goal.returns-then-is_empty
returns-then-is_empty c = λ xs words is. c.new.ensures
    ∙ sym (none_joined xs words (sym (empty_is c.args.text.now
    (sym c.is_empty.ensures ∙ c.if-is_empty.true)) ∙ is))

pub returns : goal.returns
returns c = λ xs words is.
    c.from_vec.ensures ∙ c.in_ok-copies.ensures ∙ ap texts c.deref.ensures.value
    ∙ c.in_ok-parts.ensures ∙ split_some c.args.text.now xs words is
    (sym c.is_empty.ensures ∙ c.if-is_empty.false)
