use Rattle.std.proofs.Common.{◌∙◌, sym, ap}
use Rattle.std.specs.Prelude.{not}
use Rattle.desk_fill.proofs.SubjectLemmas.{is_there, knows_again, knows_more}
use Rattle.desk_fill.proofs.index.note.Goals as goal

pub returns-then-contains_key-clause-new : goal.returns-then-contains_key-clause-new
returns-then-contains_key-clause-new c subjects at knows =
    sym (ap not (sym (is_there subjects c.args.firsts.now knows c.args.subject)
    ∙ sym c.contains_key.ensures ∙ c.if-contains_key.true))

pub returns-then-contains_key-clause-knows : goal.returns-then-contains_key-clause-knows
returns-then-contains_key-clause-knows c subjects at knows =
    knows_again subjects c.args.firsts.now knows c.args.subject
    (sym c.contains_key.ensures ∙ c.if-contains_key.true)

pub returns-clause-new : goal.returns-clause-new
returns-clause-new c subjects at knows =
    sym (ap not (sym (is_there subjects c.args.firsts.now knows c.args.subject)
    ∙ sym c.contains_key.ensures ∙ c.if-contains_key.false))

pub returns-clause-knows : goal.returns-clause-knows
returns-clause-knows c subjects at knows =
    knows_more subjects c.args.firsts.now knows c.args.subject
    (sym c.contains_key.ensures ∙ c.if-contains_key.false) c.args.place at c.insert.new.self
    c.in_ok-insert.ensures.updates
