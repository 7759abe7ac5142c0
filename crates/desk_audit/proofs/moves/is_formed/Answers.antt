use Rattle.std.proofs.Common.{sym, ap, ◌∙◌}
use Rattle.desk_base.specs.Day.{is_day}
use Rattle.desk_snapshot.specs.Changes.{is_body}
use Rattle.desk_audit.proofs.Forming.{formed}
use Rattle.desk_audit.proofs.moves.is_formed.Goals as goal
use Rattle.desk_model.specs.Names.{word_named}

pub returns : goal.returns
returns c =
    c.has_room.ensures
    ∙ sym (formed c.args.row.now c.in-Some.word
    (sym (c.in-Some.ensures.value ∙ ap word_named c.as_str.ensures))
    (sym (ap is_day c.as_str-2.ensures) ∙ (sym c.is_day.ensures ∙ c.if-not-is_day.false))
    (sym (ap (is_body c.in-Some.word) c.as_str-3.ensures)
    ∙ (sym c.is_body.ensures ∙ c.if-not-is_body.false)))
