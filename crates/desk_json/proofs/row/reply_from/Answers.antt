use Rattle.std.proofs.Common.{◌∙◌}
use Rattle.desk_json.proofs.RowTexts.{reply_by_rows}
use Rattle.desk_json.proofs.row.reply_from.Goals as goal

pub returns : goal.returns
returns g c =
    reply_by_rows g.R.Row.json (g.F.Row.json c.args.first.now) c.args.others.now _ _ _ _ _
    c.in_ok-text.ensures.ok (c.as_str.ensures.value ∙ c.in_ok-row_text.ensures)
    c.in_ok-push_str.ensures.bytes c.in_ok-add_rows.ensures c.in_ok-push_str-2.ensures.bytes
