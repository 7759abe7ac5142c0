use Rattle.std.proofs.Common.{[], ◌≡◌, ◌∙◌, ap, map, sym}
use Rattle.std.proofs.lemmas.List.{nil_from_length}
use Rattle.std.proofs.lemmas.Result.{IfOk-weaker}
use Rattle.serde_json.specs.Written.{compact_text}
use Rattle.desk_json.specs.Replies.{rows_reply}
use Rattle.desk_json.proofs.RowTexts.{reply_of_none}
use Rattle.desk_json.proofs.row.reply_of.Goals as goal

pub returns-in-None : goal.returns-in-None
returns-in-None g c =
    let none : c.args.rows.now ≡ [] = nil_from_length _ c.in-None.ensures.cases in
    IfOk-weaker c.from_str.result _ _
    (λ text is. is ∙ reply_of_none
    ∙ ap (λ rows. compact_text (rows_reply (map g.R.Row.json rows))) (sym none))
    c.from_str.ensures.ok
