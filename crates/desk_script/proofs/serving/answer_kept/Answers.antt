use Rattle.std.proofs.Common.{◌∙◌, ap, sym, subst}
use Rattle.desk_json.specs.Requests.{request_in}
use Rattle.desk_json.specs.declared.request.Request.{Request}
use Rattle.desk_script.specs.Replies.{Replies}
use Rattle.desk_script.proofs.OneLine.{Replies-long, request_of-kept}
use Rattle.desk_script.proofs.serving.answer_kept.Goals as goal

pub returns-then-line-clause-replies : goal.returns-then-line-clause-replies
returns-then-line-clause-replies g c = λ text h. Replies-long g.D.Desk.are_right g.D.Desk.tells
    g.D.Desk.stands (g.D.Desk.seen c.args.desk.now) c.args.line.now text h c.if-line.true

pub returns-clause-replies : goal.returns-clause-replies
returns-clause-replies g c = λ text h.
    let same = request_of-kept c.args.line.now text h c.if-line.false
    ∙ ap (λ v. request_in v.items) (sym c.replace-text.ensures.value) in
    subst (λ (r : Request). Replies g.D.Desk.are_right g.D.Desk.tells g.D.Desk.stands
    (g.D.Desk.seen c.args.desk.now) r c.answer_line.result (g.D.Desk.seen c.answer_line.new.desk))
    (sym same) c.answer_line.ensures.replies
