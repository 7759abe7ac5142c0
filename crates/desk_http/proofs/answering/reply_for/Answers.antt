use Rattle.std.proofs.Common.{refl, subst}
use Rattle.desk_http.specs.Serving.{Wants}
use Rattle.desk_http.specs.declared.answering.Wanted.{Wanted}
use Rattle.desk_http.proofs.Wants.{IsReply-wanted, IsReply-bad}
use Rattle.desk_http.proofs.answering.reply_for.Goals as goal

pub returns-in-Request : goal.returns-in-Request
returns-in-Request g c = λ bytes asks x w.
    IsReply-wanted g.D.Desk.are_right g.D.Desk.tells g.D.Desk.stands g.D.Desk.seen c.args.desk.now
    c.reply_to.new.desk bytes c.reply_to.result c.in-Request.request c.in-Request.is_get asks x
    (subst (λ (v : Wanted). Wants v asks) c.in-Request.is w)
    c.reply_to.ensures

pub returns-in-Bad : goal.returns-in-Bad
returns-in-Bad g c = λ bytes asks x w.
    IsReply-bad g.D.Desk.are_right g.D.Desk.tells g.D.Desk.stands g.D.Desk.seen c.args.desk.now
    c.args.desk.now bytes c.in-Bad.status asks x
    (subst (λ (v : Wanted). Wants v asks) c.in-Bad.is w) refl
