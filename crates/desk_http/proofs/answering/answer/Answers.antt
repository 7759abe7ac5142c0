use Rattle.std.proofs.Common.{ℕ, List, refl, subst}
use Rattle.desk_http.specs.Receiving.{IsReceived}
use Rattle.desk_http.specs.Serving.{IsBarred}
use Rattle.desk_http.proofs.FromElsewhere.{IsBarred-whole, IsBarred-front, IsReply-free}
use Rattle.desk_http.proofs.answering.answer.Goals as goal

pub returns-then-is_barred : goal.returns-then-is_barred
returns-then-is_barred g c = λ bytes x.
    let y = subst (IsReceived bytes) c.in-Bytes.is x in
    let front = rw c.if-is_barred.true at c.is_barred.ensures in
    let barred = subst (IsBarred c.args.port) c.as_slice.ensures.value front in
    (y.0, (IsBarred-whole c.args.port _ bytes y.2 barred, refl))

pub returns-else-is_barred : goal.returns-else-is_barred
returns-else-is_barred g c = λ bytes x.
    let y = subst (IsReceived bytes) c.in-Bytes.is x in
    let front = rw c.if-is_barred.false at c.is_barred.ensures in
    let free : ¬ (IsBarred c.args.port bytes) = λ barred. front
    (rw c.as_slice.ensures.value (IsBarred-front c.args.port _ bytes y.2 barred)) in (
      y.0,
      IsReply-free g.D.Desk.are_right g.D.Desk.tells g.D.Desk.stands g.D.Desk.seen c.args.port
          c.args.desk.now c.answer_bytes.new.desk bytes c.answer_bytes.result free
          (c.answer_bytes.ensures bytes y.1),
    )
