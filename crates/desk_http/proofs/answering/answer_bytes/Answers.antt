use Rattle.std.proofs.Common.{ℕ, List, subst}
use Rattle.desk_http_head.specs.Framings.{IsFraming, closed}
use Rattle.desk_http.proofs.answering.answer_bytes.Goals as goal

pub returns : goal.returns
returns g c = λ all x.
    let read = c.wanted_by-wanted.ensures in
    c.reply_for.ensures all (closed read.0)
    (x read.0 (subst (λ (l : List ℕ). IsFraming l read.0) c.as_slice.ensures.value read.1))
    read.2
