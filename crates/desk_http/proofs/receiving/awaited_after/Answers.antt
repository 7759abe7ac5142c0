use Rattle.std.proofs.Common.{◌≡◌, ◌∙◌, ℕ, List, ap, sym}
use Rattle.std.specs.Prelude.{◌≢◌}
use Rattle.desk_http_head.specs.Framings.{bad, framed, part, whole}
use Rattle.desk_http_head.specs.declared.framing.Framing.{Framing}
use Rattle.desk_http_head.specs.declared.status.Status.{Status}
use Rattle.desk_http.proofs.Settled.{IsAsked-of, IsAwaited-undue, HasHeadOf-settled}
use Rattle.desk_http.proofs.receiving.awaited_after.Goals as goal

bad_is_whole : (status : Status) → bad status ≢ part
bad_is_whole status is = absurd (cc)

whole_is_whole : (method target body rest : List ℕ) → whole method target body rest ≢ part
whole_is_whole method target body rest is = absurd (cc)

apart : (f g : Framing) → f ≡ g → framed g ≢ part → framed f ≢ part
apart f g is other same = other (sym (ap framed is) ∙ same)

pub returns-then-not-is_due : goal.returns-then-not-is_due
returns-then-not-is_due c = λ front e x.
    IsAwaited-undue front c.args.came.now c.args.bytes.now c.args.awaited e
    (c.is_due.ensures c.if-not-is_due.true) x

pub returns-in-Bad : goal.returns-in-Bad
returns-in-Bad c = λ front e x more. (
  λ s y. IsAsked-of c.args.bytes.now more (framed c.frame.result) s c.frame.ensures.reading
      (apart c.frame.result _ c.in-Bad.is (bad_is_whole _)) y,
  HasHeadOf-settled c.args.bytes.now more (framed c.frame.result) c.frame.ensures.reading
      (apart c.frame.result _ c.in-Bad.is (bad_is_whole _)),
)

pub returns-in-Whole : goal.returns-in-Whole
returns-in-Whole c = λ front e x more. (
  λ s y. IsAsked-of c.args.bytes.now more (framed c.frame.result) s c.frame.ensures.reading
      (apart c.frame.result _ c.in-Whole.is (whole_is_whole _ _ _ _)) y,
  HasHeadOf-settled c.args.bytes.now more (framed c.frame.result) c.frame.ensures.reading
      (apart c.frame.result _ c.in-Whole.is (whole_is_whole _ _ _ _)),
)
