use Rattle.std.proofs.Common.{◌-◌, inl, inr, arith}
use Rattle.desk_alts.proofs.Bits.{one_within, none_within}
use Rattle.desk_alts.proofs.masks.Mask.single.Goals as goal

pub returns-then-place-lt64 : goal.returns-then-place-lt64
returns-then-place-lt64 c = λ m.
    let is = one_within c.args.place m.low c.if-place-lt64.true in (
      (λ h. inl (c.if-place-lt64.true, is.0 h.0)),
      (λ h. elim h [
        | inl a ↦ (is.1 a.1, none_within m.high)
        | inr b ↦ absurd (omega (arith, b.0, c.if-place-lt64.true))
      ]),
    )

pub returns-else-place-lt64 : goal.returns-else-place-lt64
returns-else-place-lt64 c = λ m.
    let is = one_within (c.args.place - 64) m.high
    (omega (arith, c.requires, c.if-place-lt64.false)) in (
      (λ h. inr (c.if-place-lt64.false, is.0 h.1)),
      (λ h. elim h [
        | inl a ↦ absurd (omega (arith, a.0, c.if-place-lt64.false))
        | inr b ↦ (none_within m.low, is.1 b.1)
      ]),
    )
