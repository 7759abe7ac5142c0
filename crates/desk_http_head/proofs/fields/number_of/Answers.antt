use Rattle.std.proofs.Common.{ℕ, ◌<◌, ◌≤◌, ◌^◌, arith, lit<}
use Rattle.std.proofs.Math.Nat.{pow-le-pow_right}
use Rattle.desk_http_head.proofs.fields.number_of.Goals as goal

-- a number of few digits is small
small : (n digits : ℕ) → n < 10 ^ digits → digits ≤ 17 → n < 10 ^ 17
small n digits within few =
    let most : 10 ^ digits ≤ 10 ^ 17 = pow-le-pow_right (lit< tt) few in
    omega arith

pub overflow_mul-n : goal.overflow_mul-n
overflow_mul-n c =
    let n = small c.loop-b.n c.loop-b.b-index c.loop-b.invariant.small (omega arith) in
    omega arith

pub overflow_add-n : goal.overflow_add-n
overflow_add-n c =
    let n = small c.loop-b.n c.loop-b.b-index c.loop-b.invariant.small (omega arith) in
    grind arith
