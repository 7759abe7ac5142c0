use Rattle.std.proofs.Common.{sym, ap, ◌∙◌, ◌≤◌, length, arith}
use Rattle.desk_base.proofs.Bools.{contrary}
use Rattle.desk_audit.specs.Walks.{count_from}
use Rattle.desk_audit.proofs.Judging.{numbered, to_count}
use Rattle.desk_audit.proofs.numbers.are_numbered.Goals as goal

pub returns-then-not-count_from_one : goal.returns-then-not-count_from_one
returns-then-not-count_from_one c = λ h.
    contrary c.count_from_one.result
    (c.count_from_one.ensures ∙ (ap (count_from 1) c.as_slice-duties.ensures
    ∙ to_count 1 c.args.snapshot.now.duty h.numbered))
    c.if-not-count_from_one.true

pub returns : goal.returns
returns c =
    let few : length c.args.snapshot.now.duty ≤ 100000 =
    omega (arith, ap length c.as_slice-duties.ensures) in
    numbered c.args.snapshot.now c.were_frozen.result c.were_frozen.ensures
    (sym (ap (count_from 1) c.as_slice-duties.ensures)
    ∙ (sym c.count_from_one.ensures ∙ c.if-not-count_from_one.false))
    (grind arith)
