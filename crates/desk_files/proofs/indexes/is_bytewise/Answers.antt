use Rattle.std.proofs.Common.{◌≡◌, true, false, drop, ap, sym, ◌∙◌, arith}
use Rattle.std.specs.Prelude.{◌==◌, ◌+◌}
use Rattle.std.proofs.lemmas.Bool.Decides.{nat_tests}
use Rattle.desk_sql_layout.specs.Desk.{is_bytewise}
use Rattle.desk_sql_adopt.proofs.Bytewise.{by_bytes, otherwise}
use Rattle.desk_files.proofs.indexes.is_bytewise.Goals as goal

pub returns-then-code-ne0 : goal.returns-then-code-ne0
returns-then-code-ne0 c =
    let differs : (c.code.result == 0) ≡ false = grind (arith, nat_tests, c.if-code-ne0.true) in
    sym (otherwise c.args.columns.now c.loop-column._column-index c.loop-column.rest
    c.loop-column-test.true c.first.result c.first.ensures c.code.result c.code.ensures differs)
    ∙ c.loop-column.invariant

pub loop-column-preserved : goal.loop-column-preserved
loop-column-preserved c =
    let same : (c.code.result == 0) ≡ true = grind (arith, nat_tests, c.if-code-ne0.false) in
    let more = by_bytes c.args.columns.now c.loop-column._column-index c.loop-column.rest
    c.loop-column-test.true c.first.result c.first.ensures c.code.result c.code.ensures same in
    ap (is_bytewise (drop (c.loop-column._column-index + 1) c.args.columns.now))
    c.later-rest.ensures ∙ more ∙ c.loop-column.invariant
