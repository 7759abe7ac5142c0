use Rattle.std.proofs.Common.{◌≡◌, ◌+◌, None, sym, subst, take}
use Rattle.std.proofs.lemmas.List.{take_all}
use Rattle.desk_model.specs.declared.row.ChoiceRow.{ChoiceRow}
use Rattle.desk_sorted.specs.Blocks.{rows_in}
use Rattle.desk_sql_cache.specs.Holding.{AreHoldersOf, IsPlace}
use Rattle.desk_tally.specs.Kept.{place_found}
use Rattle.desk_sql_cache.proofs.Holding.{none_noted, noted, one_is_of_none}
use Rattle.desk_sql_cache.proofs.holders.Holders.of.Goals as goal

pub loop-row-init : goal.loop-row-init
loop-row-init c = none_noted c.args.releases.now (rows_in c.new-rows.result.blocks.items)
    c.new-rows.ensures

pub loop-row-preserved : goal.loop-row-preserved
loop-row-preserved c =
    let releases = c.args.releases.now in
    let choices = c.args.choices.now in
    let i = c.loop-row.row-index in
    let row : ChoiceRow = c.row-item.result in
    subst (AreHoldersOf releases (take (i + 1) choices)) (sym c.in_ok-note.ensures.ok)
    (noted releases choices i row c.in-Some.place (rows_in c.loop-row.rows.blocks.items)
    c.loop-row-test.true c.row-item.is
    (subst (λ name. IsPlace releases name c.in-Some.place) c.as_str.ensures c.in-Some.ensures.found)
    c.loop-row.invariant)

pub returns-clause-held : goal.returns-clause-held
returns-clause-held c =
    subst (λ rows. AreHoldersOf c.args.releases.now rows (rows_in c.loop-row.rows.blocks.items))
    (take_all c.loop-row.row-index c.args.choices.now c.loop-row-test.false) c.loop-row.invariant

pub returns-in_default-clause-none : goal.returns-in_default-clause-none
returns-in_default-clause-none c = λ up.
    let releases = c.args.releases.now in
    let row : ChoiceRow = c.row-item.result in
    one_is_of_none releases c.args.choices.now c.loop-row.row-index row c.loop-row-test.true
    c.row-item.is
    (subst (λ name. place_found releases name ≡ None) c.as_str.ensures
    (c.in_default.ensures.none up))
