use Rattle.std.proofs.Common.{◌≡◌, ◌∙◌, IfNone, IfSome, Err, Ok, false}
use Rattle.std.proofs.lemmas.Result.{IfOk-weaker}
use Rattle.sqlite.specs.Held.{state}
use Rattle.desk_memory_rows.specs.Holders.{AreHolders}
use Rattle.desk_sql_lookup.proofs.LookUps.{fails_too, looks_then, then_tells}
use Rattle.desk_sql_cache.specs.Holding.{have_releases, held_by}
use Rattle.desk_sql_cache.proofs.Holding.{none_weaker, read_held, read_none, some_weaker}
use Rattle.desk_sql_cache.proofs.Looks.{both_ok, memory_causes}
use Rattle.desk_sql_cache.proofs.holders.read_holders.Goals as goal

pub returns-in_err-choices : goal.returns-in_err-choices
returns-in_err-choices g c =
    let fault = c.in_err-choices.field-0.0 in
    let both = looks_then g.S.Store c.args.conn.now c.release_rows.new.conn c.choices.new.conn
    (λ t. Unit {0}) c.in_ok-releases.ensures (Err fault) c.in_err-choices.ensures
    (λ choices t. choices.items ≡ t.choice) (λ choices t first is. is) in
    fails_too g.S.Store c.args.conn.now c.choices.new.conn c.from_residual-in_err-choices.result
    fault c.from_residual-in_err-choices.ensures.1 _ (λ t. Unit {0}) both

pub returns : goal.returns
returns g c =
    let s = state g.S.Store c.args.conn.now in
    let new = state g.S.Store c.choices.new.conn in
    let first = c.in_ok-releases.ensures in
    let second = c.in_ok-choices.ensures in
    let both = looks_then g.S.Store c.args.conn.now c.release_rows.new.conn c.choices.new.conn
    (λ t. Unit {0}) first (Ok c.in_ok-choices.choices) second
    (λ choices t. choices.items ≡ t.choice) (λ choices t first is. is) in
    then_tells g.S.Store c.args.conn.now c.choices.new.conn both (λ t. Unit {0}) c.of.result
    (λ found t. IfSome found (λ holders. AreHolders (held_by holders) t)
    × IfNone found (have_releases t.releases t.choice ≡ false))
    (IfOk-weaker c.of.result _ _
    (λ found is clean t held.
    let between = second.kept.kept.spared.honest clean in
    let was = first.kept.kept.spared.honest between in
    let choices = c.as_slice-2.ensures.value ∙ both.found clean t held in (
      some_weaker _ _ (λ holders are. read_held s c.as_slice.result.now c.as_slice-2.result.now
          (held_by holders) are was (λ u holds. c.as_slice.ensures.value
          ∙ first.found between u holds) t held choices) found is.0,
      none_weaker _ _ (λ none. read_none s c.as_slice.result.now c.as_slice-2.result.now none was
          (λ u holds. c.as_slice.ensures.value ∙ first.found between u holds) t held choices) found
          is.1,
    ))
    (both_ok c.of.result _ _ c.of.ensures.held c.of.ensures.none))
    (memory_causes (λ t. Unit {0}) s new c.of.result c.of.ensures.fault)
