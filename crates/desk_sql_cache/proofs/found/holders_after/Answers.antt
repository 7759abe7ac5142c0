use Rattle.std.proofs.Common.{sym, subst, Ok, Some}
use Rattle.desk_access.specs.Follows.{Follows}
use Rattle.desk_history.specs.Laws.{Ascends}
use Rattle.desk_model.specs.Keys.{release_below}
use Rattle.desk_model.specs.Tables.{applied}
use Rattle.desk_memory_rows.specs.Holders.{AreHolders}
use Rattle.desk_sql_lookup.proofs.LookUps.{then_tells}
use Rattle.desk_sql_cache.specs.Holding.{AreHeld, held_by}
use Rattle.desk_sql_cache.proofs.Holding.{held_after}
use Rattle.desk_sql_cache.proofs.found.holders_after.Goals as goal

pub returns-clause-looks : goal.returns-clause-looks
returns-clause-looks g c =
    let change = c.args.change.now in
    then_tells g.S.Store c.args.conn.now c.change_holders.new.conn c.in_ok-change_holders.ensures
    (λ t. Unit {0}) (Ok (Some c.change_holders.new.holders))
    (λ after t. Ascends release_below (applied change t).releases → Follows change t
    → AreHeld c.args.holders t → AreHeld after (applied change t))
    (λ clean t held up follows are.
    let are : AreHeld c.args.holders t = are in
    subst (λ all. AreHolders all (applied change t))
    (sym (c.in_ok-change_holders.ensures.found clean t held))
    (held_after change t (held_by c.in-Some.held) up follows (rw c.in-Some.is at are)))
    tt
