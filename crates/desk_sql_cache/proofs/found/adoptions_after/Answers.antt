use Rattle.std.proofs.Common.{Ok, Some}
use Rattle.desk_model.specs.Tables.{applied}
use Rattle.desk_sql_lookup.proofs.LookUps.{then_tells}
use Rattle.desk_sql_cache.specs.References.{AreAdopted}
use Rattle.desk_sql_cache.proofs.found.adoptions_after.Goals as goal

pub returns-clause-looks : goal.returns-clause-looks
returns-clause-looks g c =
    let change = c.args.change.now in
    then_tells g.S.Store c.args.conn.now c.change_adoptions.new.conn
    c.in_ok-change_adoptions.ensures.looks (λ t. Unit {0}) (Ok (Some c.change_adoptions.new.kept))
    (λ after t. AreAdopted c.args.adoptions t → AreAdopted after (applied change t))
    (λ clean t held are.
    let are : AreAdopted c.args.adoptions t = are in
    c.in_ok-change_adoptions.ensures.looks.found clean t held (rw c.in-Some.is at are))
    tt
