use Rattle.std.proofs.Common.{◌∙◌, ap, refl, sym, rules}
use Rattle.sqlite.specs.Effect.{Database}
use Rattle.sqlite.specs.Held.{state}
use Rattle.desk_sql_write.proofs.Empty.{leaves_tables}
use Rattle.desk_sql_write.proofs.create.create_tables.Goals as goal

pub returns-in-Err-clause-crash : goal.returns-in-Err-clause-crash
returns-in-Err-clause-crash g c =
    leaves_tables (state g.S.Store c.args.conn.now) (state g.S.Store c.write.new.conn)
    (λ is. record {
      declared = sym c.schema-schema.ensures.value
          ∙ c.is_blank.ensures.blank (search rules);
      empty = tt;
      sound = (c.schema-schema.ensures.live is).0;
    })
    c.write.ensures.crash

pub returns-in-Err-clause-cause : goal.returns-in-Err-clause-cause
returns-in-Err-clause-cause g c none clean opened unlimited = (
  c.in-Err.fault,
  refl,
  c.in-Err.ensures.cause.cause clean opened unlimited
      (record { declared = none; empty = tt; sound = (c.schema-schema.ensures.live opened).0 }),
)

pub returns-in-Ok-clause-stop : goal.returns-in-Ok-clause-stop
returns-in-Ok-clause-stop g c = λ clean trees left.
    let it = c.in-Ok.ensures.ok clean in
    c.write.ensures.stop it.is_open trees left ∙ ap (λ (db : Database). db.trees) it.settled
