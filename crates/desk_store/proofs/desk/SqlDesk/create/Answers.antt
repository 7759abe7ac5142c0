use Rattle.std.proofs.Common.{[], refl}
use Rattle.sqlite.specs.Held.{state}
use Rattle.desk_model.specs.Tables.{tables}
use Rattle.desk_store.proofs.desk.SqlDesk.create.Goals as goal

pub returns-in-Ok-clause-empty : goal.returns-in-Ok-clause-empty
returns-in-Ok-clause-empty g c =
    let same = c.over.ensures.same in
    let founded = c.in-Ok.ensures.ok in
    record {
      is_open = λ clean. rw same (founded (rw same at clean)).is_open;
      holds = λ clean w.
          let it = founded (rw same at clean) in
          c.over.ensures.holds (tables w []) (rw c.new-forms.ensures refl)
          (c.new-tallies.ensures (tables w []) refl refl)
          (λ _ _. record { holds = it.holds; settled = it.settled });
      leaves = λ clean x left w.
          let it = founded (rw same at clean) in (
            (state g.S.Store c.create_tables.new.conn).now,
            it.holds,
            c.in-Ok.ensures.stop (rw same at clean) x (rw same at left),
          );
    }
