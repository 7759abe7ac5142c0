use Rattle.std.proofs.Common.{[], refl, sym, subst}
use Rattle.desk_model.specs.Tables.{tables}
use Rattle.desk_memory_rows.specs.Holders.{AreHolders}
use Rattle.desk_memory_rows.proofs.Holding.{no_holders}
use Rattle.desk_core.proofs.desk.TableDesk+T+MemStore.new.Goals as goal

pub returns : goal.returns
returns g c = λ w. (
  c.new.ensures.rows w,
  c.new.ensures.kept w,
  subst (λ all. AreHolders all (tables w [])) (sym c.new.ensures.holders)
      (no_holders (tables w []) refl refl),
)
