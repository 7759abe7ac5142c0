use Rattle.desk_sql_layout.proofs.Declared.{desk_is}
use Rattle.desk_laws.proofs.Desks.{in_another_order}
use Rattle.desk_laws.proofs.schemas.tables_come_in_any_order.Goals as goal

pub returns-clause-declared : goal.returns-clause-declared
returns-clause-declared c = desk_is

pub returns-clause-exchanged : goal.returns-clause-exchanged
returns-clause-exchanged c = in_another_order
