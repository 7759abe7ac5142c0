use Rattle.desk_laws.proofs.Desks.{beside_a_table, beside_an_index, beside_views}
use Rattle.desk_laws.proofs.schemas.others_may_stand_beside.Goals as goal

pub returns-clause-table : goal.returns-clause-table
returns-clause-table c = λ schema more desk free. beside_a_table schema more free desk

pub returns-clause-index : goal.returns-clause-index
returns-clause-index c = λ schema more desk loose short. beside_an_index schema more loose short desk

pub returns-clause-views : goal.returns-clause-views
returns-clause-views c = beside_views
