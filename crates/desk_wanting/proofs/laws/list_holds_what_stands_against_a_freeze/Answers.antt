use Rattle.desk_wanting.proofs.Against.{unknown_alone, shut_alone, empty_alone, stands_listed, listed_stands}
use Rattle.desk_wanting.proofs.Once.{listed_once}
use Rattle.desk_wanting.proofs.laws.list_holds_what_stands_against_a_freeze.Goals as goal

pub returns : goal.returns
returns c = record {
  unknown = unknown_alone;
  shut = shut_alone;
  empty = empty_alone;
  held = λ w t r row p x is ships s. stands_listed w t r row is p x ships s;
  once = listed_once;
  only = λ w t r row x is m. listed_stands w t r row is x m;
}
