use Rattle.std.proofs.Common.{◌≡◌, length, arith}
use Rattle.std.proofs.lemmas.Bool.Decides.{nat_tests}
use Rattle.desk_tree_infos.proofs.Running.{without_own}
use Rattle.desk_tree_infos.proofs.information.with_own.Goals as goal

pub returns-then-is_empty : goal.returns-then-is_empty
returns-then-is_empty c = λ all of.
    let none : length c.args.own.items ≡ 0 =
    grind (arith, nat_tests, c.is_empty.ensures, c.if-is_empty.true, c.args.own.ok.0) in
    without_own all of c.args.numbers.items c.add_some.new.list.items c.args.own.items
    c.args.closest c.in_ok-add_some.ensures none
