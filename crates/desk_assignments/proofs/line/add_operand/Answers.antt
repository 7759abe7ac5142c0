use Rattle.std.proofs.Common.{◌≡◌, length, refl, rules}
use Rattle.std.specs.Prelude.{◌==◌}
use Rattle.std.specs.List.{position_or_len}
use Rattle.desk_assignments.proofs.Shallow.{none_at}
use Rattle.desk_assignments.proofs.line.add_operand.Goals as goal

pub returns-in_default-clause-err : goal.returns-in_default-clause-err
returns-in_default-clause-err c =
    let past : position_or_len (λ b. b == 61) c.args.operand.now ≡ length c.args.operand.now =
    search rules in
    let none = none_at (λ b. b == 61) c.args.operand.now past in
    rw none refl
