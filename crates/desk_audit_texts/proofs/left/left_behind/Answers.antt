use Rattle.std.proofs.Common.{◌++◌, ℤ, map, subst, w64}
use Rattle.std.specs.Option.{option_copied}
use Rattle.std.proofs.lemmas.Int.{to_z-of_z}
use Rattle.desk_audit_texts.specs.Left.{IsLeft}
use Rattle.desk_audit_texts.proofs.Behind.{left_on}
use Rattle.desk_audit_texts.proofs.left.left_behind.Goals as goal

pub returns : goal.returns
returns g c = λ all front before.
    subst
    (λ (number : ℤ). IsLeft all (front ++ map (g.R.Stored.stored number) c.args.items.now)
    (option_copied c.behind.result))
    (to_z-of_z w64 c.args.number c.ranges.number)
    (left_on all front c.in_ok-left.field-0.now _ _ (rw c.in_ok-left.was at before)
    c.behind.ensures)
