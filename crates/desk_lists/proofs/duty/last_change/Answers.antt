use Rattle.std.proofs.Common.{ap, ◌∙◌, to_z, of_z, w64}
use Rattle.std.specs.Prelude.{find, reverse}
use Rattle.std.proofs.lemmas.Int.{to_z-of_z}
use Rattle.desk_snapshot.specs.Rows.{is_change_of}
use Rattle.desk_lists.proofs.Lists.{find-reverse_among}
use Rattle.desk_lists.proofs.duty.last_change.Goals as goal

pub returns : goal.returns
returns c =
    c.last_within.ensures
    ∙ find-reverse_among (is_change_of (to_z w64 (of_z w64 c.args.duty))) c.among.result.now
    c.args.snapshot.now.changes c.among.ensures
    ∙ ap (λ d. find (is_change_of d) (reverse c.args.snapshot.now.changes))
    (to_z-of_z w64 c.args.duty c.ranges.duty)
