use Rattle.std.proofs.Common.{◌≡◌, drop}
use Rattle.std.specs.List.{list_all}
use Rattle.desk_catalogue.specs.Shown.{codes_in}
use Rattle.desk_catalogue.proofs.rules.are_duties.Given as goal
use Rattle.desk_base.specs.Borrowed.{texts}
use Rattle.desk_base.specs.TextSets.{is_among}

abbrev pub invariant-loop-code : goal.invariant-loop-code
invariant-loop-code l = list_all (is_among (codes_in l.duties)) (texts (drop l.code-index l.listed))
    ≡ list_all (is_among (codes_in l.duties)) (texts l.listed)
