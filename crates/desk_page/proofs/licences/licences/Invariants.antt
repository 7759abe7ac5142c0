use Rattle.std.proofs.Common.{◌≡◌, map, take}
use Rattle.desk_page.specs.Rows.{first_uses}
use Rattle.desk_page.proofs.licences.licences.Given as goal

-- the licences of the duties before the index
abbrev pub invariant-loop-duty : goal.invariant-loop-duty
invariant-loop-duty l = l.found.items
    ≡ first_uses (map (λ duty. duty.rule) (take l.duty-index l.duties))
