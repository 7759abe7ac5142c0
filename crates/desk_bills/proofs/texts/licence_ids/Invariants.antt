use Rattle.std.proofs.Common.{◌≡◌, map, take}
use Rattle.std.specs.List.{flat_map}
use Rattle.desk_bills.specs.Billing.{licence_ids}
use Rattle.desk_bills.proofs.texts.licence_ids.Given as goal

abbrev pub invariant-loop-text : goal.invariant-loop-text
invariant-loop-text l = map (λ id. id.now) l.ids.items
    ≡ flat_map licence_ids (take l.text-index l.uses)
