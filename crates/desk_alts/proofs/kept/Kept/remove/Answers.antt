use Rattle.std.proofs.Common.{◌∙◌, List, length, ap, ap₂, arith}
use Rattle.std.specs.List.{remove}
use Rattle.desk_alts.specs.declared.masks.Mask.{Mask}
use Rattle.desk_alts.specs.Masks.{masks}
use Rattle.desk_alts.proofs.Columns.{length_masks, masks_removed}
use Rattle.desk_alts.proofs.kept.Kept.remove.Goals as goal

pub remove-requires : goal.remove-requires
remove-requires c =
    let long = length_masks c.self.inside.lows.items c.self.inside.highs.items c.self.invariant in
    let e = ap length c.self.view_is in
    omega (arith, c.requires, long, e)

pub returns : goal.returns
returns c = ap₂ masks c.remove.ensures.items c.remove-2.ensures.items
    ∙ (masks_removed c.self.inside.lows.items c.self.inside.highs.items c.args.at c.self.invariant
    ∙ ap (λ (xs : List Mask). remove xs c.args.at) c.self.view_is)
