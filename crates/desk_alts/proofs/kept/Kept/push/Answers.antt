use Rattle.std.proofs.Common.{◌∙◌, ◌++◌, ◌∷◌, [], List, ap, ap₂}
use Rattle.desk_alts.specs.declared.masks.Mask.{Mask}
use Rattle.desk_alts.specs.Masks.{masks}
use Rattle.desk_alts.proofs.Columns.{masks_pushed}
use Rattle.desk_alts.proofs.kept.Kept.push.Goals as goal

pub returns-in-Ok : goal.returns-in-Ok
returns-in-Ok c =
    ap₂ masks c.in_ok-push.ensures.items c.in-Ok.ensures.items
    ∙ (masks_pushed c.self.inside.lows.items c.self.inside.highs.items c.args.mask c.self.invariant
    ∙ ap (λ (xs : List Mask). xs ++ c.args.mask ∷ []) c.self.view_is)
