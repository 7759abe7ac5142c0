-- The arrows that come from a place, and arrows in their order.
use Rattle.std.specs.Prelude.{◌≡◌, ◌≤◌, ◌<◌, ℕ, List, Contains}
use Rattle.std.specs.List.{AllPairs}
use Rattle.desk_bom.specs.declared.arrows.Arrow.{Arrow}

-- all arrows that come from the place, and no others
pub record AreTargets (arrows : List Arrow) (place : ℕ) (targets : List Arrow) : Type 0 where
  pub all : (x : Arrow) → Contains arrows x → x.from ≡ place → Contains targets x
  pub only : (x : Arrow) → Contains targets x → Contains arrows x × (x.from ≡ place)

-- an arrow comes before another: it starts at no higher place, and if both start at the same one,
-- it leads to a lower one
abbrev pub IsBefore : Arrow → Arrow → Type 0
IsBefore x y = (x.from ≤ y.from) × (x.from ≡ y.from → x.to < y.to)

-- each arrow comes before all that follow it
abbrev pub Ascend : List Arrow → Type 0
Ascend arrows = AllPairs IsBefore arrows
