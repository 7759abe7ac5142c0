use Rattle.std.proofs.Common.{take}
use Rattle.std.specs.List.{AllZip}
use Rattle.desk_alts.specs.Choices.{IsChoice}
use Rattle.desk_alts.proofs.listing.sets_of.Given as goal

-- the sets are those of the kept ones before the index
abbrev pub invariant-loop-at : goal.invariant-loop-at
invariant-loop-at l = AllZip (IsChoice l.table) (take l.at l.kept) l.sets.items
