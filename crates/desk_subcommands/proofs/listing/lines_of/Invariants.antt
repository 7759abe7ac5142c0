use Rattle.std.proofs.Common.{◌≡◌, take}
use Rattle.std.specs.String.{string_bytes}
use Rattle.desk_subcommands.specs.Listing.{sets_text}
use Rattle.desk_subcommands.proofs.listing.lines_of.Given as goal

-- a line for each set before the index
abbrev pub invariant-loop-set : goal.invariant-loop-set
invariant-loop-set l = string_bytes l.text ≡ sets_text (take l.set-index l.sets)
