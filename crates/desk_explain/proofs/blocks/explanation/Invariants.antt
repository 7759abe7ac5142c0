use Rattle.std.proofs.Common.{◌≡◌, take}
use Rattle.std.specs.List.{flat_map}
use Rattle.std.specs.String.{string_bytes}
use Rattle.desk_explain.specs.Explanations.{block}
use Rattle.desk_explain.proofs.blocks.explanation.Given as goal

-- a block for each entry before the index
abbrev pub invariant-loop-entry : goal.invariant-loop-entry
invariant-loop-entry l = string_bytes l.text ≡ flat_map block (take l.entry-index l.entries)
