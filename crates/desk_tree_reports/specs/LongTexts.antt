-- Texts in blocks.
use Rattle.std.specs.Prelude.{ℕ, List, ◌++◌}
use Rattle.std.specs.List.{flat_map}
use Rattle.desk_tree_reports.specs.declared.long_text.Block.{Block}

-- the pieces of a block, and then its bytes
abbrev pub block_text : Block → List ℕ
block_text block = block.pieces ++ block.bytes.items

-- blocks one after the other
abbrev pub joined : List Block → List ℕ
joined blocks = flat_map block_text blocks
