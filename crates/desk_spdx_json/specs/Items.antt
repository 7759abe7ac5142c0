-- The steps of an array's items, by what an item is.
use Rattle.std.specs.Prelude.{ℕ, List}
use Rattle.serde_json.specs.Data.{Data}
use Rattle.desk_spdx_json.specs.declared.items.Item.{Item}
use Rattle.desk_spdx_json.specs.declared.items.Item.TheVariants as items
use Rattle.desk_spdx_json.specs.Steps.{StepText}
use Rattle.desk_spdx_json.specs.Values.{checksum_steps, name_fault, text_steps}

-- a text, a checksum, or the name of an excluded file
abbrev pub item_steps : Item → List ℕ → Data → List StepText
item_steps (items.Text tag) = text_steps tag
item_steps (items.Checksum tag) = checksum_steps tag
item_steps items.Name = name_fault
