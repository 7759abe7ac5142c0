use Rattle.std.proofs.Common.{◌≡◌, take}
use Rattle.toml.specs.View.{items_view}
use Rattle.desk_entries.specs.Written.{text_items}
use Rattle.desk_entries.proofs.tables.text_values.Given as goal

-- those so far have their tables
abbrev pub invariant-loop-text : goal.invariant-loop-text
invariant-loop-text l = items_view l.values.items ≡ text_items (take l.text-index l.texts)
