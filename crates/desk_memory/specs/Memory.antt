-- What is seen of a store in memory: its rows, always, and tallies and holders that are theirs; a
-- stop leaves nothing.
use Rattle.std.specs.Prelude.{◌≡◌}
use Rattle.desk_model.specs.Tables.{Tables}
use Rattle.desk_access.specs.Seen.{Seen}
use Rattle.desk_tally.specs.Kept.{AreKept}
use Rattle.desk_memory_rows.specs.Books.{changes_in, duties_in}
use Rattle.desk_memory_rows.specs.Holders.{AreHolders}
use Rattle.desk_sorted.specs.Blocks.{rows_in}
use Rattle.desk_memory.specs.declared.store.MemStore.{MemStore}

-- the tables that a store in memory keeps, wherever it keeps their rows
abbrev pub rows_of : MemStore → Tables
rows_of s = record {
  catalogue = s.catalogue.items;
  forms = s.forms;
  rule = s.rules.rows.items;
  document = s.documents.rows.rows.items;
  packages = s.packages.rows.items;
  extracted = s.extracted.rows.items;
  conclusion = rows_in s.office.conclusions.blocks.items;
  adoption = rows_in s.office.adoptions.blocks.items;
  releases = s.releases.rows.items;
  attached = rows_in s.attached.blocks.items;
  choice = rows_in s.choices.rows.blocks.items;
  frozen = rows_in s.frozen.blocks.items;
  duty = duties_in s.ledger;
  changes = changes_in s.ledger;
}

-- it holds the tables that its rows, tallies and holders agree with; it is always honest and open,
-- has no faults of a disk, and a stop leaves nothing of it
abbrev pub memory_seen : MemStore → Seen (Unit {0})
memory_seen s = record {
  holds = λ t. (rows_of s ≡ t) × AreKept s.tallies t
      × AreHolders (rows_in s.choices.holders.blocks.items) t;
  is_honest = Unit {0};
  is_open = Unit {0};
  faults = 0;
  leaves = λ x. ⊥;
}
