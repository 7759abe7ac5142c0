-- A field in its section, apart from where it is in memory.
use Rattle.desk_tagvalue.specs.Entries.{entry_text}
use Rattle.desk_findings.specs.declared.field.Placed.{Placed}
use Rattle.desk_findings.specs.Fields.{FieldAt}

-- the field that is borrowed, with its section and how many packages have begun
abbrev pub placed_text : Placed → FieldAt
placed_text p = record { section = p.section; packages = p.packages; entry = entry_text p.entry }
