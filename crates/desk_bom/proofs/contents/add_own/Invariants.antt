use Rattle.std.proofs.Common.{◌≡◌, ◌≤◌, ◌++◌, drop}
use Rattle.std.specs.Prelude.{map}
use Rattle.desk_tagvalue.specs.Entries.{entry_text}
use Rattle.desk_bom.specs.Contents.{own_files}
use Rattle.desk_bom.proofs.contents.add_own.Given as goal

-- those found and those in what is left are all
abbrev pub invariant-loop-entry : goal.invariant-loop-entry
invariant-loop-entry l = record {
  packages : l.packages ≤ l.entry-index;
  files : l.files ≤ l.entry-index;
  rest : l.found.items ++ own_files l.packages l.files
      (map entry_text (drop l.entry-index l.entries)) ≡ l.fn.found.items
      ++ own_files 0 0 (map entry_text l.entries);
}
