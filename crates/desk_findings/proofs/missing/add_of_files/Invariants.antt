use Rattle.std.proofs.Common.{◌≡◌, ◌++◌, take}
use Rattle.std.specs.Prelude.{map}
use Rattle.std.specs.List.{flat_map}
use Rattle.desk_tagvalue.specs.Views.{file_text}
use Rattle.desk_findings.specs.Findings.{missing_of_file}
use Rattle.desk_findings.proofs.missing.add_of_files.Given as goal

abbrev pub invariant-loop-file : goal.invariant-loop-file
invariant-loop-file l = l.found.items ≡ l.fn.found.items
    ++ flat_map missing_of_file (map file_text (take l.file-index l.files))
