use Rattle.std.proofs.Common.{◌≡◌, ◌++◌, take}
use Rattle.std.specs.Prelude.{map}
use Rattle.std.specs.List.{flat_map}
use Rattle.desk_tagvalue.specs.Views.{extracted_text}
use Rattle.desk_findings.specs.Findings.{missing_of_extracted}
use Rattle.desk_findings.proofs.missing.add_of_extracted.Given as goal

abbrev pub invariant-loop-licence : goal.invariant-loop-licence
invariant-loop-licence l = l.found.items ≡ l.fn.found.items
    ++ flat_map missing_of_extracted (map extracted_text (take l.licence-index l.extracted))
