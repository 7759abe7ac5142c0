use Rattle.desk_findings.proofs.Sections.{whole, faults, packages, files, contents, findings}
use Rattle.desk_findings.proofs.laws.cutting.sections_are_one_cutting.Goals as goal

pub returns : goal.returns
returns c = record {
  whole = whole;
  faults = faults;
  packages = packages;
  files = files;
  contents = contents;
  findings = findings;
}
