use Rattle.std.proofs.Common.{◌≡◌, List, Bool, subst}
use Rattle.std.specs.Prelude.{map}
use Rattle.std.specs.String.{string_bytes}
use Rattle.std.proofs.lemmas.Result.{IfOk-weaker}
use Rattle.desk_tagvalue.specs.Views.{package_text}
use Rattle.desk_tagvalue.specs.declared.parts.Package.{Package}
use Rattle.desk_import.specs.Proposals.{AreLines}
use Rattle.desk_import.specs.Summaries.{standings_of}
use Rattle.desk_import.specs.declared.proposals.Proposals.{Proposals}
use Rattle.desk_import.proofs.proposals.proposals_of.Goals as goal

pub returns : goal.returns
returns c = λ reads is.
    let packages : c.as_slice.result.now ≡ c.args.document.now.packages = c.as_slice.ensures in
    let marks = c.as_slice-2.ensures.value in
    let Found : Proposals → List Package → List Bool → Type 0 =
    λ found ps bs. (found.standings.items ≡ standings_of reads (map package_text ps) bs)
    × AreLines reads c.args.number (map package_text ps) found.standings.items
    (string_bytes found.lines) in
    IfOk-weaker c.proposals_for.result _ _
    (λ found h. let there = subst (λ ps. Found found ps c.in_ok-marks.marks.items) packages
    (subst (λ bs. Found found c.as_slice.result.now bs) marks h) in
    ((c.in_ok-marks.marks.items, c.in_ok-marks.ensures, there.0), there.1))
    (c.proposals_for.ensures reads is)
