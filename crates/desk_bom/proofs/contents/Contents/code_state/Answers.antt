use Rattle.std.proofs.Common.{ap}
use Rattle.std.specs.Prelude.{map}
use Rattle.desk_tagvalue.specs.Documents.{document_text}
use Rattle.desk_tagvalue.specs.Entries.{value_text}
use Rattle.desk_tagvalue.specs.Views.{package_text, file_text}
use Rattle.desk_bom.specs.Codes.{files_at}
use Rattle.desk_bom.specs.Contents.{AreFilesOf}
use Rattle.desk_bom.proofs.CodeLemmas.{state_at}
use Rattle.desk_bom.proofs.contents.Contents.code_state.Goals as goal

pub returns-in_ok-state-in-Some : goal.returns-in_ok-state-in-Some
returns-in_ok-state-in-Some c =
    let d = document_text c.args.document.now in
    let p = package_text c.package_at-package.result.now in
    let arrows = c.files.result.now in
    let fs = files_at (map file_text c.as_slice-files.result.now) arrows in
    let own : AreFilesOf d c.args.owner fs =
    record {
      places = map (λ x. x.to) arrows;
      once = c.files.ensures.once;
      members = λ j.
          let m = c.files.ensures.members j in
          let held = c.requires.held (record { from = c.args.owner; to = j }) in
          (λ h. held.0 (m.0 h), λ h. m.1 (held.1 h));
      are = ap (λ l. files_at (map file_text l) arrows) c.as_slice-files.ensures;
    } in
    record {
      owner = p;
      at = c.package_at-package.ensures;
      is = state_at d c.args.owner p fs c.in_ok-state-in-Some.state own
          c.in_ok-state-in-Some.ensures;
    }

pub returns-in-None : goal.returns-in-None
returns-in-None c = record {
  owner = package_text c.package_at-package.result.now;
  at = c.package_at-package.ensures;
  is = ap value_text c.in-None.is;
}
