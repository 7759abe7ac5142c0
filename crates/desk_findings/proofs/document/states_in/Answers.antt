use Rattle.std.proofs.Common.{◌≡◌, ◌∙◌, length, ap, sym, arith}
use Rattle.std.proofs.lemmas.List.{get_or_past, length-map}
use Rattle.desk_tagvalue.specs.Documents.{document_text}
use Rattle.desk_tagvalue.specs.Views.{package_text}
use Rattle.desk_bom.specs.declared.state.CodeState.TheVariants as state
use Rattle.desk_findings.proofs.document.states_in.Goals as goal

pub returns : goal.returns
returns c =
    let all : length (document_text
    c.args.document.now).packages
    ≡ length c.as_slice-count.result.now = length-map c.args.document.now.packages package_text
    ∙ ap length (sym c.as_slice-count.ensures) in
    record {
      of_packages = λ k within. c.loop-place.invariant.states k
          (omega (arith, within, all, c.loop-place-test.false));
      past_packages = λ k past. get_or_past c.loop-place.states.items k state.Absent
          (omega (arith, past, all, c.loop-place.auto.place-end, c.loop-place.invariant.count));
    }
