use Rattle.std.proofs.Common.{◌∙◌, ◌+◌, ap, sym, arith}
use Rattle.std.specs.Prelude.{if◌then◌else◌}
use Rattle.desk_tagvalue.specs.Documents.{document_text}
use Rattle.desk_findings.specs.Findings.{field_findings}
use Rattle.desk_findings.specs.Known.{state_in}
use Rattle.desk_findings.proofs.FindingLemmas.{field_more}
use Rattle.desk_findings.proofs.document.add_of_fields.Goals as goal
use Rattle.desk_findings.proofs.document.add_of_fields.Goals.{then-is, else-is}

pub loop-entry-preserved : goal.loop-entry-preserved
loop-entry-preserved c =
    let p = c.loop-entry.packages in
    record {
      packages = elim c.if-is.branch [ then-is w ↦ omega arith | else-is w ↦ omega arith ];
      same = c.loop-entry.invariant.same;
      told = c.in_ok-add_of_field.ensures.told;
      rest = λ reads is.
          field_more (field_findings reads (state_in c.args.known.now.states.items)
          (document_text c.args.document.now)) c.loop-entry.section c.section_after-section.result p
          c.if-is.packages c.as_slice-entries.result.now c.loop-entry.entry-index _
          c.loop-entry.found.items c.add_of_field.new.found.items c.loop-entry-test.true
          c.section_after-section.ensures
          (elim c.if-is.branch [
            | then-is w ↦ w.packages-is ∙ ap (λ b. if b then p + 1 else p)
                (sym w.if-is.true ∙ c.is.ensures)
            | else-is w ↦ w.packages-is ∙ ap (λ b. if b then p + 1 else p)
                (sym w.if-is.false ∙ c.is.ensures)
          ])
          (c.in_ok-add_of_field.ensures.found reads is c.requires)
          ∙ c.loop-entry.invariant.rest reads is;
    }
