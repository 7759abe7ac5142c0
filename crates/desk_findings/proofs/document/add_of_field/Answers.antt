use Rattle.std.proofs.Common.{◌∙◌, ap, refl}
use Rattle.desk_findings.specs.Fields.{differs}
use Rattle.desk_findings.specs.Known.{state_in}
use Rattle.desk_findings.specs.Placed.{placed_text}
use Rattle.desk_findings.proofs.FindingLemmas.{joined, noted_as}
use Rattle.desk_tagvalue.specs.Documents.{document_text}
use Rattle.desk_findings.proofs.document.add_of_field.Goals as goal

pub returns-clause-found : goal.returns-clause-found
returns-clause-found c = λ reads is defines.
    let bad = c.in_ok-licence.ensures.bad reads is in
    let undefined = c.in_ok-licence.ensures.undefined reads is (document_text c.args.document.now)
    defines in
    joined c.args.found.now.items _ _ _ _ _ _ _ _ _ c.note.new.found.items c.note-2.new.found.items
    c.note-3.new.found.items c.note-4.new.found.items c.note-5.new.found.items
    c.note-6.new.found.items c.note-7.new.found.items c.note-8.new.found.items
    c.note-9.new.found.items
    (noted_as _ _ _ _ _ _ _ c.in_ok-note.ensures c.is_unknown.ensures refl)
    (noted_as _ _ _ _ _ _ _ c.in_ok-note-2.ensures c.is_misplaced.ensures refl)
    (noted_as _ _ _ _ _ _ _ c.in_ok-note-3.ensures bad refl)
    (noted_as _ _ _ _ _ _ _ c.in_ok-note-4.ensures c.is_bad_digest.ensures refl)
    (noted_as _ _ _ _ _ _ _ c.in_ok-note-5.ensures c.is_bad_code.ensures refl)
    (noted_as _ _ _ _ _ _ _ c.in_ok-note-6.ensures
    (c.differs.ensures ∙ ap (λ l. differs (state_in l) (placed_text c.args.field.now))
    c.deref.ensures.value) refl)
    (noted_as _ _ _ _ _ _ _ c.in_ok-note-7.ensures c.is_unwanted_code.ensures refl)
    (noted_as _ _ _ _ _ _ _ c.in_ok-note-8.ensures c.is_bad_flag.ensures refl)
    (noted_as _ _ _ _ _ _ _ c.in_ok-note-9.ensures undefined refl)
