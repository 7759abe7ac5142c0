use Rattle.std.proofs.Common.{◌∙◌}
use Rattle.desk_tagvalue.specs.Views.{extracted_text}
use Rattle.desk_texts.specs.Documents.{reference_of}
use Rattle.desk_texts.proofs.Halving.{lent_sorted}
use Rattle.desk_texts.proofs.document.references_of.Goals as goal

pub returns : goal.returns
returns c = c.in_ok-kept.ensures
    ∙ lent_sorted extracted_text reference_of (λ x. x.id) c.args.extracted.now
    c.in_ok-sorted.sorted.items c.in_ok-sorted.ensures
