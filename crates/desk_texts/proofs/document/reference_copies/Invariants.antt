use Rattle.std.proofs.Common.{◌≡◌, map}
use Rattle.desk_tagvalue.specs.Views.{extracted_text}
use Rattle.desk_texts.specs.Documents.{reference_of}
use Rattle.desk_texts.proofs.document.reference_copies.Given as goal

abbrev pub invariant-loop-one : goal.invariant-loop-one
invariant-loop-one l = l.kept.items ≡ map (λ x. reference_of (extracted_text x.now)) l.yielded
