use Rattle.desk_import.proofs.Reread.{conversion_said, document_said}
use Rattle.desk_import.proofs.SaidSteps.{document_lined}
use Rattle.desk_import.proofs.laws.objects_are_said.Goals as goal

pub returns : goal.returns
returns c = record { lines = document_lined; fields = document_said; text = conversion_said }
