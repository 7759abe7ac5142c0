-- The steps of a document with all its files, or without those that are idle.
use Rattle.std.specs.Prelude.{ℕ, List}
use Rattle.serde_json.specs.Data.{Data}
use Rattle.desk_spdx_files.specs.declared.idle.Files.{Files}
use Rattle.desk_spdx_files.specs.declared.idle.Files.TheVariants as files
use Rattle.desk_spdx_files.specs.Files.{is_idle}
use Rattle.desk_spdx_json.specs.Steps.{StepText}
use Rattle.desk_spdx_json.specs.Documents.{document_steps, in_document, steps_at}
use Rattle.desk_spdx_json.specs.Kept.{kept_at}

-- all steps of a document that is at a place, with these files
abbrev pub steps_in : Files → List ℕ → Data → List StepText
steps_in files.All at d = steps_at at d
steps_in files.Needed at d = kept_at (is_idle d) at d

-- all steps of a JSON text, without idle files
abbrev pub needed_steps : Data → List StepText
needed_steps d = in_document (λ at x. kept_at (is_idle x) at x) d

-- with these files
abbrev pub steps_with : Files → Data → List StepText
steps_with files.All d = document_steps d
steps_with files.Needed d = needed_steps d
