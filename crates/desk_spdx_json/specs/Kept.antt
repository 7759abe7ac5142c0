-- What is kept of a document without its idle files, given whether an identifier is that of one
-- (`desk_spdx_files` says which are).
use Rattle.std.specs.Prelude.{ℕ, Bool, ◌||◌, List, [], ◌∷◌, codes, if◌then◌else◌}
use Rattle.serde_json.specs.Data.{Data}
use Rattle.serde_json.specs.Find.{as_str}
use Rattle.desk_spdx_files.specs.Files.{left_end, right_end}
use Rattle.desk_spdx_json.specs.declared.steps.Kind.TheVariants as kinds
use Rattle.desk_spdx_json.specs.declared.parts.Part.{Part}
use Rattle.desk_spdx_json.specs.declared.parts.Part.TheVariants as parts
use Rattle.desk_spdx_json.specs.Steps.{StepText, step, left_out}
use Rattle.desk_spdx_json.specs.Values.{text_or_empty, word_in}
use Rattle.desk_spdx_json.specs.Parts.{contained_steps, extracted_steps, file_steps, package_by}
use Rattle.desk_spdx_json.specs.Parts.{relationship_steps, snippet_steps}
use Rattle.desk_spdx_json.specs.Documents.{steps_by}

-- a relationship goes with an idle file at either end, and isn't counted
abbrev pub kept_relationship : (List ℕ → Bool) → List ℕ → Data → List StepText
kept_relationship idle at d = if idle (left_end d) || idle (right_end d) then []
    else relationship_steps at d

-- so does the mention of it in the list of a package
abbrev pub kept_contained : (List ℕ → Bool) → List ℕ → List ℕ → Data → List StepText
kept_contained idle owner at d = if idle (text_or_empty (as_str d)) then []
    else contained_steps owner at d

-- each listing of the file itself is counted
abbrev pub kept_file : (List ℕ → Bool) → List ℕ → Data → List StepText
kept_file idle at d = if idle (word_in (codes "SPDXID") d) then step at (left_out kinds.File) ∷ []
    else file_steps at d

-- the steps of a part
abbrev pub kept_steps : (List ℕ → Bool) → Part → List ℕ → Data → List StepText
kept_steps idle parts.File = kept_file idle
kept_steps idle parts.Package = package_by (kept_contained idle)
kept_steps idle parts.Snippet = snippet_steps
kept_steps idle parts.Extracted = extracted_steps

-- all steps of a document that is at a place
abbrev pub kept_at : (List ℕ → Bool) → List ℕ → Data → List StepText
kept_at idle at d = steps_by (kept_steps idle) (kept_relationship idle) at d
