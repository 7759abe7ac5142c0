use Rattle.std.proofs.Common.{◌∙◌, ap, map, rules}
use Rattle.std.specs.Prelude.{not}
use Rattle.std.proofs.lemmas.Fn.{filter_same}
use Rattle.desk_spdx_json.specs.declared.steps.Step.{Step}
use Rattle.desk_spdx_json.specs.Steps.{is_line, step_text}
use Rattle.desk_spdx_files.proofs.Added.{filter_mapped}
use Rattle.desk_spdx_json.proofs.steps.drop_lines.Goals as goal

pub returns : goal.returns
returns c =
    ap (map step_text) (filter_same _ (λ (s : Step). not (is_line (step_text s))) _
    (λ x b f' k. search rules) _ _ c.retain.ensures.filtered)
    ∙ filter_mapped step_text (λ s. not (is_line s)) c.args.steps.now.items
