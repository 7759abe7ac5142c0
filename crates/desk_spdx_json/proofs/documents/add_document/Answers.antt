use Rattle.std.proofs.Common.{◌∙◌, ◌++◌, ap}
use Rattle.std.proofs.lemmas.Result.{on_ok_weaker}
use Rattle.desk_base.specs.TextSets.{has_text}
use Rattle.serde_json.specs.View.{view}
use Rattle.desk_spdx_json.proofs.Kept.{kept_in}
use Rattle.desk_spdx_json.proofs.documents.add_document.Goals as goal

pub returns : goal.returns
returns c =
    on_ok_weaker c.add_kept.result (λ told.
    told ∙ ap (λ steps. c.args.steps.now ++ steps)
    (kept_in c.args.files (has_text c.in_ok-idle.idle) c.args.at.now (view c.args.value.now)
    c.in_ok-idle.ensures))
    c.add_kept.ensures
