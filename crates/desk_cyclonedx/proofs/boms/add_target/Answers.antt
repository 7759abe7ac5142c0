use Rattle.std.proofs.Common.{◌∙◌, ◌≡◌, ◌++◌, ◌∷◌, [], OnOk, ap, subst}
use Rattle.std.proofs.lemmas.Result.{on_ok_weaker}
use Rattle.desk_spdx_json.specs.Steps.{put, step}
use Rattle.desk_cyclonedx.specs.Boms.{dependency_line, target_by}
use Rattle.desk_cyclonedx.proofs.boms.add_target.Goals as goal

pub returns : goal.returns
returns c ids set =
    let at = c.args.at.now in
    let left = c.args.left.now in
    subst (λ found. OnOk c.add-2.result
    (c.add-2.new.self ≡ c.args.steps.now ++ target_by ids left at found)) c.in-Some.ensures
    (on_ok_weaker c.add-2.result
    (λ told. told ∙ ap (λ line. c.args.steps.now ++ step at (put line) ∷ [])
    (c.in_ok-text.ensures ids set
    ∙ ap (dependency_line ids left) (c.as_str-2.ensures.value ∙ c.in_ok-right.ensures)))
    c.add-2.ensures)
