use Rattle.std.proofs.Common.{◌∙◌, ◌++◌, ap, codes}
use Rattle.serde_json.specs.Written.{compact_text, has_float}
use Rattle.desk_wanting.proofs.Floats.{request_has_no_float}
use Rattle.desk_wanting.proofs.choice_requests.choice_line.Goals as goal

pub returns : goal.returns
returns c =
    let is = c.in_ok-value.ensures in
    c.in_ok-push_str.ensures.bytes
    ∙ ap (λ text. text ++ codes "\n")
    (c.in_ok-line.ensures.text (ap has_float is
    ∙ request_has_no_float c.args.release.now c.args.choice.now) ∙ ap compact_text is)
