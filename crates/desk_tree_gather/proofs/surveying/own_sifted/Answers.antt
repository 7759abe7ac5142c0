use Rattle.std.proofs.Common.{◌∙◌, ◌++◌, map, sym, ap}
use Rattle.desk_tree_annotations.specs.Tags.{tag_text}
use Rattle.desk_tree_gather.specs.Survey.{stated_flaws}
use Rattle.desk_tree_gather.specs.Shown.{held_in, stated_of}
use Rattle.desk_tree_gather.proofs.ReaderLemmas.{same_stated}
use Rattle.desk_tree_gather.proofs.SurveyLemmas.{stated_flaws_are}
use Rattle.desk_tree_gather.proofs.surveying.own_sifted.Goals as goal

pub returns-clause-info : goal.returns-clause-info
returns-clause-info c = λ r right.
    sym (same_stated r right c.in_ok-held.held.bytes.now (stated_of c.in_ok-info.info)
    c.in_ok-info.ensures) ∙ ap (λ h. r.stated h.bytes) c.in_ok-held.ensures

pub returns-clause-flaws : goal.returns-clause-flaws
returns-clause-flaws c = λ r right.
    c.in_ok-add_tags.ensures r right
    ∙ ap (λ l. c.args.flaws.now ++ l)
    (stated_flaws_are r (held_in c.in_ok-held.held) (stated_of c.in_ok-info.info)
    c.in_ok-path.path (map tag_text c.as_slice.result.now) (c.in_ok-path.ensures ∙ c.as_str.ensures.value)
    (ap (map tag_text) c.as_slice.ensures.value)
    (same_stated r right c.in_ok-held.held.bytes.now (stated_of c.in_ok-info.info)
    c.in_ok-info.ensures)
    ∙ ap (stated_flaws r) c.in_ok-held.ensures)
