use Rattle.std.proofs.Common.{◌∙◌, ap, filter}
use Rattle.std.specs.List.{flat_map}
use Rattle.desk_tree_gather.specs.declared.files.SourceFile.{SourceFile}
use Rattle.desk_tree_gather.specs.Paths.{is_toml, is_covered}
use Rattle.desk_tree_gather.specs.Gathering.{holder}
use Rattle.desk_tree_gather.specs.Survey.{toml_flaws, stated_flaws}
use Rattle.desk_tree_gather.specs.Shown.{files_of, tree_in}
use Rattle.desk_tree_gather.proofs.SurveyLemmas.{joined}
use Rattle.desk_tree_gather.proofs.surveying.survey_of.Goals as goal

pub returns-clause-flaws : goal.returns-clause-flaws
returns-clause-flaws c = λ r right.
    let held = λ (f : SourceFile). stated_flaws r (holder (tree_in c.args.tree) f) in
    joined c.args.flaws c.tomls_sifted.new.flaws c.all_sifted.new.flaws _ _ _ _
    (c.in_ok-covered-2.ensures.flaws r right)
    (c.in_ok-tomls-2.ensures.flaws r right)
    (ap (flat_map (toml_flaws r))
    (ap files_of c.as_slice-2.ensures.value ∙ c.in_ok-tomls.ensures
    ∙ ap (filter is_toml) (ap files_of c.as_slice.ensures.value ∙ c.in_ok-files.ensures)))
    (ap (flat_map held) (ap files_of c.as_slice-4.ensures.value ∙ c.in_ok-covered.ensures
    ∙ ap (filter is_covered) (ap files_of c.as_slice-3.ensures.value ∙ c.in_ok-files.ensures)))
