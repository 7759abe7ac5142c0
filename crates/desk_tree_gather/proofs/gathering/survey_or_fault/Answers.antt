use Rattle.std.proofs.Common.{◌≡◌, ◌∙◌, ap, sym}
use Rattle.desk_tree_gather.specs.Gathering.{gathered}
use Rattle.desk_tree_gather.specs.Survey.{first_fault, flaws_of, infos_sifted, kept}
use Rattle.desk_tree_gather.proofs.SurveyLaws.{agrees_fails, agrees_found, gathered_agrees, no_fault, tree_found}
use Rattle.desk_tree_gather.proofs.gathering.survey_or_fault.Goals as goal
use Rattle.std.specs.Prelude.{Ok}

pub returns-in-Some-clause-infos : goal.returns-in-Some-clause-infos
returns-in-Some-clause-infos c = λ r right.
    let files = c.args.files.now in
    agrees_fails (gathered r files) (flaws_of r files) (infos_sifted r (kept files)) c.in-Some.fault
    (gathered_agrees r files)
    (ap first_fault (sym (c.as_slice.ensures ∙ c.in_ok-surveyed.ensures.flaws r right))
    ∙ sym c.in_ok-fault.ensures ∙ c.in-Some.is)

pub returns-clause-infos : goal.returns-clause-infos
returns-clause-infos c = λ r right.
    let files = c.args.files.now in
    agrees_found (gathered r files) (flaws_of r files) (infos_sifted r (kept files))
    (gathered_agrees r files)
    (ap first_fault (sym (c.as_slice.ensures ∙ c.in_ok-surveyed.ensures.flaws r right))
    ∙ sym c.in_ok-fault.ensures ∙ c.in-None.is)
    ∙ ap Ok (sym (c.in_ok-surveyed.ensures.infos r right))

pub returns-clause-tree : goal.returns-clause-tree
returns-clause-tree c = λ r right.
    let files = c.args.files.now in
    tree_found r files (infos_sifted r (kept files))
    (agrees_found (gathered r files) (flaws_of r files) (infos_sifted r (kept files))
    (gathered_agrees r files)
    (ap first_fault (sym (c.as_slice.ensures ∙ c.in_ok-surveyed.ensures.flaws r right))
    ∙ sym c.in_ok-fault.ensures ∙ c.in-None.is))
    ∙ ap Ok (sym c.in_ok-surveyed.ensures.tree)

pub returns-clause-flaws : goal.returns-clause-flaws
returns-clause-flaws c = no_fault c.in_ok-surveyed.surveyed.flaws
    (ap first_fault (sym c.as_slice.ensures) ∙ sym c.in_ok-fault.ensures ∙ c.in-None.is)
