use Rattle.std.proofs.Common.{◌∙◌, sym}
use Rattle.desk_catalogue.specs.Shown.{codes_in}
use Rattle.desk_catalogue.proofs.SetLemmas.{has_text, all_go, all_stop}
use Rattle.desk_catalogue.proofs.rules.are_duties.Goals as goal

pub returns-then-not-contains : goal.returns-then-not-contains
returns-then-not-contains c =
    all_stop (codes_in c.args.duties.now) c.args.listed.now c.loop-code.code-index _
    c.loop-code-test.true (sym (has_text c.args.duties.now.keys _) ∙ sym c.contains.ensures
    ∙ c.if-not-contains.true) ∙ c.loop-code.invariant

pub loop-code-preserved : goal.loop-code-preserved
loop-code-preserved c =
    all_go (codes_in c.args.duties.now) c.args.listed.now c.loop-code.code-index _
    c.loop-code-test.true (sym (has_text c.args.duties.now.keys _) ∙ sym c.contains.ensures
    ∙ c.if-not-contains.false) ∙ c.loop-code.invariant
