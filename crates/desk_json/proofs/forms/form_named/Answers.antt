use Rattle.std.proofs.Common.{◌∙◌, sym}
use Rattle.desk_json.proofs.FormLemmas.{named_behind, named_here}
use Rattle.desk_json.proofs.forms.form_named.Goals as goal

pub loop-name-preserved : goal.loop-name-preserved
loop-name-preserved c =
    sym (named_behind c.args.word.now c.args.names.now c.loop-name.name-index _
    c.loop-name-test.true (sym c.if-eq.ensures)) ∙ c.loop-name.invariant

pub returns-then-eq : goal.returns-then-eq
returns-then-eq c =
    sym (named_here c.args.word.now c.args.names.now c.loop-name.name-index _ c.loop-name-test.true
    (sym c.if-eq.ensures)) ∙ c.loop-name.invariant
