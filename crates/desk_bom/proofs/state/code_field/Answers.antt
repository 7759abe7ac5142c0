use Rattle.desk_bom.proofs.CodeLemmas.{not_cut}
use Rattle.desk_bom.proofs.state.code_field.Goals as goal

pub returns-in_default-clause-none : goal.returns-in_default-clause-none
returns-in_default-clause-none c = not_cut c.args.value.now c.utf8.value
    (λ b. let h = c.in_default.ensures.variant.1 b in absurd cc)
