use Rattle.std.proofs.Common.{◌∙◌, sym}
use Rattle.std.proofs.lemmas.Bool.{not-true}
use Rattle.desk_sql_cache.proofs.adoptions.Adoptions.lacks.Goals as goal

pub returns-clause-none : goal.returns-clause-none
returns-clause-none c = λ is t are. rw (← c.if-self-document.false)
    (are.1 c.args.reference.now (sym c.contains.ensures ∙ not-true c.contains.result is))
