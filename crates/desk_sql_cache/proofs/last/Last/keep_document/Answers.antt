use Rattle.desk_sql_cache.proofs.LastLemmas.{document_is_own}
use Rattle.desk_sql_cache.proofs.last.Last.keep_document.Goals as goal

pub returns-clause-are : goal.returns-clause-are
returns-clause-are c = λ t is are. record {
  document = document_is_own t c.args.number c.args.found is;
  rule = are.rule;
  conclusions = are.conclusions;
  choices = are.choices;
}
