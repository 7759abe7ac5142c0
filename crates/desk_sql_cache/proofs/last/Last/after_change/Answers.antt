use Rattle.desk_sql_cache.proofs.LastLemmas.{last_stays}
use Rattle.desk_sql_cache.proofs.last.Last.after_change.Goals as goal

pub returns-clause-are : goal.returns-clause-are
returns-clause-are c = λ change t are. rw (c.nothing.ensures, c.nothing-2.ensures)
    (last_stays change t c.args.self.document are.document)
