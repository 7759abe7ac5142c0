use Rattle.std.proofs.Common.{◌∙◌, sym}
use Rattle.desk_history.specs.FromTables.{rules_found}
use Rattle.desk_sql_cache.proofs.LastLemmas.{rule_is_own}
use Rattle.desk_sql_cache.proofs.last.Last.keep_rule.Goals as goal

pub returns-in_ok-copy_of-clause-ok : goal.returns-in_ok-copy_of-clause-ok
returns-in_ok-copy_of-clause-ok c = λ t term form is are. record {
  document = are.document;
  rule = rw c.in_ok-copy_of.ensures
      (rule_is_own (rules_found t) term form c.in-Some.rule (sym is ∙ c.in-Some.is));
  conclusions = are.conclusions;
  choices = are.choices;
}
