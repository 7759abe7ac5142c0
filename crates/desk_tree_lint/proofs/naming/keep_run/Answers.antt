use Rattle.std.proofs.Common.{◌∙◌, ◌++◌, ◌∷◌, [], List, ap, subst, sym}
use Rattle.std.proofs.lemmas.List.{append-nil}
use Rattle.desk_tree_lint.specs.Firsts.{Holds}
use Rattle.desk_tree_lint.specs.Naming.{MentionText, mention}
use Rattle.desk_tree_lint.proofs.FirstLemmas.{holds_along}
use Rattle.desk_tree_lint.proofs.RunLemmas.{named_one, operator_none}
use Rattle.desk_tree_lint.proofs.naming.keep_run.Goals as goal

pub returns-then-is_operator : goal.returns-then-is_operator
returns-then-is_operator c = λ keys ms holds.
    subst (λ (l : List MentionText). Holds keys l c.args.asked.now)
    (sym (ap (λ l. ms ++ l) (operator_none c.args.path.now c.args.run.now
    (sym c.is_operator.ensures ∙ c.if-is_operator.true)) ∙ append-nil ms)) holds

pub returns : goal.returns
returns c = holds_along c.keep.result c.args.asked.now c.keep.new.asked _ _
    (ap (λ id. mention c.args.path.now id ∷ []) c.without_plus.ensures
    ∙ sym (named_one c.args.path.now c.args.run.now
    (sym c.is_operator.ensures ∙ c.if-is_operator.false)))
    c.keep.ensures
