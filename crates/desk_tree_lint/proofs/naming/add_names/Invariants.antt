use Rattle.std.proofs.Common.{◌≡◌, ◌++◌, true, ℕ, List, take, map}
use Rattle.desk_base.specs.TextSets.{is_among}
use Rattle.desk_tree_lint.specs.Firsts.{Holds}
use Rattle.desk_tree_lint.specs.Naming.{MentionText, first_with, name_by}
use Rattle.desk_tree_lint.proofs.naming.add_names.Given as goal

abbrev pub invariant-loop-place : goal.invariant-loop-place
invariant-loop-place l = (all : List (List ℕ)) (ms : List MentionText) → Holds all ms l.asked
    → ((key : List ℕ) → is_among l.keys key ≡ true → is_among all key ≡ true)
    → l.names ≡ l.initial.names ++ map (λ key. name_by key (first_with key ms)) (take l.place l.keys)
