use Rattle.std.proofs.Common.{◌≡◌, ℕ, drop, List, [], Option}
use Rattle.toml.specs.View.{items_view}
use Rattle.desk_catalogue.specs.Terms.{ReadsTerms}
use Rattle.desk_catalogue.specs.Reading.{each, with_rule}
use Rattle.desk_catalogue.specs.Shown.{codes_in, rules_in}
use Rattle.desk_catalogue.proofs.rules.each_rule.Given as goal

-- the rules so far, with those of the rest, are those of all
abbrev pub invariant-loop-i : goal.invariant-loop-i
invariant-loop-i l = (terms : List ℕ → Option (List ℕ)) → ReadsTerms terms
    → each (with_rule terms l.known.forms (codes_in l.known.duties)) (rules_in l.rules) l.i
    (items_view (drop l.i l.values))
    ≡ each (with_rule terms l.known.forms (codes_in l.known.duties)) [] 0 (items_view l.values)
