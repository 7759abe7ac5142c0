use Rattle.std.proofs.Common.{List, take}
use Rattle.desk_expr.specs.declared.term.Term.{Term}
use Rattle.desk_texts.specs.Choices.{AreKept}
use Rattle.desk_texts.specs.Terms.{AreTerms}
use Rattle.desk_texts.proofs.choice.kept_of.Given as goal

-- the terms that were read, of which some are kept
abbrev pub invariant-loop-place : goal.invariant-loop-place
invariant-loop-place l = (chosen : List Term) × AreTerms (take l.place l.words) chosen
    × AreKept l.own chosen l.kept
