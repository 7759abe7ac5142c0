use Rattle.std.proofs.Common.{◌≡◌, ℕ, drop, List}
use Rattle.std.specs.Prelude.{◌||◌}
use Rattle.desk_base.specs.TextSets.{has_text, is_among}
use Rattle.desk_base.proofs.sets.text_set.Given as goal
use Rattle.desk_base.specs.Borrowed.{texts}

-- what is still to come and what the set has are all
abbrev pub invariant-loop-text : goal.invariant-loop-text
invariant-loop-text l = (q : List ℕ)
    → (is_among (texts (drop l.text-index l.listed)) q || has_text l.set q)
    ≡ is_among (texts l.listed) q
