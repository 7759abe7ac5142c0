use Rattle.std.proofs.Common.{◌≡◌, take}
use Rattle.desk_base.specs.Borrowed.{texts}
use Rattle.desk_model.specs.Texts.{sorted_set}
use Rattle.desk_model.proofs.TextSets.{put_texts}
use Rattle.desk_preparing.proofs.choice.set_of.Given as goal

-- the terms that are left, put into the set, make it whole
abbrev pub invariant-loop-i : goal.invariant-loop-i
invariant-loop-i l = put_texts (take l.i l.terms) (texts l.set.keys) ≡ sorted_set l.terms
