use Rattle.std.proofs.Common.{◌≡◌, ◌++◌, vec_len}
use Rattle.desk_model.specs.Texts.{sorted_set}
use Rattle.desk_model.proofs.TextSets.{put_texts}
use Rattle.desk_catalogue.proofs.order.sorted_set.Given as goal
use Rattle.desk_base.specs.Borrowed.{texts, texts_in}

-- the texts that are left complete the set when they are added
abbrev pub invariant-loop-last : goal.invariant-loop-last
invariant-loop-last l = put_texts (texts_in l.listed) (texts l.set.keys)
    ≡ sorted_set (texts_in l.fn.listed)

abbrev pub decreases-loop-last : goal.decreases-loop-last
decreases-loop-last l = vec_len l.listed

abbrev pub invariant-loop-text : goal.invariant-loop-text
invariant-loop-text l = l.sorted ++ texts l.text-iterator ≡ sorted_set (texts_in l.fn.listed)
