use Rattle.std.proofs.Common.{◌≡◌, map, take}
use Rattle.desk_answers.proofs.refusals.lines_of.Given as goal

-- the refusals before the index
abbrev pub invariant-loop-refusal : goal.invariant-loop-refusal
invariant-loop-refusal l = map (λ line. line.refusal.now) l.lines.items
    ≡ take l.refusal-index l.refusals
