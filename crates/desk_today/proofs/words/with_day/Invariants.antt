use Rattle.std.proofs.Common.{◌≡◌, take}
use Rattle.std.specs.Prelude.{map}
use Rattle.desk_today.specs.Words.{dated}
use Rattle.desk_today.proofs.words.with_day.Given as goal

abbrev pub invariant-loop-word : goal.invariant-loop-word
invariant-loop-word l = l.found ≡ map (dated l.day) (take l.word-index l.words)
