use Rattle.std.proofs.Common.{take}
use Rattle.std.specs.List.{concat}
use Rattle.sha1.specs.Sha1.{Holds}
use Rattle.desk_bom.proofs.codes.digest_of_all.Given as goal

-- the texts so far were taken in
abbrev pub invariant-loop-text : goal.invariant-loop-text
invariant-loop-text l = Holds l.hasher (concat (take l.text-index l.texts))
