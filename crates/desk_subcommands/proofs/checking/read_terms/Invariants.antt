use Rattle.std.proofs.Common.{map, take}
use Rattle.desk_subcommands.specs.Report.{SpellTerms}
use Rattle.desk_subcommands.proofs.checking.read_terms.Given as goal

abbrev pub invariant-loop-word : goal.invariant-loop-word
invariant-loop-word l = SpellTerms (map (λ w. w.now) (take l.word-index l.words)) l.terms.items
