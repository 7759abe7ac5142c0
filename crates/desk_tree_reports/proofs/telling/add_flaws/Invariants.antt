use Rattle.std.proofs.Common.{take}
use Rattle.desk_tree_reports.proofs.TellingLemmas.{AddsFlaws}
use Rattle.desk_tree_reports.proofs.telling.add_flaws.Given as goal

abbrev pub invariant-loop-flaw : goal.invariant-loop-flaw
invariant-loop-flaw l = AddsFlaws l.form (take l.flaw-index l.flaws) l.initial.telling l.telling
