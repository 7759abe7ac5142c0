use Rattle.std.proofs.Common.{◌≡◌, ◌++◌, drop}
use Rattle.std.specs.List.{filter_map}
use Rattle.desk_model.specs.Readings.{Readings}
use Rattle.desk_model.specs.Answers.{first_bad}
use Rattle.desk_preparing.proofs.choice.read_terms.Given as goal

abbrev pub invariant-loop-i : goal.invariant-loop-i
invariant-loop-i g l = (w : Readings) → g.T.Texts.are_right w → record {
  bad : first_bad w l.i (drop l.i l.words) ≡ first_bad w 0 l.words;
  terms : l.terms ++ filter_map w.term (drop l.i l.words) ≡ filter_map w.term l.words;
}
