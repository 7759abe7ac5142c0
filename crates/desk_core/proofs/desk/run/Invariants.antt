use Rattle.std.proofs.Common.{◌≡◌, ◌≤◌, true, false, length, vec_len}
use Rattle.std.specs.List.{list_all, list_any}
use Rattle.std.specs.Vec.{vec_capacity}
use Rattle.desk_model.specs.Readings.{Readings}
use Rattle.desk_model.specs.Faults.{MayAllBecome}
use Rattle.desk_model.specs.Tables.{tables}
use Rattle.desk_model.specs.Answers.{IsHistory}
use Rattle.desk_model.specs.Runs.{AreAnswers, history_after, is_kept}
use Rattle.desk_access.specs.Seen.{Outlasts, Spared}
use Rattle.desk_core.specs.Desks.{AllSpareStore, InHistory, Secures, is_answered}
use Rattle.desk_core.proofs.desk.run.Given as goal

abbrev pub invariant-loop-command : goal.invariant-loop-command
invariant-loop-command g l =
    let old = g.D.Desk.seen l.fn.desk in
    let new = g.D.Desk.seen l.desk in
    record {
      count : length l.outcomes.items ≡ l.command-index;
      len : vec_len l.outcomes ≡ l.command-index;
      room : length l.commands ≤ vec_capacity l.outcomes;
      honest : new.is_honest → old.is_honest;
      keeps : list_any is_kept l.outcomes.items ≡ false → Spared old new;
      outlasts : Outlasts old new;
      alone : (w : Readings) → g.D.Desk.are_right w → AllSpareStore w l.commands l.outcomes.items;
      faults : MayAllBecome g.D.Desk.tells l.outcomes.items;
      answers : InHistory g.D.Desk.are_right (λ w h. AreAnswers w h l.commands l.outcomes.items) old
          new;
      content : InHistory g.D.Desk.are_right
          (λ w h. new.holds (tables w (history_after h l.commands l.outcomes.items))) old new;
      history : InHistory g.D.Desk.are_right
          (λ w h. IsHistory w (history_after h l.commands l.outcomes.items)) old new;
      secures : list_all is_answered l.outcomes.items ≡ true → InHistory g.D.Desk.are_right
          (λ w h. Secures g.D.Desk.stands (tables w h) old
          → Secures g.D.Desk.stands (tables w (history_after h l.commands l.outcomes.items)) new)
          old new;
    }
