use Rattle.std.proofs.Common.{◌≡◌, ℕ, ◌<◌, true, false, List, [], ◌∷◌, ◌++◌, length, get_or, sym, ap, ◌∙◌, subst, arith}
use Rattle.std.proofs.lemmas.List.{length_push}
use Rattle.std.specs.List.{list_all, list_any}
use Rattle.desk_model.specs.Faults.{MayAllBecome}
use Rattle.desk_model.specs.Tables.{tables}
use Rattle.desk_model.specs.Answers.{IsHistory}
use Rattle.desk_model.specs.Runs.{AreAnswers, history_after, is_kept}
use Rattle.desk_history.proofs.Running.{history_after-push, AreAnswers-push, IsHistory-with, MayAllBecome-push}
use Rattle.desk_model.specs.declared.command.Command.{Command}
use Rattle.desk_model.specs.declared.command.Outcome.{Outcome}
use Rattle.desk_core.specs.Desks.{AllSpareStore, Secures, is_answered}
use Rattle.desk_access.proofs.Chains.{outlasts_then, spared_then}
use Rattle.desk_core.proofs.Leaving.{AllSpareStore-push, all_pushed, none_pushed, secures_after}
use Rattle.desk_core.proofs.desk.run.Goals as goal

pub loop-command-preserved : goal.loop-command-preserved
loop-command-preserved g c =
    let before = c.loop-command.invariant in
    let cs : List Command = c.args.commands.now in
    let os : List Outcome = c.loop-command.outcomes.items in
    let command : Command = c.command-item.result in
    let outcome : Outcome = c.apply_one.result in
    let lt : length os < length cs = omega (arith, before.count, c.loop-command-test.true) in
    let at : command ≡ get_or cs (length os) command =
    subst (λ (k : ℕ). command ≡ get_or cs k command) (sym before.count) c.command-item.is in
    let items = c.push_reserved.ensures.items in
    let one = c.apply_one.ensures in
    let first = one.honest in
    let old = g.D.Desk.seen c.args.desk.now in
    let mid = g.D.Desk.seen c.loop-command.desk in
    let new = g.D.Desk.seen c.apply_one.new.desk in
    let after : (h : List Command) → List Command = λ h. history_after h cs os in
    let grown : (h : List Command) → history_after h cs c.push_reserved.new.self.items
    ≡ history_after h cs (os ++ outcome ∷ []) = λ h. ap (history_after h cs) items in
    record {
      count = omega (arith, ap length items, length_push os outcome, before.count);
      len = omega (arith, c.push_reserved.ensures.len, before.len);
      room = omega (arith, c.push_reserved.ensures.capacity, before.room);
      honest = λ clean. before.honest (first clean);
      keeps = λ none.
          let parts = none_pushed is_kept os outcome (ap (list_any is_kept) (sym items) ∙ none) in
          spared_then old mid new (before.keeps parts.0) (one.keeps parts.1);
      outlasts = outlasts_then old mid new first before.outlasts one.outlasts;
      alone = λ w right. subst (AllSpareStore w cs) (sym items)
          (AllSpareStore-push w cs os command outcome lt at (before.alone w right)
          (one.alone w right));
      faults = subst (MayAllBecome g.D.Desk.tells) (sym items)
          (MayAllBecome-push g.D.Desk.tells os outcome before.faults one.fault);
      answers = λ w right clean h ok e. subst (AreAnswers w h cs) (sym items)
          (AreAnswers-push w h cs os command outcome lt at
          (before.answers w right (first clean) h ok e)
          (one.answer w right clean (after h) (before.history w right (first clean) h ok e)
          (before.content w right (first clean) h ok e)));
      content = λ w right clean h ok e. subst (λ (k : List Command). new.holds (tables w k))
          (sym (grown h ∙ history_after-push h cs os command outcome lt at))
          (one.content w right clean (after h) (before.history w right (first clean) h ok e)
          (before.content w right (first clean) h ok e));
      history = λ w right clean h ok e. subst (IsHistory w)
          (sym (grown h ∙ history_after-push h cs os command outcome lt at))
          (IsHistory-with w (after h) command outcome (before.history w right (first clean) h ok e)
          (one.answer w right clean (after h) (before.history w right (first clean) h ok e)
          (before.content w right (first clean) h ok e)));
      secures = λ all w right clean h ok e s.
          let parts = all_pushed is_answered os outcome
          (ap (list_all is_answered) (sym items) ∙ all) in
          let past = before.history w right (first clean) h ok e in
          let held = before.content w right (first clean) h ok e in
          subst (λ (k : List Command). Secures g.D.Desk.stands (tables w k) new)
          (sym (grown h ∙ history_after-push h cs os command outcome lt at))
          (secures_after g.D.Desk.stands w command mid new (after h) outcome parts.1
          (one.stays parts.1 w right clean (after h) past held)
          (one.left w right clean (after h) past held)
          (before.secures parts.0 w right (first clean) h ok e s));
    }
