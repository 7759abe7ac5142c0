-- One more command of a run.
use Rattle.desk_model.specs.Faults.{MayBecome, MayAllBecome}
use Rattle.desk_model.specs.declared.command.StoreFault.{StoreFault}
use Rattle.std.proofs.Common.{◌≡◌, ◌<◌, List, [], ◌∷◌, ◌++◌, length, get_or, sym, ap, subst, arith}
use Rattle.std.specs.Prelude.{if◌then◌else◌}
use Rattle.desk_model.specs.Readings.{Readings}
use Rattle.desk_model.specs.Answers.{IsHistory, is_recorded}
use Rattle.desk_model.specs.Runs.{AreAnswers, IsAnswer, history_after, history_with}
use Rattle.desk_history.proofs.Steps.{IsHistory-noted}
use Rattle.desk_model.specs.declared.command.Command.{Command}
use Rattle.desk_model.specs.declared.command.Outcome.{Outcome}
use Rattle.desk_model.specs.declared.command.Outcome.TheVariants.{Answered, Failed}

pub history_after-push : (h cs : List Command) (os : List Outcome) (c : Command) (o : Outcome)
    → length os < length cs → c ≡ get_or cs (length os) c
    → history_after h cs (os ++ o ∷ []) ≡ history_with (history_after h cs os) c o
history_after-push h [] os c o lt at = absurd (omega arith)
history_after-push h (x ∷ cs) [] c o lt at = ap (λ d. history_with h d o) (sym at)
history_after-push h (x ∷ cs) (p ∷ os) c o lt at = history_after-push (history_with h x p) cs os c o
    (omega arith) at

pub AreAnswers-push : (w : Readings) (h cs : List Command) (os : List Outcome) (c : Command)
    (o : Outcome) → length os < length cs → c ≡ get_or cs (length os) c → AreAnswers w h cs os
    → IsAnswer w (history_after h cs os) c o → AreAnswers w h cs (os ++ o ∷ [])
AreAnswers-push w h [] os c o lt at are is = absurd (omega arith)
AreAnswers-push w h (x ∷ cs) [] c o lt at are is = (subst (λ d. IsAnswer w h d o) at is, tt)
AreAnswers-push w h (x ∷ cs) (p ∷ os) c o lt at are is = (
  are.0,
  AreAnswers-push w (history_with h x p) cs os c o (omega arith) at are.1 is,
)

pub IsHistory-with : (w : Readings) (h : List Command) (c : Command) (o : Outcome) → IsHistory w h
    → IsAnswer w h c o → IsHistory w (history_with h c o)
IsHistory-with w h c (Answered a) ok is = subst (λ b. IsHistory w
    (if is_recorded b then c ∷ h else h)) (sym is) (IsHistory-noted w h c ok)
IsHistory-with w h c (Failed fault) ok is = ok

pub MayAllBecome-push : (tells : StoreFault → Type 0) (os : List Outcome) (o : Outcome)
    → MayAllBecome tells os → MayBecome tells o → MayAllBecome tells (os ++ o ∷ [])
MayAllBecome-push tells [] o all one = (one, tt)
MayAllBecome-push tells (p ∷ os) o all one = (all.0, MayAllBecome-push tells os o all.1 one)
