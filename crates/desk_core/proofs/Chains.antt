-- One call after another, and what becomes of a plan when it is carried out.
use Rattle.std.proofs.Common.{◌≡◌, Bool, true, false, inl, inr, sym, ap, subst, ◌∙◌, Result, Ok, Err}
use Rattle.desk_model.specs.Readings.{Readings}
use Rattle.desk_model.specs.Tables.{Tables, applied}
use Rattle.desk_model.specs.Answers.{is_recorded}
use Rattle.desk_model.specs.declared.command.Answer.{Answer}
use Rattle.desk_model.specs.declared.command.Change.{Change}
use Rattle.desk_model.specs.declared.command.Command.{Command}
use Rattle.desk_model.specs.declared.command.Fault.{Fault}
use Rattle.desk_model.specs.declared.command.Fault.TheVariants.{Memory, Store}
use Rattle.desk_model.specs.declared.command.Plan.{Plan}
use Rattle.desk_model.specs.declared.command.Plan.TheVariants.{Leave, Make}
use Rattle.desk_access.specs.Follows.{Follows}
use Rattle.std.specs.Prelude.{IfOk, IfErr}
use Rattle.desk_model.specs.Faults.{MayFail}
use Rattle.desk_access.specs.Seen.{Seen, Kept, Same, OfRows, Minds}
use Rattle.desk_core.specs.Carrying.{CarriesOutFrom}
use Rattle.desk_access.specs.Plans.{IsPlan, IsPlanOf, IsSound, SparesStore, Plans, Carries}
use Rattle.desk_access.proofs.Chains.{outlasts_then, same_then_kept, same_then_same, spared_then}
use Rattle.desk_core.proofs.Following.{change_follows}
use Rattle.desk_base.proofs.Bools.{contrary}

module _ {Left : Type 0} where
  -- nothing was decided
  pub minds_undecided : (a b : Seen Left) (fault : Fault) → Kept a b → Minds a b (Err fault)
  minds_undecided a b fault k = k.spared

  pub minds_carried : (stands : Left → Tables → Type 0) (a b c : Seen Left) (plan : Plan)
      (r : Result Answer Fault) → Same a b → IsSound plan → Carries stands plan b c r → Minds a c r
  minds_carried stands a b c (Leave x) (Ok y) s sound did = (
    (λ h. s.kept.spared.honest (did.1.kept.spared.honest h)),
    (λ none. same_then_same a b c s did.1),
    (same_then_same a b c s did.1).kept.spared.outlasts,
  )
  minds_carried stands a b c (Leave x) (Err f) s sound did = absurd did
  minds_carried stands a b c (Make x change) (Ok y) s sound did = (
    (λ h. s.kept.spared.honest (did.1.honest h)),
    (λ none. absurd (contrary (is_recorded x) sound (ap is_recorded (sym did.0) ∙ none))),
    outlasts_then a b c did.1.honest s.kept.spared.outlasts did.1.outlasts,
  )
  minds_carried stands a b c (Make x change) (Err f) s sound did = spared_then a b c s.kept.spared
      did.spared

  pub alone_carried : (stands : Left → Tables → Type 0) (b c : Seen Left) (alone : Bool)
      (plan : Plan) (r : Result Answer Fault) → SparesStore alone (Ok plan)
      → Carries stands plan b c r
      → IfErr r (MayFail (λ fault. alone ≡ false))
  alone_carried stands b c alone plan (Ok a) spares did = tt
  alone_carried stands b c alone (Leave x) (Err f) spares did = absurd did
  alone_carried stands b c alone (Make x change) (Err Memory) spares did = tt
  alone_carried stands b c alone (Make x change) (Err (Store fault)) spares did = spares

  module _ (stands : Left → Tables → Type 0) (w : Readings) (c : Command) where
    pub decides_undecided : (old new : Seen Left) (fault : Fault) → Kept old new
        → CarriesOutFrom stands w c old new (Err fault)
    decides_undecided old new fault k = λ h o t u held x left. inl (k.leaves h o t held x left)

    pub decides_carried : (old mid new : Seen Left) (plan : Plan) (r : Result Answer Fault)
        → Same old mid → IsSound plan → OfRows (IsPlanOf w c plan) old mid
        → Carries stands plan mid new r
        → CarriesOutFrom stands w c old new r
    decides_carried old mid new (Leave x) (Ok y) s sound is did =
        let none : is_recorded y ≡ true → ⊥ =
        λ kept. contrary (is_recorded x) (ap is_recorded (sym did.0) ∙ kept) sound in
        let honest = did.1.kept.spared.honest in
        record {
          right = λ h t u held. did.0 ∙ is (honest h) t held;
          stays = λ h o. did.1.stays h (s.stays (honest h) o);
          holds = λ kept. absurd (none kept);
          leaves = λ kept. absurd (none kept);
        }
    decides_carried old mid new (Leave x) (Err f) s sound is did = absurd did
    decides_carried old mid new (Make x change) (Ok y) s sound is did =
        let made = did.1 in
        let follows : new.is_honest → (t : Tables) → old.holds t → Follows change t =
        λ h t held. let plan = is (made.honest h) t held in
        subst (λ (d : Change). Follows d t) (sym plan.1)
        (change_follows w t c (ap is_recorded (sym plan.0) ∙ sound)) in
        record {
          right = λ h t u held. did.0 ∙ (is (made.honest h) t held).0;
          stays = λ h o. made.stays h;
          holds = λ kept h t u held. subst (λ (d : Change). new.holds (applied d t))
              ((is (made.honest h) t held).1)
              (made.holds h t (s.kept.spared.holds t held) (follows h t held));
          leaves = λ kept h t u held x left. subst (λ (d : Change). stands x (applied d t))
              ((is (made.honest h) t held).1)
              (made.leaves h t (s.kept.spared.holds t held) (follows h t held) x left);
        }
    decides_carried old mid new (Make x change) (Err f) s sound is did = λ h o t u held y left.
        let h1 = did.spared.honest h in
        let plan = is h1 t held in
        let follows : Follows change t =
        subst (λ (d : Change). Follows d t) (sym plan.1)
        (change_follows w t c (ap is_recorded (sym plan.0) ∙ sound)) in
        elim (did.leaves h (s.stays h1 o) t (s.kept.spared.holds t held) follows y left) [
          | inl was ↦ inl (s.kept.leaves h1 o t held y was)
          | inr made ↦ inr (
            ap is_recorded (sym plan.0) ∙ sound,
            subst (λ (d : Change). stands y (applied d t)) plan.1 made,
          )
        ]
