-- What keeps a release from being frozen, from tables.
use Rattle.std.proofs.Common.{◌≡◌, ◌∙◌, ℕ, List, [], length, ap}
use Rattle.std.specs.Prelude.{Option, unwrap_or}
use Rattle.desk_model.specs.Readings.{Readings}
use Rattle.desk_model.specs.History.{attached, attached_to, form_of, in_force, rules_in}
use Rattle.desk_model.specs.Conclusions.{adoptions}
use Rattle.desk_model.specs.Raised.{shipped}
use Rattle.desk_model.specs.Tables.{tables}
use Rattle.desk_model.specs.Answers.{conclusion}
use Rattle.desk_model.specs.Obstacles.{Obstacles, obstacles, shipped_refusals, wanting_answer}
use Rattle.desk_history.specs.FromTables.{choice_found, form_found, obstacles_found}
use Rattle.desk_history.proofs.Lookups.{state-found, form-found, rules-found}
use Rattle.desk_history.proofs.Chosen.{choice-found}
use Rattle.desk_model.specs.declared.refusal.Refusal.{Refusal}
use Rattle.desk_model.specs.declared.state.ReleaseState.{ReleaseState}
use Rattle.desk_model.specs.declared.command.Command.{Command}

refusals-found : (w : Readings) (h : List Command) (r : List ℕ)
    → (obstacles_found w (tables w h) r).refusals ≡ (obstacles w h r).refusals
refusals-found w h r =
    ap (λ rules. shipped_refusals w (adoptions w h) rules (form_found (tables w h) r)
    (conclusion w h) (choice_found (tables w h) r) (shipped w h r)) (rules-found w h)
    ∙ (ap (λ form. shipped_refusals w (adoptions w h) (rules_in (in_force w h)) form
    (conclusion w h) (choice_found (tables w h) r) (shipped w h r)) (form-found w h r)
    ∙ ap (λ chosen. shipped_refusals w (adoptions w h) (rules_in (in_force w h))
    (unwrap_or (form_of h r) []) (conclusion w h) chosen (shipped w h r)) (choice-found w h r))

pub wanting_told : (w : Readings) (h : List Command) (r : List ℕ)
    → wanting_answer (obstacles_found w (tables w h) r) ≡ wanting_answer (obstacles w h r)
wanting_told w h r =
    let of : Option ReleaseState → List Refusal → Obstacles =
    λ state refusals. record {
      state = state;
      attached = length (attached_to (attached h) r);
      refusals = refusals;
    } in
    ap (λ state. wanting_answer (of state (obstacles_found w (tables w h) r).refusals))
    (state-found w h r)
    ∙ ap (λ refusals. wanting_answer (of (obstacles w h r).state refusals)) (refusals-found w h r)
