-- One look-up after another.
use Rattle.std.proofs.Common.{◌≡◌, inl, inr, subst, arith}
use Rattle.std.specs.Prelude.{Result, Ok, Err, IfOk}
use Rattle.std.specs.Result.{IsErr}
use Rattle.desk_model.specs.declared.command.Fault.{Fault}
use Rattle.desk_model.specs.declared.command.Answer.{Answer}
use Rattle.desk_model.specs.declared.command.Change.{Change}
use Rattle.desk_model.specs.declared.command.Plan.{Plan}
use Rattle.desk_model.specs.Tables.{Tables}
use Rattle.desk_access.specs.Plans.{IsPlan, Plans}
use Rattle.desk_access.specs.Seen.{Seen, Outlasts, Spared, Kept, Same, Looked, OfRows}

module _ {Left : Type 0} where
  pub outlasts_self : (a : Seen Left) → Outlasts a a
  outlasts_self a = record { counts = omega arith; closes = λ h o. inl o }

  pub outlasts_then : (a b c : Seen Left) → (c.is_honest → b.is_honest) → Outlasts a b
      → Outlasts b c → Outlasts a c
  outlasts_then a b c honest one two = record {
    counts = omega (arith, one.counts, two.counts);
    closes = λ h o. elim (one.closes (honest h) o) [
      | inl still ↦ elim (two.closes h still)
          [ inl last ↦ inl last | inr fault ↦ inr (omega (arith, one.counts, fault)) ]
      | inr fault ↦ inr (omega (arith, two.counts, fault))
    ];
  }

  pub spared_self : (a : Seen Left) → Spared a a
  spared_self a = record { honest = λ h. h; holds = λ t h. h; outlasts = outlasts_self a }

  pub spared_then : (a b c : Seen Left) → Spared a b → Spared b c → Spared a c
  spared_then a b c s r = record {
    honest = λ h. s.honest (r.honest h);
    holds = λ t h. r.holds t (s.holds t h);
    outlasts = outlasts_then a b c r.honest s.outlasts r.outlasts;
  }

  pub same_self : (a : Seen Left) → Same a a
  same_self a = record {
    kept = record {
      spared = spared_self a;
      leaves = λ h o t held x left. left;
    };
    stays = λ h o. o;
  }

  pub same_then_kept : (a b c : Seen Left) → Same a b → Kept b c → Kept a c
  same_then_kept a b c s k = record {
    spared = spared_then a b c s.kept.spared k.spared;
    leaves = λ h o t held x left. s.kept.leaves (k.spared.honest h) o t held x
        (k.leaves h (s.stays (k.spared.honest h) o) t (s.kept.spared.holds t held) x left);
  }

  pub same_then_same : (a b c : Seen Left) → Same a b → Same b c → Same a c
  same_then_same a b c s r = record {
    kept = same_then_kept a b c s r.kept;
    stays = λ h o. r.stays h (s.stays (r.kept.spared.honest h) o);
  }

  pub looked_err : {A : Type 0} (a b : Seen Left) (r : Result A Fault) → IsErr r → Kept a b
      → Looked a b r
  looked_err a b (Ok x) none k = absurd (cc)
  looked_err a b (Err fault) is k = k

  -- a plan after look-ups
  pub plans_after : (a b c : Seen Left) (r : Result Plan Fault) → Same a b → Plans b c r
      → Plans a c r
  plans_after a b c (Ok plan) s p = (same_then_same a b c s p.0, p.1)
  plans_after a b c (Err fault) s p = same_then_kept a b c s p

  pub plan_after : (a b c : Seen Left) (answer answer' : Tables → Answer)
      (change change' : Tables → Change) (r : Result Plan Fault) → Same a b → Plans b c r
      → (b.is_honest → (t : Tables) → a.holds t → (answer t ≡ answer' t) × (change t ≡ change' t))
      → IfOk r (λ plan. OfRows (λ t. IsPlan (answer t) (change t) plan) b c)
      → IfOk r (λ plan. OfRows (λ t. IsPlan (answer' t) (change' t) plan) a c)
  plan_after a b c answer answer' change change' (Ok plan) s p same is = λ h t held.
      let facts = same (p.0.kept.spared.honest h) t held in
      subst (λ (x : Answer). IsPlan x (change' t) plan) facts.0
      (subst (λ (x : Change). IsPlan (answer t) x plan) facts.1
      (is h t (s.kept.spared.holds t held)))
  plan_after a b c answer answer' change change' (Err fault) s p same is = tt
