-- What a withdrawal of a release comes to.
use Rattle.std.proofs.Common.{◌≡◌, ◌∙◌, Bool, true, false, List, ℕ, Ok, Some, None, refl, sym, ap, subst, rules}
use Rattle.desk_base.specs.Day.{is_day}
use Rattle.desk_model.specs.Texts.{is_note}
use Rattle.desk_model.specs.Answers.{Withdrawing, withdraw_answer, gone, refused_by}
use Rattle.desk_model.specs.declared.command.Answer.{Answer}
use Rattle.desk_model.specs.declared.command.Answer.TheVariants as answered
use Rattle.desk_model.specs.declared.command.Change.{Change}
use Rattle.desk_model.specs.declared.command.Plan.{Plan}
use Rattle.desk_model.specs.declared.command.Plan.TheVariants.{Leave, Make}
use Rattle.desk_model.specs.declared.refusal.Refusal.{Refusal}
use Rattle.desk_model.specs.declared.refusal.Refusal.TheVariants as why
use Rattle.desk_model.specs.declared.state.ReleaseState.{ReleaseState}
use Rattle.desk_model.specs.declared.row.Standing.{Standing}
use Rattle.desk_model.specs.declared.command.Change.TheVariants.{Withdrew}
use Rattle.desk_history.specs.FromTables.{withdrawn_rows}
use Rattle.desk_access.specs.Seen.{Seen, Same}
use Rattle.desk_access.specs.Plans.{IsPlan, Plans, SparesStore}

pub left : (plan : Plan) (a answer : Answer) (change : Change) → plan ≡ Leave a → a ≡ answer
    → IsPlan answer change plan
left plan a answer change is same = subst (λ (p : Plan). IsPlan answer change p) (sym is) same

pub made : (plan : Plan) (a answer : Answer) (m change : Change) → plan ≡ Make a m → a ≡ answer
    → m ≡ change → IsPlan answer change plan
made plan a answer m change is same same' = subst (λ (p : Plan). IsPlan answer change p) (sym is)
    (same, same')

module _ (day text : List ℕ) (found : Withdrawing) where
  pub bad_day : is_day day ≡ false → answered.Refused why.BadDay ≡ withdraw_answer day text found
  bad_day e = search rules

  pub bad_text : is_day day ≡ true → is_note text ≡ false
      → answered.Refused why.BadText ≡ withdraw_answer day text found
  bad_text e f = search rules

  pub unknown : is_day day ≡ true → is_note text ≡ true → found.state ≡ None
      → answered.Refused why.UnknownRelease ≡ withdraw_answer day text found
  unknown e f s = search rules

  pub is_gone : (state : ReleaseState) (refusal : Refusal) → is_day day ≡ true → is_note text ≡ true
      → found.state ≡ Some state → Some refusal ≡ gone state
      → answered.Refused refusal ≡ withdraw_answer day text found
  is_gone state refusal e f s g = search rules

  pub withdrawn : (state : ReleaseState) → is_day day ≡ true → is_note text ≡ true
      → found.state ≡ Some state → None ≡ gone state
      → answered.Done ≡ withdraw_answer day text found
  withdrawn state e f s g = search rules

pub same_rows : (r day day' text : List ℕ) (all all' : List Standing) → day ≡ day' → all ≡ all'
    → Withdrew r (withdrawn_rows day text all) ≡ Withdrew r (withdrawn_rows day' text all')
same_rows r day day' text all all' e f =
    ap (λ (d : List ℕ). Withdrew r (withdrawn_rows d text all)) e
    ∙ ap (λ (s : List Standing). Withdrew r (withdrawn_rows day' text s)) f

pub left_spares : (alone : Bool) (plan : Plan) (a : Answer) → plan ≡ Leave a
    → SparesStore alone (Ok plan)
left_spares alone plan a is = subst (λ (p : Plan). SparesStore alone (Ok p)) (sym is) tt

pub made_spares : (alone : Bool) (plan : Plan) (a : Answer) (m : Change) → plan ≡ Make a m
    → alone ≡ false → SparesStore alone (Ok plan)
made_spares alone plan a m is not_alone = subst (λ (p : Plan). SparesStore alone (Ok p)) (sym is)
    not_alone

pub not_alone : (day text : List ℕ) → is_day day ≡ true → is_note text ≡ true
    → refused_by day text None ≡ false
not_alone day text e f = search rules

pub left_plans : {Left : Type 0} (a b : Seen Left) (plan : Plan) (refusal : Refusal) → Same a b
    → plan ≡ Leave (answered.Refused refusal) → Plans a b (Ok plan)
left_plans a b plan refusal s is = subst (λ (p : Plan). Plans a b (Ok p)) (sym is) (s, refl)
