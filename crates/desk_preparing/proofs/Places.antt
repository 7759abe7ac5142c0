-- Where terms are chosen, from what was looked up.
use Rattle.std.proofs.Common.{◌≡◌, ℕ, Bool, List, Option, Some, None, sym, refl, ap, ◌∙◌, subst}
use Rattle.std.specs.Prelude.{true, IfOk, Result, Ok, Err}
use Rattle.std.specs.List.{filter_map, list_any}
use Rattle.desk_model.specs.Readings.{Readings}
use Rattle.desk_model.specs.Keys.{is_attachment}
use Rattle.desk_model.specs.Tables.{Tables}
use Rattle.desk_history.specs.FromTables.{answer_from, change_for, chosen_change, conclusion_found}
use Rattle.desk_history.specs.FromTables.{package_found, stands_document, state_found}
use Rattle.desk_access.specs.Seen.{Seen, Looked, OfRows, Same}
use Rattle.desk_access.specs.Plans.{IsPlan, IsPlanOf}
use Rattle.desk_model.specs.Answers.{first_bad}
use Rattle.desk_model.specs.Texts.{sorted_set}
use Rattle.desk_model.specs.declared.command.Answer.{Answer}
use Rattle.desk_model.specs.declared.command.Command.TheVariants.{Choose}
use Rattle.desk_model.specs.declared.command.Fault.{Fault}
use Rattle.desk_model.specs.declared.command.Plan.{Plan}
use Rattle.desk_preparing.specs.Choosing.{AreTermsOf, choose_found, choose_for, choose_in}
use Rattle.desk_preparing.specs.Choosing.{choose_shipped, IsFound, IsFoundIn, IsOpenPlace}
use Rattle.desk_preparing.specs.declared.choice.TermsRead.TheVariants.{Terms}
use Rattle.desk_preparing.specs.declared.choice.Place.{Place}
use Rattle.desk_preparing.specs.declared.choice.Found.{Found}
use Rattle.desk_preparing.specs.declared.choice.Found.TheVariants.{Here, Nowhere}
use Rattle.desk_model.specs.declared.row.PackageRow.{PackageRow}
use Rattle.desk_model.specs.declared.state.ReleaseState.{ReleaseState}

-- a document that was found, in a release in this state
pub choose_known : (w : Readings) (terms : List (List ℕ)) (t : Tables) (r : List ℕ) (d : ℕ)
    (p : List ℕ) (state : ReleaseState) (row : Option PackageRow) → state_found t r ≡ Some state
    → stands_document t d ≡ true
    → package_found t d p ≡ row → choose_in w t state r d p terms ≡ choose_found w t r d p terms
choose_known w terms t r d p state None e k f = rw (e, k, f) refl
choose_known w terms t r d p state (Some row) e k f = rw (e, k, f) refl

pub found_known : (t : Tables) (r : List ℕ) (d : ℕ) (p : List ℕ) (state : ReleaseState) (o : Found)
    → state_found t r ≡ Some state → stands_document t d ≡ true → IsFoundIn t state r d p o
    → IsFound t r d p o
found_known t r d p state (Here place) e k is = (
  is.0,
  λ w terms. is.1 w terms
      ∙ choose_known w terms t r d p state (package_found t d p) e k refl,
)
found_known t r d p state (Nowhere refusal) e k is = λ w terms. is w terms
    ∙ choose_known w terms t r d p state (package_found t d p) e k refl

pub found_at : (w : Readings) (terms : List (List ℕ)) (t : Tables) (state : ReleaseState)
    (r : List ℕ) (d : ℕ) (p : List ℕ) (row : PackageRow) → package_found t d p ≡ Some row
    → choose_in w t state r d p terms
    ≡ choose_shipped w terms (list_any (is_attachment r d) t.attached) (conclusion_found w t) state
    row
found_at w terms t state r d p row e = rw e refl

pub is_found : (t : Tables) (r : List ℕ) (d : ℕ) (p : List ℕ) (state : ReleaseState)
    (attached : Bool) (place : Place) (o : Found) → IsOpenPlace state attached place o
    → place.document ≡ d
    → ((w : Readings) (terms : List (List ℕ))
    → choose_in w t state r d p terms
    ≡ choose_shipped w terms attached (conclusion_found w t) state place.row)
    → IsFoundIn t state r d p o
is_found t r d p state attached place (Here found) is same at = (
  ap (λ (x : Place). x.document) is.0 ∙ same,
  λ w terms. ap (λ (x : Place). choose_for w terms (conclusion_found w t x.row) x.row) is.0
      ∙ (is.1 w terms (conclusion_found w t) ∙ sym (at w terms)),
)
is_found t r d p state attached place (Nowhere refusal) is same at = λ w terms. is w terms
    (conclusion_found w t) ∙ sym (at w terms)

-- the answer to a choice whose texts were read
choice_known : (w : Readings) (t : Tables) (r : List ℕ) (d : ℕ) (p : List ℕ)
    (texts terms : List (List ℕ)) → first_bad w 0 texts ≡ None → terms ≡ filter_map w.term texts
    → choose_found w t r d p terms ≡ answer_from w t (Choose r d p texts)
choice_known w t r d p texts terms none are = ap (choose_found w t r d p) are ∙ sym (rw none refl)

module _ {Left : Type 0} where
  pub chosen_plan : (old new : Seen Left) (w : Readings) (r : List ℕ) (d : ℕ) (p : List ℕ)
      (texts terms : List (List ℕ)) (o : Result Plan Fault) → AreTermsOf w texts (Terms terms)
      → IfOk o (λ plan. OfRows (λ t. IsPlan (choose_found w t r d p terms)
      (chosen_change r d p (sorted_set terms)) plan) old new)
      → IfOk o (λ plan. OfRows (IsPlanOf w (Choose r d p texts) plan) old new)
  chosen_plan old new w r d p texts terms (Ok plan) are is = λ h t held.
      subst (λ (a : Answer). IsPlan a (change_for w t (Choose r d p texts)) plan)
      (choice_known w t r d p texts terms are.0 are.1)
      (subst (λ (x : List (List ℕ)). IsPlan (choose_found w t r d p terms)
      (chosen_change r d p (sorted_set x)) plan) are.1 (is h t held))
  chosen_plan old new w r d p texts terms (Err fault) are is = tt

  pub found_after : (a b c : Seen Left) (r : List ℕ) (n d : ℕ) (p : List ℕ) (state : ReleaseState)
      (o : Result Found Fault) → Same a b → Looked b c o → n ≡ d
      → (b.is_honest → (t : Tables) → a.holds t
      → (state_found t r ≡ Some state) × (stands_document t d ≡ true))
      → IfOk o (λ found. OfRows (λ t. IsFoundIn t state r n p found) b c)
      → IfOk o (λ found. OfRows (λ t. IsFound t r d p found) a c)
  found_after a b c r n d p state (Ok found) s looked same right is = λ h t held.
      let known = right (looked.kept.spared.honest h) t held in
      found_known t r d p state found known.0 known.1
      (subst (λ (k : ℕ). IsFoundIn t state r k p found) same (is h t (s.kept.spared.holds t held)))
  found_after a b c r n d p state (Err fault) s looked same right is = tt
