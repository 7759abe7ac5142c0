-- The answer given step by step is the list of refusals, or the sets.
use Rattle.std.proofs.Common.{◌≡◌, ℕ, Bool, true, false, List, Option, Some, None, refl, sym, ap, subst, ◌∙◌}
use Rattle.std.specs.Prelude.{Result, Ok, Err, find, is_some, IfOk}
use Rattle.std.specs.List.{list_any}
use Rattle.std.specs.Option.{option_and_then}
use Rattle.std.specs.Str.{bytes_eq}
use Rattle.desk_model.specs.Readings.{Readings}
use Rattle.desk_model.specs.Keys.{is_document, is_package}
use Rattle.desk_model.specs.Tables.{Tables}
use Rattle.desk_model.specs.Listings.{Listing, alternatives_answer, cheapest_answer, term_cost}
use Rattle.desk_model.specs.declared.reading.Cheapest.{Cheapest}
use Rattle.desk_model.specs.declared.reading.Conclusion.{Conclusion}
use Rattle.desk_model.specs.declared.reading.ListFault.{ListFault}
use Rattle.desk_model.specs.declared.row.PackageRow.{PackageRow}
use Rattle.desk_model.specs.declared.command.Query.TheVariants as query
use Rattle.desk_history.specs.FromTables.{conclusion_found, queried_from, rules_found}
use Rattle.desk_questions.specs.Found.{listed, priced, told_of, of_package, told_found, listed_found, priced_found}
use Rattle.desk_access.specs.Seen.{Seen, Same, Looked, OfRows}
use Rattle.desk_base.specs.declared.profile.Profile.{Profile}
use Rattle.desk_packages.specs.Claims.{InForceOf}
use Rattle.desk_packages.specs.declared.conclusion.InForce.{InForce}
use Rattle.desk_packages.specs.declared.conclusion.InForce.TheVariants.{Expression}
use Rattle.desk_model.specs.declared.command.Answer.{Answer}
use Rattle.desk_model.specs.declared.command.Fault.{Fault}
use Rattle.desk_model.specs.declared.refusal.Refusal.{Refusal}

abbrev looked : Bool → Option PackageRow → Option Conclusion → Listing
looked known row_found conclusion = record {
  has_document = known;
  row = row_found;
  conclusion = conclusion;
}

sets_told : (w : Readings) (p : PackageRow) (c : Conclusion)
    (r : Result (List (List (List ℕ))) ListFault) → w.alternatives c.profile c.text ≡ r
    → listed r ≡ alternatives_answer w (looked true (Some p) (Some c))
sets_told w p c (Ok sets) e = sym (rw e refl)
sets_told w p c (Err fault) e = sym (rw e refl)

conclusion_listed : (w : Readings) (p : PackageRow) (o : Option Conclusion)
    → told_of (λ c. listed (w.alternatives c.profile c.text)) o p
    ≡ alternatives_answer w (looked true (Some p) o)
conclusion_listed w p None = refl
conclusion_listed w p (Some c) = sets_told w p c (w.alternatives c.profile c.text) refl

package_listed : (w : Readings) (t : Tables) (known : Bool) (found : Option PackageRow)
    → of_package (listed_found w t) known found
    ≡ alternatives_answer w (looked known found (option_and_then (conclusion_found w t) found))
package_listed w t false found = refl
package_listed w t true None = refl
package_listed w t true (Some p) = conclusion_listed w p (conclusion_found w t p)

pub alternatives_told : (w : Readings) (t : Tables) (d : ℕ) (p : List ℕ)
    → of_package (listed_found w t) (is_some (find (is_document d) t.document))
    (find (is_package d p) t.packages) ≡ queried_from w t (query.Alternatives d p)
alternatives_told w t d p = package_listed w t (is_some (find (is_document d) t.document))
    (find (is_package d p) t.packages)

set_told : (w : Readings) (cost : ℕ → List ℕ → Option ℕ) (p : PackageRow) (c : Conclusion)
    (r : Result (Option Cheapest) ListFault)
    → w.cheapest c.profile c.text (cost p.document) ≡ r
    → priced r ≡ cheapest_answer w true cost (looked true (Some p) (Some c))
set_told w cost p c (Ok set) e = sym (rw e refl)
set_told w cost p c (Err fault) e = sym (rw e refl)

conclusion_priced : (w : Readings) (cost : ℕ → List ℕ → Option ℕ) (p : PackageRow)
    (o : Option Conclusion)
    → told_of (λ c. priced (w.cheapest c.profile c.text (cost p.document))) o p
    ≡ cheapest_answer w true cost (looked true (Some p) o)
conclusion_priced w cost p None = refl
conclusion_priced w cost p (Some c) = set_told w cost p c
    (w.cheapest c.profile c.text (cost p.document)) refl

form_priced : (w : Readings) (t : Tables) (form : List ℕ) (p : PackageRow) (b : Bool)
    → list_any (bytes_eq form) t.forms ≡ b
    → priced_found w t form p ≡ cheapest_answer w b (term_cost w t.adoption (rules_found t) form)
    (looked true (Some p) (conclusion_found w t p))
form_priced w t form p false e = rw e refl
form_priced w t form p true e = rw e
    (conclusion_priced w (term_cost w t.adoption (rules_found t) form) p (conclusion_found w t p))

package_priced : (w : Readings) (t : Tables) (form : List ℕ) (known : Bool)
    (found : Option PackageRow)
    → of_package (priced_found w t form) known found
    ≡ cheapest_answer w (list_any (bytes_eq form) t.forms)
    (term_cost w t.adoption (rules_found t) form)
    (looked known found (option_and_then (conclusion_found w t) found))
package_priced w t form false found = refl
package_priced w t form true None = refl
package_priced w t form true (Some p) = form_priced w t form p (list_any (bytes_eq form) t.forms)
    refl

pub cheapest_told : (w : Readings) (t : Tables) (d : ℕ) (p form : List ℕ)
    → of_package (priced_found w t form) (is_some (find (is_document d) t.document))
    (find (is_package d p) t.packages) ≡ queried_from w t (query.Cheapest d p form)
cheapest_told w t d p form = package_priced w t form (is_some (find (is_document d) t.document))
    (find (is_package d p) t.packages)

-- One call after another

pub found_as : (tell : PackageRow → Answer) (found other : Result PackageRow Refusal)
    (answer : Answer) → found ≡ other → told_found tell found ≡ answer
    → told_found tell other ≡ answer
found_as tell found other answer same is = subst (λ (o : Result PackageRow Refusal). told_found tell
    o ≡ answer) same is

module _ {Left : Type 0} where
  pub told_after : (a b c : Seen Left) (told answer : Tables → Answer) (r : Result Answer Fault)
      → Same a b → Looked b c r
      → (b.is_honest → (t : Tables) → a.holds t → told t ≡ answer t)
      → IfOk r (λ x. OfRows (λ t. x ≡ told t) b c) → IfOk r (λ x. OfRows (λ t. x ≡ answer t) a c)
  told_after a b c told answer (Ok x) s l same is = λ h t held. is h t (s.kept.spared.holds t held)
      ∙ same (l.kept.spared.honest h) t held
  told_after a b c told answer (Err fault) s l same is = tt

  -- the answer about the expression that was read from a conclusion
  pub read_then : {E : Type 0} (is_of : Profile → List ℕ → E → Type 0) (w : Readings)
      (a b c : Seen Left) (concluded : Tables → Option Conclusion)
      (told : Profile → List ℕ → Tables → Answer) (p : PackageRow) (e : E) (read : InForce E)
      (r : Result Answer Fault)
      → Same a b → Looked b c r → read ≡ Expression e
      → (b.is_honest → (t : Tables) → a.holds t → InForceOf is_of w (concluded t) read)
      → ((profile : Profile) (text : List ℕ) → is_of profile text e
      → IfOk r (λ x. OfRows (λ t. x ≡ told profile text t) b c))
      → IfOk r (λ x. OfRows (λ t. x ≡ told_of (λ k. told k.profile k.text t) (concluded t) p) a c)
  read_then is_of w a b c concluded told p e read (Err fault) s l is found gives = tt
  read_then is_of w a b c concluded told p e read (Ok x) s l is found gives = λ h t held.
      let one : InForceOf is_of w (concluded t) (Expression e) =
      subst (λ (i : InForce _). InForceOf is_of w (concluded t) i) is
      (found (l.kept.spared.honest h) t held) in
      gives one.0.profile one.0.text one.2 h t (s.kept.spared.holds t held)
      ∙ sym (ap (λ (o : Option Conclusion). told_of (λ k. told k.profile k.text t) o p) one.1)
