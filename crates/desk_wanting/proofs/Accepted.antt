-- A Choose of a sole choice is done.
use Rattle.std.proofs.Common.{◌≡◌, ◌∙◌, ◌+◌, ℕ, Bool, true, List, [], ◌∷◌, Option, Some}
use Rattle.std.proofs.Common.{None, sym, refl, ap, subst, inl, inr}
use Rattle.std.proofs.lemmas.Bool.{and_from}
use Rattle.std.specs.Prelude.{filter, ◌==◌, Result, Ok, Err}
use Rattle.std.specs.List.{cons_option, filter_map, list_any}
use Rattle.std.specs.Option.{option_and_then}
use Rattle.desk_base.proofs.Bools.{and_left, and_right}
use Rattle.desk_base.proofs.Numbers.{numbers_equal, same_number}
use Rattle.desk_model.specs.Keys.{is_attached_to, is_attachment, is_shipped_by}
use Rattle.desk_model.specs.Lists.{IsIn}
use Rattle.desk_model.specs.Readings.{Readings}
use Rattle.desk_model.specs.Tables.{Tables}
use Rattle.desk_model.specs.History.{attached_to}
use Rattle.desk_model.specs.Answers.{Choosing, choose_answer, first_bad}
use Rattle.desk_model.specs.declared.command.Answer.TheVariants.{Done}
use Rattle.desk_model.specs.declared.command.Command.TheVariants.{Choose}
use Rattle.desk_model.specs.declared.reading.Conclusion.{Conclusion}
use Rattle.desk_model.specs.declared.reading.ListFault.{ListFault}
use Rattle.desk_model.specs.declared.reading.Verdict.TheVariants.{Minimal}
use Rattle.desk_model.specs.declared.refusal.Refusal.{Refusal}
use Rattle.desk_model.specs.declared.row.AttachedRow.{AttachedRow}
use Rattle.desk_model.specs.declared.row.PackageRow.{PackageRow}
use Rattle.desk_model.specs.declared.state.ReleaseState.{ReleaseState}
use Rattle.desk_model.specs.declared.state.ReleaseState.TheVariants.{IsOpen, Frozen, Withdrawn}
use Rattle.desk_model.proofs.Lists.{one_any}
use Rattle.desk_history.specs.FromTables.{answer_from, choice_found, conclusion_found}
use Rattle.desk_history.specs.FromTables.{package_found, shipped_found, stands_document}
use Rattle.desk_history.specs.FromTables.{state_found}
use Rattle.desk_history.proofs.Members.{from_flat_map, from_filter_map}
use Rattle.desk_history.proofs.Distinct.{from_filter}
use Rattle.desk_wanting.specs.Premises.{FindsPackages, ListsMinimalSets}
use Rattle.desk_wanting.specs.Sole.{choice_of, release_refusal, sole_choice_found}
use Rattle.desk_wanting.specs.Sole.{sole_choices_found, sole_set, sole_terms, these_unless}
use Rattle.desk_wanting.specs.Sole.{unchosen_choice}
use Rattle.desk_wanting.specs.declared.sole_choice.SoleChoice.{SoleChoice}

-- Lists

-- Terms that spell themselves

module _ (w : Readings) where
  none_bad : (i : ℕ) (terms : List (List ℕ))
      → ((term : List ℕ) → IsIn term terms → w.term term ≡ Some term) → first_bad w i terms ≡ None
  none_bad i [] spell = refl
  none_bad i (term ∷ terms) spell = rw (spell term (inl refl))
      (none_bad (i + 1) terms (λ other m. spell other (inr m)))

  all_spelled : (terms : List (List ℕ))
      → ((term : List ℕ) → IsIn term terms → w.term term ≡ Some term)
      → filter_map w.term terms ≡ terms
  all_spelled [] spell = refl
  all_spelled (term ∷ terms) spell =
      ap (λ o. cons_option o (filter_map w.term terms)) (spell term (inl refl))
      ∙ ap (λ ts. term ∷ ts) (all_spelled terms (λ other m. spell other (inr m)))

-- The answer to a Choose of what it looks up

abbrev looked : Option ReleaseState → Bool → Option PackageRow → Bool → Option Conclusion → Choosing
looked state known row attached conclusion = record {
  state = state;
  has_document = known;
  row = row;
  is_attached = attached;
  conclusion = conclusion;
}

done : (w : Readings) (terms : List (List ℕ)) (state : Option ReleaseState) (p : PackageRow)
    (k : Conclusion) → first_bad w 0 terms ≡ None → filter_map w.term terms ≡ terms
    → release_refusal state ≡ None → p.shipped ≡ true → w.verdict k.profile k.text terms ≡ Minimal
    → choose_answer w terms (looked state true (Some p) true (Some k)) ≡ Done
done w terms None p k bad spelled ready ships minimal = absurd (cc)
done w terms (Some IsOpen) p k bad spelled ready ships minimal = rw (bad, spelled, ships, minimal)
    refl
done w terms (Some Frozen) p k bad spelled ready ships minimal = absurd (cc)
done w terms (Some Withdrawn) p k bad spelled ready ships minimal = absurd (cc)

-- What follows from a sole choice

no_refusal : (o : Option Refusal) (listed choices : List SoleChoice)
    → these_unless o listed ≡ Ok choices → (o ≡ None) × (listed ≡ choices)
no_refusal None listed choices e = (refl, cc)
no_refusal (Some x) listed choices e = absurd (cc)

record IsOf (w : Readings) (conclusion : Option Conclusion) (set : List (List ℕ)) : Type 0 where
  pub k : Conclusion
  pub concluded : conclusion ≡ Some k
  pub listed : w.alternatives k.profile k.text ≡ Ok (set ∷ [])

alone : (r : Result (List (List (List ℕ))) ListFault) (set : List (List ℕ)) → sole_set r ≡ Some set
    → r ≡ Ok (set ∷ [])
alone (Ok []) set e = absurd (cc)
alone (Ok (one ∷ [])) set e = cc
alone (Ok (one ∷ two ∷ more)) set e = absurd (cc)
alone (Err fault) set e = absurd (cc)

of_conclusion : (w : Readings) (conclusion : Option Conclusion) (set : List (List ℕ))
    → sole_terms w conclusion ≡ Some set → IsOf w conclusion set
of_conclusion w None set e = absurd (cc)
of_conclusion w (Some k) set e = record {
  k = k;
  concluded = refl;
  listed = alone (w.alternatives k.profile k.text) set e;
}

from_choice : (chosen : List (List ℕ)) (p : PackageRow) (o : Option (List (List ℕ)))
    (c : SoleChoice) → unchosen_choice chosen p o ≡ Some c
    → (set : List (List ℕ)) × (o ≡ Some set) × (choice_of p set ≡ c)
from_choice [] p None c e = absurd (cc)
from_choice [] p (Some set) c e = (set, refl, cc)
from_choice (term ∷ terms) p o c e = absurd (cc)

-- A package that a release ships

record IsShippedBy (t : Tables) (r : List ℕ) (p : PackageRow) : Type 0 where
  pub row : AttachedRow
  pub attached : IsIn row t.attached
  pub to : is_attached_to r row ≡ true
  pub of : p.document ≡ row.document
  pub listed : IsIn p t.packages
  pub ships : p.shipped ≡ true

shipped_by : (t : Tables) (r : List ℕ) (p : PackageRow) → IsIn p (shipped_found t r)
    → IsShippedBy t r p
shipped_by t r p m =
    let at = from_flat_map (λ (row : AttachedRow). filter (is_shipped_by row.document) t.packages) p
    (attached_to t.attached r) m in
    let row = at.0 in
    let attached = from_filter (is_attached_to r) row t.attached at.1 in
    let kept = from_filter (is_shipped_by row.document) p t.packages at.2 in
    record {
      row = row;
      attached = attached.0;
      to = attached.1;
      of = numbers_equal p.document row.document
          (and_left (p.document == row.document) p.shipped kept.1);
      listed = kept.0;
      ships = and_right (p.document == row.document) p.shipped kept.1;
    }

module _ (w : Readings) (t : Tables) (r : List ℕ) (lists : ListsMinimalSets w)
    (finds : FindsPackages t) where
  -- a Choose of the sole set of a package that is shipped
  set_done : (p : PackageRow) (set : List (List ℕ)) → release_refusal (state_found t r) ≡ None
      → IsShippedBy t r p → IsOf w (conclusion_found w t p) set
      → answer_from w t (Choose r p.document p.id set) ≡ Done
  set_done p set ready by is =
      let k = is.k in
      let known : stands_document t p.document ≡ true = ap (stands_document t) by.of
      ∙ finds.documents by.row by.attached in
      let found : package_found t p.document p.id ≡ Some p = finds.packages p by.listed in
      let there : list_any (is_attachment r p.document) t.attached ≡ true =
      one_any (is_attachment r p.document) by.row t.attached by.attached
      (and_from _ _ by.to (ap (λ d. by.row.document == d) by.of ∙ same_number by.row.document)) in
      let spell = λ (term : List ℕ) (m : IsIn term set). lists.printed k.profile k.text (set ∷ [])
      set term is.listed (inl refl) m in
      let minimal = lists.minimal k.profile k.text (set ∷ []) set is.listed (inl refl) in
      let state = state_found t r in
      let attached = list_any (is_attachment r p.document) t.attached in
      let row = package_found t p.document p.id in
      ap (λ (b : Bool). choose_answer w set
      (looked state b row attached (option_and_then (conclusion_found w t) row))) known
      ∙ (ap (λ (o : Option PackageRow). choose_answer w set
      (looked state true o attached (option_and_then (conclusion_found w t) o))) found
      ∙ (ap (λ (b : Bool). choose_answer w set
      (looked state true (Some p) b (conclusion_found w t p))) there
      ∙ (ap (λ (o : Option Conclusion). choose_answer w set (looked state true (Some p) true o))
      is.concluded
      ∙ done w set state p k (none_bad w 0 set spell) (all_spelled w set spell) ready by.ships
      minimal)))

  pub accepted : (choices : List SoleChoice) (c : SoleChoice)
      → sole_choices_found w t r ≡ Ok choices → IsIn c choices
      → answer_from w t (Choose r c.document c.package_id c.terms) ≡ Done
  accepted choices c e m =
      let ready = no_refusal (release_refusal (state_found t r))
      (filter_map (sole_choice_found w t r) (shipped_found t r)) choices e in
      let at = from_filter_map (sole_choice_found w t r) c (shipped_found t r)
      (subst (λ (cs : List SoleChoice). IsIn c cs) (sym ready.1) m) in
      let p = at.0 in
      let one = from_choice (choice_found t r p) p (sole_terms w (conclusion_found w t p)) c at.2 in
      let is = of_conclusion w (conclusion_found w t p) one.0 one.1 in
      subst (λ (c : SoleChoice). answer_from w t (Choose r c.document c.package_id c.terms) ≡ Done)
      one.2 (set_done p one.0 ready.0 (shipped_by t r p at.1) is)
