-- One more term, and one more package, of a walk.
use Rattle.std.proofs.Common.{◌≡◌, ℕ, ◌+◌, List, [], ◌∷◌, ◌++◌, length, map}
use Rattle.std.proofs.Common.{Option, Some, None, sym, refl, ap, ◌∙◌, subst}
use Rattle.std.proofs.Common.{append_assoc}
use Rattle.desk_model.specs.Readings.{Readings}
use Rattle.std.specs.List.{enumerate_from}
use Rattle.std.proofs.lemmas.List.{map-append}
use Rattle.desk_base.proofs.Lists.{numbered_push}
use Rattle.desk_model.specs.Tables.{Tables}
use Rattle.desk_history.specs.FromTables.{new_duty, conclusion_found, rules_found, choice_found}
use Rattle.desk_duties.specs.Freezing.{GathersPackage, GathersTerm, unfit_package}
use Rattle.desk_duties.specs.declared.gathering.Gathered.{Gathered}
use Rattle.desk_model.specs.declared.refusal.Refusal.{Refusal}
use Rattle.desk_model.specs.declared.row.DutyRow.{DutyRow}
use Rattle.desk_model.specs.declared.row.AdoptionRow.{AdoptionRow}
use Rattle.desk_model.specs.declared.row.Owed.{Owed}
use Rattle.desk_model.specs.Raised.{owed_for, frozen_for, owed_for_terms, frozen_for_terms}
use Rattle.desk_model.specs.Raised.{owed_under, frozen_under, rule_adopted}
use Rattle.desk_model.specs.Answers.{first_unruled, first_unadopted, unruled, package_fault}
use Rattle.desk_model.specs.Answers.{unchosen, unconcluded, walk}
use Rattle.desk_model.specs.Lists.{or_else}
use Rattle.desk_model.specs.declared.reading.Conclusion.{Conclusion}
use Rattle.desk_model.specs.declared.reading.Rule.{Rule}
use Rattle.desk_model.specs.declared.row.PackageRow.{PackageRow}

-- a list so far, with some more
pub more_of : {A : Type 0} (old new here before rest total : List A) → new ≡ old ++ here
    → before ≡ here ++ rest → old ++ before ≡ total → new ++ rest ≡ total
more_of old new here before rest total grown split sofar =
    ap (λ xs. xs ++ rest) grown ∙ (append_assoc old here rest
    ∙ (ap (λ ys. old ++ ys) (sym split) ∙ sofar))

-- the terms of a package, the first of which fails
pub terms_fail : (w : Readings) (licences : List AdoptionRow) (rules : List Rule) (form r : List ℕ)
    (p : PackageRow) (terms rest : List (List ℕ)) (term : List ℕ) (old new : Gathered)
    (o : Option Refusal) (refusal : Refusal)
    → terms ≡ term ∷ rest → GathersTerm w licences rules form r p term old new o → o ≡ Some refusal
    → first_unruled w licences rules form p terms ≡ Some refusal
terms_fail w licences rules form r p terms rest term old new o refusal split g e =
    let g1 : unruled w licences rules form p term ≡ Some refusal =
    subst (GathersTerm w licences rules form r p term old new) e g in
    rw (split, g1) refl

pub record TermsOn (w : Readings) (licences : List AdoptionRow) (rules : List Rule)
    (form r : List ℕ) (p : PackageRow) (terms rest : List (List ℕ)) (term : List ℕ)
    (old new : Gathered) : Type 0 where
  pub unruled : first_unruled w licences rules form p terms
      ≡ first_unruled w licences rules form p rest
  pub frozen : frozen_for_terms w licences rules form r p terms
      ≡ frozen_under r p term (rule_adopted w licences rules form p.document term)
      ++ frozen_for_terms w licences rules form r p rest
  pub owed : owed_for_terms w licences rules form r p terms
      ≡ owed_under r p term (rule_adopted w licences rules form p.document term)
      ++ owed_for_terms w licences rules form r p rest
  pub new_frozen : new.frozen.items ≡ old.frozen.items
      ++ frozen_under r p term (rule_adopted w licences rules form p.document term)
  pub new_owed : new.owed.items ≡ old.owed.items
      ++ owed_under r p term (rule_adopted w licences rules form p.document term)

pub terms_on : (w : Readings) (licences : List AdoptionRow) (rules : List Rule) (form r : List ℕ)
    (p : PackageRow) (terms rest : List (List ℕ)) (term : List ℕ) (old new : Gathered)
    (o : Option Refusal)
    → terms ≡ term ∷ rest → GathersTerm w licences rules form r p term old new o → o ≡ None
    → TermsOn w licences rules form r p terms rest term old new
terms_on w licences rules form r p terms rest term old new o split g e =
    let g1 = subst (GathersTerm w licences rules form r p term old new) e g in
    record {
      unruled = rw (split, g1.0) refl;
      frozen = rw split refl;
      owed = rw split refl;
      new_frozen = g1.1;
      new_owed = g1.2;
    }

-- Numbered duties

pub duties_push : (first : ℕ) (xs : List Owed) (x : Owed) (n : ℕ) (rows rows' : List DutyRow)
    → n ≡ first + length xs → rows ≡ map new_duty (enumerate_from first xs)
    → rows' ≡ rows ++ new_duty (n, x) ∷ []
    → rows' ≡ map new_duty (enumerate_from first (xs ++ x ∷ []))
duties_push first xs x n rows rows' e f g =
    g ∙ (ap (λ zs. zs ++ new_duty (n, x) ∷ []) f
    ∙ (ap (λ k. map new_duty (enumerate_from first xs) ++ new_duty (k, x) ∷ []) e
    ∙ sym (ap (map new_duty) (numbered_push first xs x)
    ∙ map-append new_duty (enumerate_from first xs) ((first + length xs, x) ∷ []))))

-- Packages

-- a list of four, in the order in which they are tested
in_turn : (a b c d : Option Refusal)
    → or_else (or_else a (or_else b c)) d ≡ or_else a (or_else b (or_else c (or_else d None)))
in_turn None None None None = refl
in_turn None None None (Some x) = refl
in_turn None None (Some x) d = refl
in_turn None (Some x) c d = refl
in_turn (Some x) b c d = refl

unfit_is_fault : (w : Readings) (licences : List AdoptionRow) (rules : List Rule) (form : List ℕ)
    (conclusion : Option Conclusion) (terms : List (List ℕ)) (p : PackageRow)
    → unfit_package w licences rules form conclusion terms p
    ≡ package_fault w licences rules form conclusion terms p
unfit_is_fault w licences rules form conclusion terms p =
    in_turn (unconcluded conclusion p) (unchosen p terms)
    (first_unadopted w licences p.document terms) (first_unruled w licences rules form p terms)

-- the walk over packages, the first of which fails
pub walk_fails : (w : Readings) (t : Tables) (form r : List ℕ) (ps rest : List PackageRow)
    (p : PackageRow) (old new : Gathered) (o : Option Refusal) (refusal : Refusal) → ps ≡ p ∷ rest
    → GathersPackage w t form r p old new o → o ≡ Some refusal
    → walk w t.adoption (rules_found t) form (conclusion_found w t) (choice_found t r) ps
    ≡ Some refusal
walk_fails w t form r ps rest p old new o refusal split g e =
    let g1 : package_fault w t.adoption (rules_found t) form (conclusion_found w t p) (choice_found
    t r p) p ≡ Some refusal =
    sym (unfit_is_fault w t.adoption (rules_found t) form (conclusion_found w t p)
    (choice_found t r p) p) ∙ subst (GathersPackage w t form r p old new) e g in
    rw (split, g1) refl

pub record PackagesOn (w : Readings) (t : Tables) (form r : List ℕ) (ps rest : List PackageRow)
    (p : PackageRow) (old new : Gathered) : Type 0 where
  pub walked : walk w t.adoption (rules_found t) form (conclusion_found w t) (choice_found t r) ps
      ≡ walk w t.adoption (rules_found t) form (conclusion_found w t) (choice_found t r) rest
  pub frozen : frozen_for w t.adoption (rules_found t) form r (choice_found t r) ps
      ≡ frozen_for_terms w t.adoption (rules_found t) form r p (choice_found t r p)
      ++ frozen_for w t.adoption (rules_found t) form r (choice_found t r) rest
  pub owed : owed_for w t.adoption (rules_found t) form r (choice_found t r) ps
      ≡ owed_for_terms w t.adoption (rules_found t) form r p (choice_found t r p)
      ++ owed_for w t.adoption (rules_found t) form r (choice_found t r) rest
  pub new_frozen : new.frozen.items ≡ old.frozen.items
      ++ frozen_for_terms w t.adoption (rules_found t) form r p (choice_found t r p)
  pub new_owed : new.owed.items ≡ old.owed.items
      ++ owed_for_terms w t.adoption (rules_found t) form r p (choice_found t r p)

pub packages_on : (w : Readings) (t : Tables) (form r : List ℕ) (ps rest : List PackageRow)
    (p : PackageRow) (old new : Gathered) (o : Option Refusal) → ps ≡ p ∷ rest
    → GathersPackage w t form r p old new o → o ≡ None → PackagesOn w t form r ps rest p old new
packages_on w t form r ps rest p old new o split g e =
    let g1 = subst (GathersPackage w t form r p old new) e g in
    let fits : package_fault w t.adoption (rules_found t) form (conclusion_found w t
    p) (choice_found t r p) p ≡ None =
    sym (unfit_is_fault w t.adoption (rules_found t) form (conclusion_found w t p)
    (choice_found t r p) p) ∙ g1.0 in
    record {
      walked = rw (split, fits) refl;
      frozen = rw split refl;
      owed = rw split refl;
      new_frozen = g1.1;
      new_owed = g1.2;
    }
