-- The refusals for packages are in the list, and nothing else is.
use Rattle.std.proofs.Common.{◌≡◌, ◌∙◌, ℕ, Bool, true, false, List, [], ◌∷◌, ◌++◌, length, Option}
use Rattle.std.proofs.Common.{Some, None, sym, refl, ap, subst, inl, inr, arith}
use Rattle.std.specs.Prelude.{◌⊎◌, ◌==◌, ◌||◌, nat_lt, is_some}
use Rattle.std.specs.List.{cons_option, filter_map, flat_map}
use Rattle.std.specs.Option.{option_and_then}
use Rattle.std.specs.Str.{bytes_eq}
use Rattle.std.proofs.lemmas.Bool.Decides.{nat_tests}
use Rattle.desk_base.proofs.Bools.{and_left, and_right, or_left, or_right}
use Rattle.desk_base.proofs.Numbers.{numbers_equal}
use Rattle.desk_base.proofs.Texts.{texts_equal}
use Rattle.desk_model.specs.Lists.{IsIn}
use Rattle.desk_model.specs.Readings.{Readings}
use Rattle.desk_model.specs.Tables.{Tables}
use Rattle.desk_model.specs.History.{attached_to}
use Rattle.desk_model.specs.Conclusions.{licence_for}
use Rattle.desk_model.specs.Raised.{rule_adopted}
use Rattle.desk_model.specs.Answers.{first_refusal, unadopted, unchosen, unconcluded, unless, unready}
use Rattle.desk_model.specs.declared.reading.Rule.{Rule}
use Rattle.desk_model.specs.declared.refusal.Refusal.{Refusal}
use Rattle.desk_model.specs.declared.refusal.Refusal.TheVariants as why
use Rattle.desk_model.specs.declared.row.AdoptionRow.{AdoptionRow}
use Rattle.desk_model.specs.declared.row.PackageRow.{PackageRow}
use Rattle.desk_model.specs.declared.row.ReleaseRow.{ReleaseRow}
use Rattle.desk_model.specs.declared.state.ReleaseState.{ReleaseState}
use Rattle.desk_model.specs.declared.state.ReleaseState.TheVariants.{IsOpen, Frozen, Withdrawn}
use Rattle.desk_history.specs.FromTables.{choice_found, conclusion_found, refusals_found}
use Rattle.desk_history.specs.FromTables.{release_found, rules_found, shipped_found}
use Rattle.desk_history.proofs.Members.{in_cases, in_flat_map, in_left, in_right, from_flat_map, from_filter_map}
use Rattle.desk_wanting.specs.Against.{IsPrepared, StandsAgainst}
use Rattle.desk_model.specs.Obstacles.{alone_or, applying, is_told, names_reference, term_refusals}
use Rattle.desk_model.specs.Obstacles.{told_once, unruled_alone}
use Rattle.desk_model.proofs.Lists.{one_passes}
use Rattle.desk_wanting.specs.Obstacles.{open_wanting, wanting_found}

-- Lists

in_cons_option : {B : Type 0} (o : Option B) (z : B) (zs : List B) → (o ≡ Some z) ⊎ IsIn z zs
    → IsIn z (cons_option o zs)
in_cons_option None z zs h = elim h [ inl e ↦ absurd (cc) | inr m ↦ m ]
in_cons_option (Some y) z zs h = elim h [ inl e ↦ inl (cc) | inr m ↦ inr m ]

in_filter_map : {A B : Type 0} (f : A → Option B) (x : A) (z : B) (xs : List A) → IsIn x xs
    → f x ≡ Some z → IsIn z (filter_map f xs)
in_filter_map f x z [] m e = absurd m
in_filter_map f x z (y ∷ xs) m e =
    in_cons_option (f y) z (filter_map f xs)
    (elim m [ inl same ↦ inl (ap f same ∙ e) | inr later ↦ inr (in_filter_map f x z xs later e) ])

-- Listed once

pub named : (d : ℕ) (reference : List ℕ) (x : Refusal) → names_reference d reference x ≡ true
    → x ≡ why.NotAdopted d reference
named d reference (why.NotAdopted d' reference') e =
    let same : d' ≡ d = numbers_equal d' d (and_left (d' == d) (bytes_eq reference' reference) e) in
    let alike : reference' ≡ reference =
    texts_equal reference' reference (and_right (d' == d) (bytes_eq reference' reference) e) in
    ap (λ n. why.NotAdopted n reference') same ∙ ap (λ text. why.NotAdopted d text) alike
named d reference _ e = absurd (cc)

told_is_in : (told : List Refusal) (x : Refusal) → is_told told x ≡ true → IsIn x told
told_is_in told (why.NotAdopted d reference) e =
    let w = one_passes (names_reference d reference) told e in
    subst (λ (y : Refusal). IsIn y told) (named d reference w.0 w.2) w.1
told_is_in told _ e = absurd (cc)

in_told_next : (told : List Refusal) (y : Refusal) (ys : List Refusal) (x : Refusal) (b : Bool)
    → is_told told y ≡ b → IsIn x (y ∷ ys)
    → ((told : List Refusal) → IsIn x ys → IsIn x (told_once told ys) ⊎ IsIn x told)
    → IsIn x (told_once told (y ∷ ys)) ⊎ IsIn x told
in_told_next told y ys x true e m later =
    rw e (elim m [
      | inl same ↦ inr (subst (λ (z : Refusal). IsIn z told) same (told_is_in told y e))
      | inr after ↦ later told after
    ])
in_told_next told y ys x false e m later =
    rw e (elim m [
      | inl same ↦ inl (inl same)
      | inr after ↦ elim (later (told ++ y ∷ []) after) [
        | inl listed ↦ inl (inr listed)
        | inr before ↦ elim (in_cases x told (y ∷ []) before) [
          | inl old ↦ inr old
          | inr new ↦
              (elim new [ inl same ↦ inl (inl same) | inr none ↦ absurd none ])
        ]
      ]
    ])

in_told_once : (told xs : List Refusal) (x : Refusal) → IsIn x xs
    → IsIn x (told_once told xs) ⊎ IsIn x told
in_told_once told [] x m = absurd m
in_told_once told (y ∷ ys) x m = in_told_next told y ys x (is_told told y) refl m
    (λ told after. in_told_once told ys x after)

is_listed : (xs : List Refusal) (x : Refusal) → IsIn x xs → IsIn x (told_once [] xs)
is_listed xs x m = elim (in_told_once [] xs x m) [ inl listed ↦ listed | inr none ↦ absurd none ]

from_told_next : (told : List Refusal) (y : Refusal) (ys : List Refusal) (x : Refusal) (b : Bool)
    → is_told told y ≡ b → IsIn x (told_once told (y ∷ ys))
    → ((told : List Refusal) → IsIn x (told_once told ys) → IsIn x ys) → IsIn x (y ∷ ys)
from_told_next told y ys x true e m later = inr (later told (rw e at m))
from_told_next told y ys x false e m later =
    let n : IsIn x (y ∷ told_once (told ++ y ∷ []) ys) = rw e at m in
    elim n [ inl same ↦ inl same | inr after ↦ inr (later (told ++ y ∷ []) after) ]

from_told_once : (told xs : List Refusal) (x : Refusal) → IsIn x (told_once told xs) → IsIn x xs
from_told_once told [] x m = m
from_told_once told (y ∷ ys) x m = from_told_next told y ys x (is_told told y) refl m
    (λ told after. from_told_once told ys x after)

-- What each refusal says

unless_some : (b : Bool) (x z : Refusal) → unless b x ≡ Some z → (b ≡ false) × (x ≡ z)
unless_some true x z e = absurd (cc)
unless_some false x z e = (refl, cc)

unset : {A : Type 0} (o : Option A) → is_some o ≡ false → o ≡ None
unset None e = refl
unset (Some x) e = absurd (cc)

from_unchosen : (p : PackageRow) (terms : List (List ℕ)) (z : Refusal) → unchosen p terms ≡ Some z
    → (terms ≡ []) × (why.NoChoice p.document p.id ≡ z)
from_unchosen p [] z e = (refl, cc)
from_unchosen p (term ∷ terms) z e = absurd (cc)

from_unadopted : (licences : List AdoptionRow) (d : ℕ) (o : Option (List ℕ)) (z : Refusal)
    → option_and_then (λ reference. unless (is_some (licence_for licences d reference))
    (why.NotAdopted d reference)) o ≡ Some z
    → (reference : List ℕ) × (o ≡ Some reference) × (licence_for licences d reference ≡ None)
    × (why.NotAdopted d reference ≡ z)
from_unadopted licences d None z e = absurd (cc)
from_unadopted licences d (Some reference) z e =
    let w = unless_some (is_some (licence_for licences d reference)) (why.NotAdopted d reference) z
    e in
    (reference, refl, unset (licence_for licences d reference) w.0, w.1)

-- Packages

module _ (w : Readings) (t : Tables) (r form : List ℕ) (p : PackageRow) where
  abbrev terms : List (List ℕ)
  terms = choice_found t r p

  abbrev mark : List ℕ → Option Refusal
  mark = unadopted w t.adoption p.document

  abbrev alone : List ℕ → Option Refusal
  alone = unruled_alone w t.adoption (rules_found t) form p

  abbrev bare : List (Option Refusal)
  bare = unconcluded (conclusion_found w t p) p ∷ unchosen p terms ∷ []

  in_bare : (z : Refusal) → IsIn (Some z) bare → IsIn z (refusals_found w t r form p)
  in_bare z m = in_left z (applying bare) (term_refusals w t.adoption (rules_found t) form terms p)
      (in_filter_map (λ (o : Option Refusal). o) (Some z) z bare m refl)

  in_terms : (z : Refusal) → IsIn z (term_refusals w t.adoption (rules_found t) form terms p)
      → IsIn z (refusals_found w t r form p)
  in_terms z m = in_right z (applying bare)
      (term_refusals w t.adoption (rules_found t) form terms p) m

  in_package : (z : Refusal) → StandsAgainst w t r form p z → IsIn z (refusals_found w t r form p)
  in_package (why.NoConclusion d id) s =
      in_bare (why.NoConclusion d id)
      (inl (ap (λ c. unconcluded c p) s.2
      ∙ (ap (λ n. Some (why.NoConclusion n p.id)) (sym s.0)
      ∙ ap (λ i. Some (why.NoConclusion d i)) (sym s.1))))
  in_package (why.NoChoice d id) s =
      in_bare (why.NoChoice d id)
      (inr (inl (ap (unchosen p) s.2
      ∙ (ap (λ n. Some (why.NoChoice n p.id)) (sym s.0)
      ∙ ap (λ i. Some (why.NoChoice d i)) (sym s.1)))))
  in_package (why.NotAdopted d reference) s =
      let term : List ℕ = s.1.0 in
      let marked : mark term ≡ Some (why.NotAdopted d reference) =
      ap (option_and_then (λ reference. unless
      (is_some (licence_for t.adoption p.document reference))
      (why.NotAdopted p.document reference))) s.1.2
      ∙ (ap (λ (l : Option (List ℕ)). unless (is_some l) (why.NotAdopted p.document reference))
      s.1.3 ∙ ap (λ n. Some (why.NotAdopted n reference)) (sym s.0)) in
      in_terms (why.NotAdopted d reference)
      (in_left (why.NotAdopted d reference) (filter_map mark terms) (filter_map alone terms)
      (in_filter_map mark term (why.NotAdopted d reference) terms s.1.1 marked))
  in_package (why.NoRule d id term) s =
      let bared : alone term ≡ Some (why.NoRule d id term) =
      ap (λ (o : Option Rule). unless (is_some o || is_some (mark term))
      (why.NoRule p.document p.id term)) s.4
      ∙ (ap (λ (o : Option Refusal). unless (is_some o) (why.NoRule p.document p.id term)) s.3
      ∙ (ap (λ n. Some (why.NoRule n p.id term)) (sym s.0)
      ∙ ap (λ i. Some (why.NoRule d i term)) (sym s.1))) in
      in_terms (why.NoRule d id term)
      (in_right (why.NoRule d id term) (filter_map mark terms) (filter_map alone terms)
      (in_filter_map alone term (why.NoRule d id term) terms s.2 bared))
  in_package _ s = absurd s

  by_conclusion : (z : Refusal) → unconcluded (conclusion_found w t p) p ≡ Some z
      → StandsAgainst w t r form p z
  by_conclusion z e =
      let u = unless_some (is_some (conclusion_found w t p)) (why.NoConclusion p.document p.id) z
      e in
      subst (λ (z : Refusal). StandsAgainst w t r form p z) u.1
      (refl, refl, unset (conclusion_found w t p) u.0)

  by_choice : (z : Refusal) → unchosen p terms ≡ Some z → StandsAgainst w t r form p z
  by_choice z e =
      let u = from_unchosen p terms z e in
      subst (λ (z : Refusal). StandsAgainst w t r form p z) u.1 (refl, refl, u.0)

  by_reference : (z : Refusal) (term : List ℕ) → IsIn term terms → mark term ≡ Some z
      → StandsAgainst w t r form p z
  by_reference z term m e =
      let u = from_unadopted t.adoption p.document (w.reference term) z e in
      subst (λ (z : Refusal). StandsAgainst w t r form p z) u.3 (refl, (term, m, u.1, u.2))

  by_rule : (z : Refusal) (term : List ℕ) → IsIn term terms → alone term ≡ Some z
      → StandsAgainst w t r form p z
  by_rule z term m e =
      let rule = rule_adopted w t.adoption (rules_found t) form p.document term in
      let u = unless_some (is_some rule || is_some (mark term)) (why.NoRule p.document p.id term) z
      e in
      subst (λ (z : Refusal). StandsAgainst w t r form p z) u.1 (
        refl,
        refl,
        m,
        unset (mark term) (or_right (is_some rule) (is_some (mark term)) u.0),
        unset rule (or_left (is_some rule) (is_some (mark term)) u.0),
      )

  by_bare : (z : Refusal) (o : Option Refusal) → IsIn o bare → o ≡ Some z
      → StandsAgainst w t r form p z
  by_bare z o m e = elim m [
    | inl same ↦ by_conclusion z (same ∙ e)
    | inr later ↦ elim later [ inl same ↦ by_choice z (same ∙ e) | inr none ↦ absurd none ]
  ]

  from_package : (z : Refusal) → IsIn z (refusals_found w t r form p) → StandsAgainst w t r form p z
  from_package z m = elim (in_cases z (applying bare)
      (term_refusals w t.adoption (rules_found t) form terms p) m) [
        | inl first ↦ (let u = from_filter_map (λ (o : Option Refusal). o) z bare first in
            by_bare z u.0 u.1 u.2)
        | inr later ↦ elim (in_cases z (filter_map mark terms) (filter_map alone terms) later) [
          | inl reference ↦ (let u = from_filter_map mark z terms reference in
              by_reference z u.0 u.1 u.2)
          | inr rule ↦ (let u = from_filter_map alone z terms rule in by_rule z u.0 u.1 u.2)
        ]
      ]

-- Releases

some_rows : {A : Type 0} (rows : List A) → (rows ≡ [] → ⊥) → nat_lt 0 (length rows) ≡ true
some_rows [] some = absurd (some refl)
some_rows (row ∷ rows) some = grind (arith, nat_tests)

module _ (w : Readings) (t : Tables) (r : List ℕ) (row : ReleaseRow) (is : IsPrepared t r row) where
  abbrev found : List Refusal
  found = flat_map (refusals_found w t r row.form) (shipped_found t r)

  listed : wanting_found w t r ≡ told_once [] found
  listed =
      let documents = some_rows (attached_to t.attached r) is.documents in
      rw (is.found, is.state, documents) refl

  pub stands_listed : (p : PackageRow) (x : Refusal) → IsIn p (shipped_found t r)
      → StandsAgainst w t r row.form p x → IsIn x (wanting_found w t r)
  stands_listed p x ships s =
      subst (λ (xs : List Refusal). IsIn x xs) (sym listed)
      (is_listed found x (in_flat_map (refusals_found w t r row.form) p x (shipped_found t r) ships
      (in_package w t r row.form p x s)))

  pub listed_stands : (x : Refusal) → IsIn x (wanting_found w t r)
      → (p : PackageRow) × IsIn p (shipped_found t r) × StandsAgainst w t r row.form p x
  listed_stands x m =
      let u = from_flat_map (refusals_found w t r row.form) x (shipped_found t r)
      (from_told_once [] found x (subst (λ (xs : List Refusal). IsIn x xs) listed m)) in
      (u.0, u.1, from_package w t r row.form u.0 x u.2)

-- A refusal that is alone

pub unknown_alone : (w : Readings) (t : Tables) (r : List ℕ) → release_found t r ≡ None
    → wanting_found w t r ≡ why.UnknownRelease ∷ []
unknown_alone w t r e = rw e refl

unready_first : (state : ReleaseState) (xs : List Refusal) → (state ≡ IsOpen → ⊥)
    → alone_or (first_refusal (None ∷ unready state ∷ [])) xs ≡ why.ReleaseState state ∷ []
unready_first IsOpen xs shut = absurd (shut refl)
unready_first Frozen xs shut = refl
unready_first Withdrawn xs shut = refl

pub shut_alone : (w : Readings) (t : Tables) (r : List ℕ) (row : ReleaseRow)
    → release_found t r ≡ Some row → (row.state ≡ IsOpen → ⊥)
    → wanting_found w t r ≡ why.ReleaseState row.state ∷ []
shut_alone w t r row e shut = rw e (unready_first row.state (open_wanting w t r row.form) shut)

pub empty_alone : (w : Readings) (t : Tables) (r : List ℕ) (row : ReleaseRow)
    → release_found t r ≡ Some row → row.state ≡ IsOpen → attached_to t.attached r ≡ []
    → wanting_found w t r ≡ why.EmptyRelease ∷ []
empty_alone w t r row e state none = rw (e, state, none) refl
