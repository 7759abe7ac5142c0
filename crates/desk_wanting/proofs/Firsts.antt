-- The first refusal of the list, and what a freeze makes of it.
use Rattle.std.proofs.Common.{◌≡◌, ◌∙◌, ℕ, Bool, true, false, ◌+◌, ◌<◌, ◌≤◌, List, [], ◌∷◌, ◌++◌}
use Rattle.std.proofs.Common.{length, map, Option, Some, None, sym, refl, ap, arith}
use Rattle.std.specs.Prelude.{◌||◌, nat_le, nat_lt, is_some}
use Rattle.std.specs.List.{cons_option, filter_map, flat_map}
use Rattle.std.specs.Option.{option_and_then}
use Rattle.std.proofs.lemmas.Bool.Decides.{nat_tests}
use Rattle.desk_base.specs.Day.{is_day}
use Rattle.desk_base.specs.Limits as most
use Rattle.desk_model.specs.Lists.{or_else}
use Rattle.desk_model.specs.Readings.{Readings}
use Rattle.desk_model.specs.Tables.{Tables}
use Rattle.desk_model.specs.History.{attached_to}
use Rattle.desk_model.specs.Raised.{rule_adopted}
use Rattle.desk_model.specs.Answers.{first_refusal, first_unadopted, first_unruled, package_fault}
use Rattle.desk_model.specs.Answers.{refused_first, refused_or, unadopted, unchosen, unconcluded}
use Rattle.desk_model.specs.Answers.{unless, unready, walk}
use Rattle.desk_model.specs.declared.command.Answer.{Answer}
use Rattle.desk_model.specs.declared.command.Answer.TheVariants.{Frozen, Refused}
use Rattle.desk_model.specs.declared.command.Command.TheVariants.{Freeze}
use Rattle.desk_model.specs.declared.reading.Conclusion.{Conclusion}
use Rattle.desk_model.specs.declared.reading.Rule.{Rule}
use Rattle.desk_model.specs.declared.refusal.Limit.TheVariants.{Duties}
use Rattle.desk_model.specs.declared.refusal.Refusal.{Refusal}
use Rattle.desk_model.specs.declared.refusal.Refusal.TheVariants as why
use Rattle.desk_model.specs.declared.row.AdoptionRow.{AdoptionRow}
use Rattle.desk_model.specs.declared.row.PackageRow.{PackageRow}
use Rattle.desk_history.specs.FromTables.{answer_from, choice_found, conclusion_found, form_found}
use Rattle.desk_history.specs.FromTables.{owed_found, refusals_found, rules_found, shipped_found}
use Rattle.desk_history.specs.FromTables.{state_found}
use Rattle.desk_model.specs.Obstacles.{alone_or, applying, is_told, package_refusals, term_refusals}
use Rattle.desk_model.specs.Obstacles.{told_once, unruled_alone}
use Rattle.desk_wanting.specs.Obstacles.{wanting_found}

abbrev first : List Refusal → Option Refusal
first [] = None
first (x ∷ xs) = Some x

first-append : (xs ys : List Refusal) → first (xs ++ ys) ≡ or_else (first xs) (first ys)
first-append [] ys = refl
first-append (x ∷ xs) ys = refl

first_cons : (o : Option Refusal) (xs : List Refusal) (rest : Option Refusal) → first xs ≡ rest
    → first (cons_option o xs) ≡ or_else o rest
first_cons None xs rest e = e
first_cons (Some x) xs rest e = refl

first-filter_map : {A : Type 0} (f : A → Option Refusal) (xs : List A)
    → first (filter_map f xs) ≡ first_refusal (map f xs)
first-filter_map f [] = refl
first-filter_map f (x ∷ xs) = first_cons (f x) (filter_map f xs) (first_refusal (map f xs))
    (first-filter_map f xs)

-- Terms

-- if all references are adopted, each term without a rule is refused as one
module _ (mark : List ℕ → Option Refusal) (has : List ℕ → Bool) (no : List ℕ → Refusal) where
  abbrev alone : List ℕ → Option Refusal
  alone term = unless (has term || is_some (mark term)) (no term)

  abbrev bare : List ℕ → Option Refusal
  bare term = unless (has term) (no term)

  unmarked : (b : Bool) (o : Option Refusal) (x : Refusal) → o ≡ None
      → unless (b || is_some o) x ≡ unless b x
  unmarked true o x e = refl
  unmarked false None x e = refl
  unmarked false (Some y) x e = absurd (cc)

  none_first : (o rest : Option Refusal) → or_else o rest ≡ None → o ≡ None
  none_first None rest e = refl
  none_first (Some x) rest e = absurd (cc)

  none_after : (o rest : Option Refusal) → or_else o rest ≡ None → rest ≡ None
  none_after None rest e = e
  none_after (Some x) rest e = absurd (cc)

  unruled-alone : (terms : List (List ℕ)) → first_refusal (map mark terms) ≡ None
      → first_refusal (map alone terms) ≡ first_refusal (map bare terms)
  unruled-alone [] none = refl
  unruled-alone (term ∷ terms) none =
      ap (λ o. or_else o (first_refusal (map alone terms)))
      (unmarked (has term) (mark term) (no term)
      (none_first (mark term) (first_refusal (map mark terms)) none))
      ∙ ap (λ o. or_else (bare term) o)
      (unruled-alone terms (none_after (mark term) (first_refusal (map mark terms)) none))

nothing_else : (o : Option Refusal) → o ≡ or_else o None
nothing_else None = refl
nothing_else (Some x) = refl

either : (a b b' : Option Refusal) → (a ≡ None → b ≡ b') → or_else a b ≡ or_else a (or_else b' None)
either None b b' e = e refl ∙ nothing_else b'
either (Some x) b b' e = refl

first-terms : (w : Readings) (licences : List AdoptionRow) (rules : List Rule) (form : List ℕ)
    (terms : List (List ℕ)) (p : PackageRow)
    → first (term_refusals w licences rules form terms p)
    ≡ or_else (first_unadopted w licences p.document terms)
    (or_else (first_unruled w licences rules form p terms) None)
first-terms w licences rules form terms p =
    let mark = unadopted w licences p.document in
    let other = unruled_alone w licences rules form p in
    first-append (filter_map mark terms) (filter_map other terms)
    ∙ (ap (λ o. or_else o (first (filter_map other terms))) (first-filter_map mark terms)
    ∙ (ap (λ o. or_else (first_refusal (map mark terms)) o) (first-filter_map other terms)
    ∙ either (first_refusal (map mark terms)) (first_refusal (map other terms))
    (first_unruled w licences rules form p terms)
    (λ none. unruled-alone mark (λ term. is_some
    (rule_adopted w licences rules form p.document term)) (λ term. why.NoRule p.document p.id term)
    terms none)))

-- Packages

two_first : (a b rest : Option Refusal) (xs : List Refusal) → first xs ≡ rest
    → first (applying (a ∷ b ∷ []) ++ xs) ≡ or_else a (or_else b rest)
two_first None None rest xs e = e
two_first None (Some y) rest xs e = refl
two_first (Some x) b rest xs e = refl

first-package : (w : Readings) (licences : List AdoptionRow) (rules : List Rule) (form : List ℕ)
    (conclusion : Option Conclusion) (terms : List (List ℕ)) (p : PackageRow)
    → first (package_refusals w licences rules form conclusion terms p)
    ≡ package_fault w licences rules form conclusion terms p
first-package w licences rules form conclusion terms p =
    two_first (unconcluded conclusion p) (unchosen p terms) _
    (term_refusals w licences rules form terms p) (first-terms w licences rules form terms p)

first-packages : (f : PackageRow → List Refusal) (g : PackageRow → Option Refusal)
    → ((p : PackageRow) → first (f p) ≡ g p) → (ps : List PackageRow)
    → first (flat_map f ps) ≡ first_refusal (map g ps)
first-packages f g same [] = refl
first-packages f g same (p ∷ ps) =
    first-append (f p) (flat_map f ps)
    ∙ (ap (λ o. or_else o (first (flat_map f ps))) (same p)
    ∙ ap (λ o. or_else (g p) o) (first-packages f g same ps))

untold : (x : Refusal) → is_told [] x ≡ false
untold (why.NotAdopted d reference) = refl
untold _ = refl

first-told : (xs : List Refusal) → first (told_once [] xs) ≡ first xs
first-told [] = refl
first-told (x ∷ xs) = rw (untold x) refl

first-walk : (w : Readings) (t : Tables) (r form : List ℕ) (ps : List PackageRow)
    → first (told_once [] (flat_map (refusals_found w t r form) ps))
    ≡ walk w t.adoption (rules_found t) form (conclusion_found w t) (choice_found t r) ps
first-walk w t r form ps =
    first-told (flat_map (refusals_found w t r form) ps)
    ∙ first-packages (refusals_found w t r form)
    (λ p. package_fault w t.adoption (rules_found t) form (conclusion_found w t p)
    (choice_found t r p) p)
    (λ p. first-package w t.adoption (rules_found t) form (conclusion_found w t p)
    (choice_found t r p) p) ps

-- Releases: a and b are refusals of any release, c is that of one without documents, d is what the
-- walk finds

module _ (a b c : Option Refusal) (full : Option Refusal) (frozen : Answer) where
  abbrev listed : List Refusal → List Refusal
  listed xs = alone_or (first_refusal (a ∷ b ∷ [])) (alone_or c xs)

  abbrev answered : Option Refusal → Answer
  answered d = refused_first (a ∷ b ∷ c ∷ d ∷ full ∷ []) frozen

some_refused : (a b c full : Option Refusal) (frozen : Answer) (xs : List Refusal) (x : Refusal)
    (others : List Refusal)
    → listed a b c full frozen xs ≡ x ∷ others → answered a b c full frozen (first xs) ≡ Refused x
some_refused None None None full frozen [] x others e = absurd (cc)
some_refused None None None full frozen (y ∷ ys) x others e = cc
some_refused None None (Some y) full frozen xs x others e = cc
some_refused None (Some y) c full frozen xs x others e = cc
some_refused (Some y) b c full frozen xs x others e = cc

none_refused : (a b c full : Option Refusal) (frozen : Answer) (xs : List Refusal)
    → listed a b c full frozen xs ≡ []
    → answered a b c full frozen (first xs) ≡ refused_or full frozen
none_refused None None None full frozen [] e = refl
none_refused None None None full frozen (y ∷ ys) e = absurd (cc)
none_refused None None (Some y) full frozen xs e = absurd (cc)
none_refused None (Some y) c full frozen xs e = absurd (cc)
none_refused (Some y) b c full frozen xs e = absurd (cc)

-- if a freeze is accepted, there is no refusal
accepted_none : (a b c full day : Option Refusal) (n k m j : ℕ) (xs : List Refusal)
    → refused_or day (answered a b c full (Frozen n k) (first xs)) ≡ Frozen m j
    → listed a b c full (Frozen n k) xs ≡ []
accepted_none None None None full None n k m j [] e = refl
accepted_none None None None full None n k m j (y ∷ ys) e = absurd (cc)
accepted_none None None (Some y) full None n k m j xs e = absurd (cc)
accepted_none None (Some y) c full None n k m j xs e = absurd (cc)
accepted_none (Some y) b c full None n k m j xs e = absurd (cc)
accepted_none a b c full (Some z) n k m j xs e = absurd (cc)

-- Freezes over tables

module _ (w : Readings) (t : Tables) (r : List ℕ) where
  abbrev unknown : Option Refusal
  unknown = unless (is_some (state_found t r)) why.UnknownRelease

  abbrev shut : Option Refusal
  shut = option_and_then unready (state_found t r)

  abbrev empty : Option Refusal
  empty = unless (nat_lt 0 (length (attached_to t.attached r))) why.EmptyRelease

  abbrev full : Option Refusal
  full = unless (nat_le (length t.duty + length (owed_found w t r)) most.duties) (why.Full Duties)

  abbrev frozen : Answer
  frozen = Frozen (length t.duty + 1) (length (owed_found w t r))

  abbrev found : List Refusal
  found = told_once [] (flat_map (refusals_found w t r (form_found t r)) (shipped_found t r))

  freeze-found : (day : List ℕ)
      → answer_from w t (Freeze r day)
      ≡ refused_or (unless (is_day day) why.BadDay)
      (answered unknown shut empty full frozen (first found))
  freeze-found day =
      ap (λ d. refused_or (unless (is_day day) why.BadDay)
      (answered unknown shut empty full frozen d))
      (sym (first-walk w t r (form_found t r) (shipped_found t r)))

  on_a_day : (day : List ℕ) → is_day day ≡ true
      → answer_from w t (Freeze r day) ≡ answered unknown shut empty full frozen (first found)
  on_a_day day is = freeze-found day
      ∙ ap (λ b. refused_or (unless b why.BadDay)
      (answered unknown shut empty full frozen (first found))) is

  pub freeze_refused : (day : List ℕ) (x : Refusal) (others : List Refusal) → is_day day ≡ true
      → wanting_found w t r ≡ x ∷ others → answer_from w t (Freeze r day) ≡ Refused x
  freeze_refused day x others is e = on_a_day day is
      ∙ some_refused unknown shut empty full frozen found x others e

  fitting : (day : List ℕ) → is_day day ≡ true → wanting_found w t r ≡ []
      → answer_from w t (Freeze r day) ≡ refused_or full frozen
  fitting day is e = on_a_day day is ∙ none_refused unknown shut empty full frozen found e

  pub freeze_accepted : (day : List ℕ) → is_day day ≡ true → wanting_found w t r ≡ []
      → length t.duty + length (owed_found w t r) ≤ most.duties
      → answer_from w t (Freeze r day) ≡ frozen
  freeze_accepted day is e fits =
      let so : nat_le (length t.duty + length (owed_found w t r)) most.duties ≡ true =
      grind (arith, nat_tests) in
      fitting day is e ∙ ap (λ b. refused_or (unless b (why.Full Duties)) frozen) so

  pub freeze_full : (day : List ℕ) → is_day day ≡ true → wanting_found w t r ≡ []
      → most.duties < length t.duty + length (owed_found w t r)
      → answer_from w t (Freeze r day) ≡ Refused (why.Full Duties)
  freeze_full day is e over =
      let so : nat_le (length t.duty + length (owed_found w t r)) most.duties ≡ false =
      grind (arith, nat_tests) in
      fitting day is e ∙ ap (λ b. refused_or (unless b (why.Full Duties)) frozen) so

  pub freeze_only : (day : List ℕ) (m j : ℕ) → answer_from w t (Freeze r day) ≡ Frozen m j
      → wanting_found w t r ≡ []
  freeze_only day m j e =
      accepted_none unknown shut empty full (unless (is_day day) why.BadDay) (length t.duty + 1)
      (length (owed_found w t r)) m j found (sym (freeze-found day) ∙ e)
