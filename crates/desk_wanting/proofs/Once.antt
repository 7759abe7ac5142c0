-- A reference of a document is in the list at most once.
use Rattle.std.proofs.Common.{◌≡◌, ◌∙◌, ℕ, Bool, true, false, ◌≤◌, List, [], ◌∷◌, ◌++◌, length}
use Rattle.std.proofs.Common.{filter, Option, Some, None, sym, refl, ap, arith}
use Rattle.std.specs.Prelude.{◌||◌, is_some, nat_lt}
use Rattle.std.specs.List.{list_any, flat_map}
use Rattle.std.specs.Option.{option_and_then}
use Rattle.std.proofs.lemmas.List.Folds.{list_any-append}
use Rattle.desk_model.specs.Readings.{Readings}
use Rattle.desk_model.specs.Tables.{Tables}
use Rattle.desk_model.specs.History.{attached_to}
use Rattle.desk_model.specs.Answers.{first_refusal, unless, unready}
use Rattle.desk_model.specs.declared.refusal.Refusal.{Refusal}
use Rattle.desk_model.specs.declared.refusal.Refusal.TheVariants as why
use Rattle.desk_history.specs.FromTables.{form_found, refusals_found, shipped_found, state_found}
use Rattle.desk_wanting.proofs.Against.{named}
use Rattle.desk_model.specs.Obstacles.{alone_or, is_told, names_reference, told_once}
use Rattle.desk_wanting.specs.Obstacles.{open_wanting, wanting_found}

module _ (d : ℕ) (reference : List ℕ) where
  abbrev names : Refusal → Bool
  names = names_reference d reference

  abbrev Once : List Refusal → Type 0
  Once xs = length (filter names xs) ≤ 1

  -- none, if it is already named
  record Counts (told xs : List Refusal) : Type 0 where
    pub none : list_any names told ≡ true → filter names (told_once told xs) ≡ []
    pub once : Once (told_once told xs)

  told_if_named : (told : List Refusal) (x : Refusal) → names x ≡ true
      → is_told told x ≡ list_any names told
  told_if_named told x e = ap (is_told told) (named d reference x e)

  with_last : (told : List Refusal) (x : Refusal) (b : Bool) → names x ≡ b
      → list_any names (told ++ x ∷ []) ≡ (list_any names told || b)
  with_last told x true e = list_any-append names told (x ∷ [])
      ∙ ap (λ b. list_any names told || (b || false)) e
  with_last told x false e = list_any-append names told (x ∷ [])
      ∙ ap (λ b. list_any names told || (b || false)) e

  or_true : (b : Bool) → (b || true) ≡ true
  or_true true = refl
  or_true false = refl

  or_false : (b : Bool) → (b || false) ≡ b
  or_false true = refl
  or_false false = refl

  next : (told : List Refusal) (x : Refusal) (xs : List Refusal) (again here : Bool)
      → is_told told x ≡ again → names x ≡ here
      → Counts told xs → Counts (told ++ x ∷ []) xs → Counts told (x ∷ xs)
  next told x xs true here e f old new = record {
    none = λ before. rw e (old.none before);
    once = rw e old.once;
  }
  next told x xs false true e f old new =
      let fresh : list_any names told ≡ false = sym (told_if_named told x f) ∙ e in
      let rest : filter names (told_once (told ++ x ∷ []) xs) ≡ [] =
      new.none (with_last told x true f ∙ or_true (list_any names told)) in
      record {
        none = λ before. absurd (cc);
        once = rw (e, f, rest) (omega arith);
      }
  next told x xs false false e f old new = record {
    none = λ before. rw (
      e,
      f,
    ) (new.none (with_last told x false f ∙ (or_false (list_any names told) ∙ before)));
    once = rw (e, f) new.once;
  }

  counts : (told xs : List Refusal) → Counts told xs
  counts told [] = record { none = λ before. refl; once = omega arith }
  counts told (x ∷ xs) = next told x xs (is_told told x) (names x) refl refl (counts told xs)
      (counts (told ++ x ∷ []) xs)

  one_once : (x : Refusal) (b : Bool) → names x ≡ b → Once (x ∷ [])
  one_once x true e = rw e (omega arith)
  one_once x false e = rw e (omega arith)

  alone_once : (o : Option Refusal) (xs : List Refusal) → Once xs → Once (alone_or o xs)
  alone_once None xs once = once
  alone_once (Some x) xs once = one_once x (names x) refl

pub listed_once : (w : Readings) (t : Tables) (r : List ℕ) (d : ℕ) (reference : List ℕ)
    → length (filter (names_reference d reference) (wanting_found w t r)) ≤ 1
listed_once w t r d reference =
    let unfit = first_refusal (unless (is_some (state_found t r)) why.UnknownRelease
    ∷ option_and_then unready (state_found t r) ∷ []) in
    let empty = unless (nat_lt 0 (length (attached_to t.attached r))) why.EmptyRelease in
    let found = flat_map (refusals_found w t r (form_found t r)) (shipped_found t r) in
    alone_once d reference unfit (open_wanting w t r (form_found t r))
    (alone_once d reference empty (told_once [] found) ((counts d reference [] found).once))
