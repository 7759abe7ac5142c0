-- What is held for a package is a minimal set for its conclusion now, and what a release was frozen
-- with was one at its freeze.
use Rattle.std.proofs.Common.{◌≡◌, ℕ, ◌+◌, Bool, true, false, List, [], ◌∷◌, ◌++◌, length, map}
use Rattle.std.proofs.Common.{Option, Some, None, sym, refl, ap, ◌∙◌, subst, inl, inr}
use Rattle.std.specs.Prelude.{find, is_some, IsTrue, if◌then◌else◌, unwrap_or}
use Rattle.std.specs.List.{filter_map}
use Rattle.std.specs.Option.{option_or}
use Rattle.std.specs.Result.{result_ok}
use Rattle.std.proofs.lemmas.List.Folds.{find-append}
use Rattle.desk_model.specs.Lists.{latest, or_else, IsIn}
use Rattle.std.specs.Str.{bytes_eq}
use Rattle.desk_model.specs.Readings.{Readings}
use Rattle.desk_model.specs.Keys.{is_document, is_package, is_conclusion}
use Rattle.desk_model.specs.Conclusions.{conclusion_row, text_given}
use Rattle.desk_history.proofs.Concluding.{key_number, key_text}
use Rattle.desk_history.proofs.Holding.{conclusion_stays, unheld}
use Rattle.desk_model.specs.History.{choice, documents, namespace_in}
use Rattle.desk_model.specs.History.{package_row, packages, packages_in, is_package_of}
use Rattle.desk_model.specs.History.{term_set, terms_given}
use Rattle.desk_model.specs.Raised.{frozen, frozen_at, frozen_term, frozen_under}
use Rattle.desk_model.specs.Answers.{answer, is_recorded, IsHistory}
use Rattle.desk_history.specs.Laws.{IsFrozenTerm, IsHeldMinimal}
use Rattle.desk_history.proofs.Freezes.{AtFreeze, at_earlier, at_once, for_term}
use Rattle.desk_history.proofs.Members.{in_cases}
use Rattle.desk_history.proofs.Chosen.{same_package}
use Rattle.desk_history.proofs.Minimal.{history_before, recorded_is_minimal}
use Rattle.desk_model.specs.declared.row.DocumentRow.{DocumentRow}
use Rattle.desk_model.specs.declared.row.FrozenRow.{FrozenRow}
use Rattle.desk_model.specs.declared.row.PackageRow.{PackageRow}
use Rattle.desk_model.specs.declared.command.Command.{Command}
use Rattle.desk_model.specs.declared.command.Command.TheVariants.{Import, Choose, Unchoose, Freeze, Withdraw, Conclude}

-- what is found is still found when more comes after it
found_before : {A : Type 0} (test : A → Bool) (xs ys : List A) (x : A) → find test xs ≡ Some x
    → find test (xs ++ ys) ≡ Some x
found_before test xs ys x e = find-append test xs ys ∙ ap (λ o. option_or o (find test ys)) e

pub document_stays : (w : Readings) (c : Command) (h : List Command) (d : ℕ) (row : DocumentRow)
    → find (is_document d) (documents w h) ≡ Some row
    → find (is_document d) (documents w (c ∷ h)) ≡ Some row
document_stays w (Import bytes profile) h d row e =
    found_before (is_document d) (documents w h)
    (record {
      number = length (documents w h) + 1;
      namespace = namespace_in (result_ok (w.document bytes));
      bytes = bytes;
      profile = profile;
    } ∷ []) row e
document_stays w c h d row e = e

pub package_stays : (w : Readings) (c : Command) (h : List Command) (d : ℕ) (p : List ℕ)
    (row : PackageRow) → find (is_package d p) (packages w h) ≡ Some row
    → find (is_package d p) (packages w (c ∷ h)) ≡ Some row
package_stays w (Import bytes profile) h d p row e =
    found_before (is_package d p) (packages w h)
    (map (package_row (length (documents w h) + 1)) (packages_in (result_ok (w.document bytes))))
    row e
package_stays w c h d p row e = e

held_later : (w : Readings) (c : Command) (h : List Command) (d : ℕ) (p : List ℕ)
    (terms : List (List ℕ)) → is_some (text_given d p c) ≡ false → IsHeldMinimal w h d p terms
    → IsHeldMinimal w (c ∷ h) d p terms
held_later w c h d p terms silent is = record {
  document = is.document;
  row = is.row;
  concluded = is.concluded;
  listed = is.listed;
  of = document_stays w c h d is.document is.of;
  has = package_stays w c h d p is.row is.has;
  concludes = conclusion_stays w c h d p is.document is.row is.of
      (document_stays w c h d is.document is.of) is.has silent ∙ is.concludes;
  set = is.set;
  minimal = is.minimal;
}

-- one more choice
held_step : (w : Readings) (h : List Command) (r p r' p' : List ℕ) (d d' : ℕ)
    (texts terms : List (List ℕ)) (b : Bool) → is_package_of r d p r' d' p' ≡ b
    → IsTrue (is_recorded (answer w h (Choose r' d' p' texts)))
    → (latest (terms_given w r d p) h ≡ Some terms → IsHeldMinimal w h d p terms)
    → or_else (if b then Some (term_set w texts) else None) (latest (terms_given w r d p) h)
    ≡ Some terms → IsHeldMinimal w (Choose r' d' p' texts ∷ h) d p terms
held_step w h r p r' p' d d' texts terms true same recorded before e =
    let key = same_package r p r' p' d d' same in
    let is = recorded_is_minimal w h r' d' p' texts recorded in
    record {
      document = is.document;
      row = is.row;
      concluded = is.concluded;
      listed = filter_map w.term texts;
      of = subst (λ (n : ℕ). find (is_document n) (documents w h) ≡ Some is.document) key.document
          is.of;
      has = subst (λ (n : ℕ). find (is_package n p) (packages w h) ≡ Some is.row) key.document
          (subst (λ (q : List ℕ). find (is_package d' q) (packages w h) ≡ Some is.row)
          key.package_id is.has);
      concludes = is.concludes;
      set = sym (inner (term_set w texts) terms e);
      minimal = is.minimal;
    }
  where
    inner : (x y : List (List ℕ)) → Some x ≡ Some y → x ≡ y
    inner x y e = cc
held_step w h r p r' p' d d' texts terms false same recorded before e = held_later w
    (Choose r' d' p' texts) h d p terms refl (before e)

-- no choice is left
none_held : (terms : List (List ℕ)) → Some [] ≡ Some terms → terms ≡ []
none_held [] e = refl
none_held (t ∷ ts) e = cc

dropped : (w : Readings) (c : Command) (h : List Command) (d : ℕ) (p : List ℕ)
    (terms : List (List ℕ)) → is_some (text_given d p c) ≡ false
    → (b : Bool) (o : Option (List (List ℕ))) → (o ≡ Some terms → IsHeldMinimal w h d p terms)
    → or_else (if b then Some [] else None) o ≡ Some terms → (terms ≡ [] → ⊥)
    → IsHeldMinimal w (c ∷ h) d p terms
dropped w c h d p terms silent true o before e some = absurd (some (none_held terms e))
dropped w c h d p terms silent false o before e some = held_later w c h d p terms silent (before e)

-- a conclusion for another package; for this one none is recorded
held_past : (w : Readings) (h : List Command) (r p p' text : List ℕ) (d d' : ℕ)
    (terms : List (List ℕ)) (b : Bool) → is_conclusion d p (conclusion_row d' p' text) ≡ b
    → IsHistory w (Conclude d' p' text ∷ h)
    → latest (terms_given w r d p) h ≡ Some terms → (terms ≡ [] → ⊥) → IsHeldMinimal w h d p terms
    → IsHeldMinimal w (Conclude d' p' text ∷ h) d p terms
held_past w h r p p' text d d' terms false other ok e some is = held_later w (Conclude d' p' text) h
    d p terms (ap (λ b. is_some (if b then Some text else None)) other) is
held_past w h r p p' text d d' [] true same ok e some is = absurd (some refl)
held_past w h r p p' text d d' (t ∷ ts) true same ok e some is =
    let held : choice w h r d p ≡ t ∷ ts = ap (λ o. unwrap_or o []) e in
    let there : choice w h r d' p' ≡ t ∷ ts =
    subst (λ n. choice w h r n p' ≡ t ∷ ts) (sym (key_number d d' p p' same))
    (subst (λ q. choice w h r d q ≡ t ∷ ts) (sym (key_text d d' p p' same)) held) in
    absurd (unheld w h d' p' text r t ts ok.1 ok.0 there)

-- the last terms that were chosen
pub held_is_minimal : (w : Readings) (h : List Command) (r : List ℕ) (d : ℕ) (p : List ℕ)
    (terms : List (List ℕ)) → IsHistory w h → latest (terms_given w r d p) h ≡ Some terms
    → (terms ≡ [] → ⊥) → IsHeldMinimal w h d p terms
held_is_minimal w [] r d p terms ok e some = cc
held_is_minimal w (Choose r' d' p' texts ∷ h) r d p terms ok e some =
    held_step w h r p r' p' d d' texts terms (is_package_of r d p r' d' p') refl ok.0
    (λ before. held_is_minimal w h r d p terms ok.1 before some) e
held_is_minimal w (Unchoose r' d' p' ∷ h) r d p terms ok e some =
    dropped w (Unchoose r' d' p') h d p terms refl (is_package_of r d p r' d' p')
    (latest (terms_given w r d p) h) (λ before. held_is_minimal w h r d p terms ok.1 before some) e
    some
held_is_minimal w (Withdraw r' day text ∷ h) r d p terms ok e some =
    dropped w (Withdraw r' day text) h d p terms refl (bytes_eq r' r)
    (latest (terms_given w r d p) h) (λ before. held_is_minimal w h r d p terms ok.1 before some) e
    some
held_is_minimal w (Conclude d' p' text ∷ h) r d p terms ok e some =
    held_past w h r p p' text d d' terms (is_conclusion d p (conclusion_row d' p' text)) refl ok e
    some (held_is_minimal w h r d p terms ok.1 e some)
held_is_minimal w (c ∷ h) r d p terms ok e some = held_later w c h d p terms refl
    (held_is_minimal w h r d p terms ok.1 e some)

choice_by : (w : Readings) (h : List Command) (d : ℕ) (p : List ℕ) (o : Option (List (List ℕ)))
    → ((terms : List (List ℕ)) → o ≡ Some terms → (terms ≡ [] → ⊥) → IsHeldMinimal w h d p terms)
    → (unwrap_or o [] ≡ [] → ⊥) → IsHeldMinimal w h d p (unwrap_or o [])
choice_by w h d p None held some = absurd (some refl)
choice_by w h d p (Some terms) held some = held terms refl some

pub choice_is_minimal : (w : Readings) (h : List Command) (r : List ℕ) (d : ℕ) (p : List ℕ)
    → IsHistory w h → (choice w h r d p ≡ [] → ⊥) → IsHeldMinimal w h d p (choice w h r d p)
choice_is_minimal w h r d p ok some = choice_by w h d p (latest (terms_given w r d p) h)
    (λ terms e found. held_is_minimal w h r d p terms ok e found) some

-- Frozen terms

frozen_from : (w : Readings) (h : List Command) (f : FrozenRow) → IsIn f (frozen w h)
    → AtFreeze h (λ before r. IsIn f (frozen_at w before r))
frozen_from w [] f m = absurd m
frozen_from w (Freeze r day ∷ h) f m = elim (in_cases f (frozen_at w h r) (frozen w h) m) [
  | inl n ↦ at_once h r day n
  | inr l ↦ at_earlier (Freeze r day) h (frozen_from w h f l)
]
frozen_from w (c ∷ h) f m = at_earlier c h (frozen_from w h f m)

pub frozen_in : (w : Readings) (h : List Command) (f : FrozenRow) → IsIn f (frozen w h)
    → IsFrozenTerm w h f
frozen_in w h f m =
    let at = frozen_from w h f m in
    let term = for_term w at.before at.release (frozen_under at.release) f (λ p term. refl) at.is in
    let only = from_one (frozen_term at.release term.row term.term term.rule) f term.is in
    subst (IsFrozenTerm w h) only (record {
      later = at.later;
      before = at.before;
      day = at.day;
      row = term.row;
      rule = term.rule;
      split = at.split;
      ships = term.ships;
      document = refl;
      package_id = refl;
      chosen = term.chosen;
      ruled = term.ruled;
      spelled = refl;
    })
  where
    from_one : (x f : FrozenRow) → IsIn f (x ∷ []) → x ≡ f
    from_one x f m = elim m [ inl is ↦ is | inr none ↦ absurd none ]

-- the terms that a release was frozen with were held then, so they were a minimal set
some_in : (x : List ℕ) (xs : List (List ℕ)) → IsIn x xs → xs ≡ [] → ⊥
some_in x [] m e = m
some_in x (y ∷ ys) m e = cc

pub frozen_was_minimal : (w : Readings) (h : List Command) (f : FrozenRow) → IsHistory w h
    → (is : IsFrozenTerm w h f)
    → IsHeldMinimal w is.before is.row.document is.row.id
    (choice w is.before f.release is.row.document is.row.id)
frozen_was_minimal w h f ok is =
    let at : IsHistory w (Freeze f.release is.day ∷ is.before) =
    history_before w is.later (Freeze f.release is.day ∷ is.before)
    (subst (IsHistory w) is.split ok) in
    choice_is_minimal w is.before f.release is.row.document is.row.id at.1
    (λ none. some_in f.term (choice w is.before f.release is.row.document is.row.id) is.chosen none)
