-- Texts in the order of first use: one more text comes last if it isn't among those before; and a
-- set of keys shows whether it is.
use Rattle.std.proofs.Common.{◌≡◌, ◌∙◌, ℕ, ◌+◌, ◌==◌, Bool, true, false, cond, List, [], ◌∷◌, ◌++◌}
use Rattle.std.proofs.Common.{sym, ap, refl, nat_cmp, arith}
use Rattle.std.specs.Prelude.{◌||◌, ◌&&◌, not, filter, if◌then◌else◌}
use Rattle.std.specs.List.{list_any}
use Rattle.std.specs.Ordering.{is_eq}
use Rattle.std.specs.Cmp.{unsigned_tied}
use Rattle.std.specs.Cmp.Lexicographic.{slice_cmp}
use Rattle.std.specs.Str.{bytes_eq}
use Rattle.std.specs.BTreeSet.{BTreeSet, contains_by, Updates}
use Rattle.std.proofs.lemmas.Bool.{false≢true}
use Rattle.std.proofs.lemmas.Bool.Decides.{nat_tests}
use Rattle.std.proofs.lemmas.List.{append-nil}
use Rattle.std.proofs.lemmas.Slice.Eq.{bytes_eq-Decides}
use Rattle.std.proofs.lemmas.Map.Text.{is_eq-slice_cmp}
use Rattle.std.proofs.lemmas.List.Elements.{filter-append}
use Rattle.std.proofs.lemmas.List.Folds.{list_any-append}
use Rattle.desk_base.proofs.Texts.{texts_turned}
use Rattle.desk_base.proofs.Numbers.{equal_turned, same_number}
use Rattle.desk_base.proofs.Orders.{either_equal}
use Rattle.desk_base.proofs.Bools.{cond_or_turned}
use Rattle.desk_model.specs.Bills.{first_uses, is_same_text}
use Rattle.desk_model.specs.declared.bill.TextOf.{TextOf}
use Rattle.desk_model.specs.declared.bill.TextOf.TheVariants.{Licence, Reference}
use Rattle.desk_bills.specs.Billing.{HasTexts, key_order, text_key}
use Rattle.desk_bills.specs.declared.texts.TextKey.{TextKey}

-- Either side

-- Keys

key_equal : (a b : TextKey) → is_eq (key_order a b)
    ≡ ((a.document == b.document) && bytes_eq a.name b.name)
key_equal a b =
    either_equal (nat_cmp a.document b.document) (slice_cmp nat_cmp a.name b.name)
    ∙ (λ i. unsigned_tied a.document b.document i && is_eq-slice_cmp a.name b.name i)

next_same : (d e : ℕ) → (d + 1 == e + 1) ≡ (d == e)
next_same d e = grind (arith, nat_tests)

next_other : (d : ℕ) → (0 == d + 1) ≡ false
next_other d = grind (arith, nat_tests)

other_next : (d : ℕ) → (d + 1 == 0) ≡ false
other_next d = grind (arith, nat_tests)

-- texts are the same if their keys are
pub same_key : (a b : TextOf) → is_eq (key_order (text_key a) (text_key b)) ≡ is_same_text a b
same_key (Licence id) (Licence other) = key_equal (text_key (Licence id)) (text_key (Licence other))
same_key (Licence id) (Reference e other) =
    key_equal (text_key (Licence id)) (text_key (Reference e other))
    ∙ ap (λ b. b && bytes_eq id other) (next_other e)
same_key (Reference d reference) (Licence other) =
    key_equal (text_key (Reference d reference)) (text_key (Licence other))
    ∙ ap (λ b. b && bytes_eq reference other) (other_next d)
same_key (Reference d reference) (Reference e other) =
    key_equal (text_key (Reference d reference)) (text_key (Reference e other))
    ∙ ap (λ b. b && bytes_eq reference other) (next_same d e)

pub same_itself : (a : TextOf) → is_same_text a a ≡ true
same_itself (Licence id) = (bytes_eq-Decides id id).1 refl
same_itself (Reference d reference) = λ i. same_number d i
    && (bytes_eq-Decides reference reference).1 refl i

flipped : (a b : TextOf) → is_same_text a b ≡ is_same_text b a
flipped (Licence id) (Licence other) = texts_turned id other
flipped (Licence id) (Reference e other) = refl
flipped (Reference d reference) (Licence other) = refl
flipped (Reference d reference) (Reference e other) = λ i. equal_turned d e i
    && texts_turned reference other i

-- One more text

added : (x : TextOf) (xs : List TextOf) (y : TextOf) (b : Bool) → list_any (is_same_text x) xs ≡ b
    → y ∷ filter (λ other. not (is_same_text y other))
    (if b then first_uses xs else first_uses xs ++ x ∷ [])
    ≡ (if is_same_text x y || b then first_uses (y ∷ xs) else first_uses (y ∷ xs) ++ x ∷ [])
added x xs y true e = at_true (is_same_text x y)
  where
    at_true : (c : Bool) → first_uses (y ∷ xs)
        ≡ (if c || true then first_uses (y ∷ xs) else first_uses (y ∷ xs) ++ x ∷ [])
    at_true true = refl
    at_true false = refl
added x xs y false e =
    ap (λ l. y ∷ l) (filter-append (λ other. not (is_same_text y other)) (first_uses xs) (x ∷ []))
    ∙ at_false (is_same_text x y) (flipped y x)
  where
    kept : List TextOf
    kept = filter (λ other. not (is_same_text y other)) (first_uses xs)

    at_false : (c : Bool) → is_same_text y x ≡ c
        → y ∷ (kept ++ filter (λ other. not (is_same_text y other)) (x ∷ []))
        ≡ (if c || false then y ∷ kept else y ∷ (kept ++ x ∷ []))
    at_false true is = ap (λ b. y ∷ (kept ++ cond (not b) (x ∷ []) [])) is
        ∙ ap (λ l. y ∷ l) (append-nil kept)
    at_false false is = ap (λ b. y ∷ (kept ++ cond (not b) (x ∷ []) [])) is

pub first_uses-append : (xs : List TextOf) (x : TextOf)
    → first_uses (xs ++ x ∷ []) ≡ (if list_any (is_same_text x) xs then first_uses xs
    else first_uses xs ++ x ∷ [])
first_uses-append [] x = refl
first_uses-append (y ∷ xs) x =
    ap (λ l. y ∷ filter (λ other. not (is_same_text y other)) l) (first_uses-append xs x)
    ∙ added x xs y (list_any (is_same_text x) xs) refl

-- Sets

none_more : (b : Bool) → b ≡ (b || false)
none_more true = refl
none_more false = refl

any_key : (x : TextOf) (xs : List TextOf)
    → list_any (λ text. is_eq (key_order (text_key x) (text_key text))) xs
    ≡ list_any (is_same_text x) xs
any_key x [] = refl
any_key x (y ∷ xs) = λ i. same_key x y i || any_key x xs i

turned : (a b : TextKey) → is_eq (key_order a b) ≡ is_eq (key_order b a)
turned a b = key_equal a b ∙ (λ i. equal_turned a.document b.document i
    && texts_turned a.name b.name i) ∙ sym (key_equal b a)

-- a text is new if none before is the same
pub is_new : (xs : List TextOf) (seen : BTreeSet TextKey) (x : TextOf) (key : TextKey) (told : Bool)
    → key ≡ text_key x → HasTexts xs seen
    → told ≡ not (contains_by (key_order key) seen) → told ≡ not (list_any (is_same_text x) xs)
is_new xs seen x key told is has e =
    e ∙ ap (λ k. not (contains_by (key_order k) seen)) is ∙ ap not (has (text_key x) ∙ any_key x xs)

-- one more text
pub texts_more : (xs : List TextOf) (x : TextOf) (old new : BTreeSet TextKey) (key : TextKey)
    → key ≡ text_key x → Updates key_order old new key true
    → HasTexts xs old → HasTexts (xs ++ x ∷ []) new
texts_more xs x old new key is h has = λ q.
    h.0 q
    ∙ (λ i. cond (turned key q i) true (has q i))
    ∙ cond_or_turned (is_eq (key_order q key))
    (list_any (λ text. is_eq (key_order q (text_key text))) xs)
    ∙ ap (λ k. list_any (λ text. is_eq (key_order q (text_key text))) xs || is_eq (key_order q k))
    is
    ∙ ap (λ b. list_any (λ text. is_eq (key_order q (text_key text))) xs || b)
    (none_more (is_eq (key_order q (text_key x))))
    ∙ sym (list_any-append (λ text. is_eq (key_order q (text_key text))) xs (x ∷ []))

-- What is kept after one more text: if it is new, that text too, or else what was kept
kept_new : (b : Bool) (xs : List TextOf) (x : TextOf) → not b ≡ true
    → (if b then first_uses xs else first_uses xs ++ x ∷ []) ≡ first_uses xs ++ x ∷ []
kept_new true xs x e = absurd (false≢true e)
kept_new false xs x e = refl

kept_old : (b : Bool) (xs : List TextOf) (x : TextOf) → not b ≡ false
    → (if b then first_uses xs else first_uses xs ++ x ∷ []) ≡ first_uses xs
kept_old true xs x e = refl
kept_old false xs x e = absurd (false≢true (sym e))

pub uses_more : (xs uses next : List TextOf) (x : TextOf) (told : Bool)
    → told ≡ not (list_any (is_same_text x) xs) → uses ≡ first_uses xs → told ≡ true
    → next ≡ uses ++ x ∷ [] → next ≡ first_uses (xs ++ x ∷ [])
uses_more xs uses next x told is kept e put =
    put ∙ ap (λ l. l ++ x ∷ []) kept
    ∙ sym (first_uses-append xs x ∙ kept_new (list_any (is_same_text x) xs) xs x (sym is ∙ e))

pub uses_same : (xs uses : List TextOf) (x : TextOf) (told : Bool)
    → told ≡ not (list_any (is_same_text x) xs) → uses ≡ first_uses xs → told ≡ false
    → uses ≡ first_uses (xs ++ x ∷ [])
uses_same xs uses x told is kept e =
    kept ∙ sym (first_uses-append xs x ∙ kept_old (list_any (is_same_text x) xs) xs x (sym is ∙ e))

-- a text that comes for the first time, and one that came before
module _ (xs uses : List TextOf) (x : TextOf) (old new : BTreeSet TextKey) (key : TextKey)
    (told : Bool) (is : key ≡ text_key x) (has : HasTexts xs old)
    (asks : told ≡ not (contains_by (key_order key) old))
    (adds : Updates key_order old new key true) (kept : uses ≡ first_uses xs) where
  pub first_use : (next : List TextOf) → told ≡ true → next ≡ uses ++ x ∷ []
      → (next ≡ first_uses (xs ++ x ∷ [])) × HasTexts (xs ++ x ∷ []) new
  first_use next e put = (
    uses_more xs uses next x told (is_new xs old x key told is has asks) kept e put,
    texts_more xs x old new key is adds has,
  )

  pub later_use : told ≡ false → (uses ≡ first_uses (xs ++ x ∷ [])) × HasTexts (xs ++ x ∷ []) new
  later_use e = (
    uses_same xs uses x told (is_new xs old x key told is has asks) kept e,
    texts_more xs x old new key is adds has,
  )
