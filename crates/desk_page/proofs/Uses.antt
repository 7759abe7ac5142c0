-- Texts in the order of first use: one more text goes to the end, if it isn't among them.
use Rattle.std.proofs.Common.{◌≡◌, ◌∙◌, ℕ, Bool, true, false, cond, List, [], ◌∷◌, ◌++◌, sym, ap}
use Rattle.std.proofs.Common.{refl}
use Rattle.std.specs.Prelude.{◌||◌, not, filter, if◌then◌else◌}
use Rattle.std.specs.List.{list_any}
use Rattle.std.specs.Str.{bytes_eq}
use Rattle.std.proofs.lemmas.Bool.{false≢true}
use Rattle.std.proofs.lemmas.List.{append-nil}
use Rattle.std.proofs.lemmas.List.Elements.{filter-append}
use Rattle.std.proofs.lemmas.Slice.Eq.{bytes_eq-Decides}
use Rattle.desk_page.specs.Rows.{first_uses}
use Rattle.desk_base.proofs.Texts.{texts_turned}

added : (x : List ℕ) (xs : List (List ℕ)) (y : List ℕ) (b : Bool)
    → y ∷ filter (λ other. not (bytes_eq y other))
    (if b then first_uses xs else first_uses xs ++ x ∷ [])
    ≡ (if bytes_eq x y || b then first_uses (y ∷ xs) else first_uses (y ∷ xs) ++ x ∷ [])
added x xs y true = at_true (bytes_eq x y)
  where
    at_true : (c : Bool) → first_uses (y ∷ xs)
        ≡ (if c || true then first_uses (y ∷ xs) else first_uses (y ∷ xs) ++ x ∷ [])
    at_true true = refl
    at_true false = refl
added x xs y false =
    ap (λ l. y ∷ l) (filter-append (λ other. not (bytes_eq y other)) (first_uses xs) (x ∷ []))
    ∙ at_false (bytes_eq x y) (texts_turned y x)
  where
    kept : List (List ℕ)
    kept = filter (λ other. not (bytes_eq y other)) (first_uses xs)

    at_false : (c : Bool) → bytes_eq y x ≡ c
        → y ∷ (kept ++ filter (λ other. not (bytes_eq y other)) (x ∷ []))
        ≡ (if c || false then y ∷ kept else y ∷ (kept ++ x ∷ []))
    at_false true is = ap (λ b. y ∷ (kept ++ cond (not b) (x ∷ []) [])) is
        ∙ ap (λ l. y ∷ l) (append-nil kept)
    at_false false is = ap (λ b. y ∷ (kept ++ cond (not b) (x ∷ []) [])) is

first_uses-append : (xs : List (List ℕ)) (x : List ℕ)
    → first_uses (xs ++ x ∷ []) ≡ (if list_any (bytes_eq x) xs then first_uses xs
    else first_uses xs ++ x ∷ [])
first_uses-append [] x = refl
first_uses-append (y ∷ xs) x =
    ap (λ l. y ∷ filter (λ other. not (bytes_eq y other)) l) (first_uses-append xs x)
    ∙ added x xs y (list_any (bytes_eq x) xs)

-- if x isn't y, it is among texts exactly if it is among those of them that aren't y
other_same : (x y z : List ℕ) → bytes_eq x y ≡ false → bytes_eq y z ≡ true → bytes_eq x z ≡ false
other_same x y z other same = ap (bytes_eq x) (sym ((bytes_eq-Decides y z).0 same)) ∙ other

any-filter : (x y : List ℕ) (texts : List (List ℕ)) → bytes_eq x y ≡ false
    → list_any (bytes_eq x) (filter (λ other. not (bytes_eq y other)) texts)
    ≡ list_any (bytes_eq x) texts
any-filter x y [] other = refl
any-filter x y (z ∷ texts) other = by_test (bytes_eq y z) refl (any-filter x y texts other)
  where
    kept : List (List ℕ)
    kept = filter (λ other. not (bytes_eq y other)) texts

    by_test : (b : Bool) → bytes_eq y z ≡ b
        → list_any (bytes_eq x) kept ≡ list_any (bytes_eq x) texts
        → list_any (bytes_eq x) (cond (not b) (z ∷ kept) kept)
        ≡ (bytes_eq x z || list_any (bytes_eq x) texts)
    by_test true same rest = rest
        ∙ sym (ap (λ b. b || list_any (bytes_eq x) texts) (other_same x y z other same))
    by_test false is rest = ap (λ b. bytes_eq x z || b) rest

any-first_uses : (x : List ℕ) (texts : List (List ℕ))
    → list_any (bytes_eq x) (first_uses texts) ≡ list_any (bytes_eq x) texts
any-first_uses x [] = refl
any-first_uses x (y ∷ texts) = by_test (bytes_eq x y) refl (any-first_uses x texts)
  where
    by_test : (b : Bool) → bytes_eq x y ≡ b
        → list_any (bytes_eq x) (first_uses texts) ≡ list_any (bytes_eq x) texts
        → (b || list_any (bytes_eq x) (filter (λ other. not (bytes_eq y other)) (first_uses texts)))
        ≡ (b || list_any (bytes_eq x) texts)
    by_test true same rest = refl
    by_test false other rest = any-filter x y (first_uses texts) other ∙ rest

chosen : (b : Bool) (xs : List (List ℕ)) (x : List ℕ) → b ≡ false
    → (if b then first_uses xs else first_uses xs ++ x ∷ []) ≡ first_uses xs ++ x ∷ []
chosen true xs x e = absurd (false≢true (sym e))
chosen false xs x e = refl

left : (b : Bool) (xs : List (List ℕ)) (x : List ℕ) → b ≡ true
    → (if b then first_uses xs else first_uses xs ++ x ∷ []) ≡ first_uses xs
left true xs x e = refl
left false xs x e = absurd (false≢true e)

-- a text that isn't among those found is added to them
pub uses_more : (xs found next : List (List ℕ)) (x : List ℕ) → found ≡ first_uses xs
    → list_any (bytes_eq x) found ≡ false
    → next ≡ found ++ x ∷ [] → next ≡ first_uses (xs ++ x ∷ [])
uses_more xs found next x is new put =
    put ∙ ap (λ l. l ++ x ∷ []) is
    ∙ sym (first_uses-append xs x
    ∙ chosen (list_any (bytes_eq x) xs) xs x
    (sym (any-first_uses x xs) ∙ sym (ap (list_any (bytes_eq x)) is) ∙ new))

-- a text that is among those found is not added again
pub uses_same : (xs found : List (List ℕ)) (x : List ℕ) → found ≡ first_uses xs
    → list_any (bytes_eq x) found ≡ true
    → found ≡ first_uses (xs ++ x ∷ [])
uses_same xs found x is known =
    is ∙ sym (first_uses-append xs x
    ∙ left (list_any (bytes_eq x) xs) xs x
    (sym (any-first_uses x xs) ∙ sym (ap (list_any (bytes_eq x)) is) ∙ known))
