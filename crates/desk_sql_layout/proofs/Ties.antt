-- Stored rows, no two of which have the same key, and lists that ascend.
use Rattle.std.proofs.Common.{◌≡◌, inl, inr, ℕ, zero, suc, Bool, true, false, List, [], ◌∷◌, map}
use Rattle.std.proofs.Common.{refl, sym, ap, ◌∙◌, arith, add-one, true≢false, IsSorted, Less, Equal}
use Rattle.std.proofs.Common.{Greater, is_lt, is_eq}
use Rattle.std.specs.Prelude.{◌&&◌}
use Rattle.std.specs.List.{AllByRecursion}
use Rattle.std.specs.declared.cmp.Ordering.{Ordering}
use Rattle.std.specs.Ordering.{ordering_then}
use Rattle.std.proofs.lemmas.Bool.{and_parts, false_from_ne_true}
use Rattle.sqlite_value.specs.declared.keys.Collation.TheVariants.{Binary}
use Rattle.sqlite_value.specs.declared.keys.Key.{Key}
use Rattle.sqlite_value.specs.declared.value.Value.{Value}
use Rattle.sqlite_value.specs.declared.value.Value.TheVariants.{Null, Int, Real, Text, Blob}
use Rattle.sqlite_value.specs.Keys.{ascending, plain}
use Rattle.sqlite_value.specs.Order.{Row, column, value_cmp}
use Rattle.sqlite_value.proofs.KeyLemmas.{first_key-plain}
use Rattle.sqlite_trees.specs.Tree.{IsAscending, IsTable, rowid}
use Rattle.sqlite_trees.specs.View.{is_int}
use Rattle.sqlite_sql.specs.Ops.{binary}
use Rattle.sqlite_sql.specs.Query.{key_cmp}
use Rattle.sqlite_sql.proofs.QueryLemmas.{key_cmp_shift}
use Rattle.sqlite_schema.specs.Rules.{agree, clashes, equal, differ}
use Rattle.sqlite_rules.specs.Lists.{Has}
use Rattle.sqlite_rules.proofs.ListLemmas.{some_from, all_has}
use Rattle.desk_model.specs.Lists.{IsIn}
use Rattle.desk_history.specs.Laws.{Ascends}
use Rattle.desk_sql_layout.proofs.Casts.{truth_is}
use Rattle.desk_sql_layout.proofs.Apart.{differ_is}

-- ---- values of keys

-- a number or a text, as each column of a key has
abbrev pub is_key : Value → Bool
is_key (Int n) = true
is_key (Text t) = true
is_key _ = false

abbrev pub are_keys : List ℕ → Row → Bool
are_keys [] r = true
are_keys (p ∷ ps) r = is_key (column r p) && are_keys ps r

tied : (a b : Value) → is_key a ≡ true → is_key b ≡ true → is_eq (value_cmp a b) ≡ true
    → equal Binary a b ≡ true
unfolding binary
tied (Int m) (Int n) p q h = truth_is _ ∙ h
tied (Int m) (Text t) p q h = truth_is _ ∙ h
tied (Text s) (Int n) p q h = truth_is _ ∙ h
tied (Text s) (Text t) p q h = truth_is _ ∙ h
tied Null b p q h = absurd (true≢false (sym p))
tied (Real x) b p q h = absurd (true≢false (sym p))
tied (Blob x) b p q h = absurd (true≢false (sym p))
tied (Int m) Null p q h = absurd (true≢false (sym q))
tied (Int m) (Real x) p q h = absurd (true≢false (sym q))
tied (Int m) (Blob x) p q h = absurd (true≢false (sym q))
tied (Text m) Null p q h = absurd (true≢false (sym q))
tied (Text m) (Real x) p q h = absurd (true≢false (sym q))
tied (Text m) (Blob x) p q h = absurd (true≢false (sym q))

-- ---- rows of keys

abbrev pub keys : List ℕ → List Key
keys = map (λ p. ascending Binary)

abbrev pub picked : List ℕ → Row → Row
picked ps r = map (column r) ps

eq_parts : (o p : Ordering) → is_eq (ordering_then o p) ≡ true → (is_eq o ≡ true) × (is_eq p ≡ true)
eq_parts Less p h = absurd (true≢false (sym h))
eq_parts Equal p h = (refl, h)
eq_parts Greater p h = absurd (true≢false (sym h))

-- rows that tie by a key agree on it
tied_agree : (ps : List ℕ) (a b : Row) → are_keys ps a ≡ true → are_keys ps b ≡ true
    → is_eq (key_cmp 0 (keys ps) (picked ps a) (picked ps b)) ≡ true → agree plain ps a ps b ≡ true
tied_agree [] a b p q h = refl
tied_agree (at ∷ ps) a b p q h =
    let pa = and_parts _ _ p in
    let qa = and_parts _ _ q in
    let parts = eq_parts (value_cmp (column a at) (column b at)) _ h in
    let rest : is_eq (key_cmp 0 (keys ps) (picked ps a) (picked ps b)) ≡ true =
    sym (ap is_eq (key_cmp_shift (keys ps) 0 (column a at) (column b at) (picked ps a)
    (picked ps b))) ∙ parts.1 in
    rw (
      first_key-plain,
      tied (column a at) (column b at) pa.0 qa.0 parts.0,
      tied_agree ps a b pa.1 qa.1 rest,
    ) refl

-- ---- lists in order

pub ascending_among : {X : Type 0} (R Q : X → X → Type 0) (xs : List X)
    → ((a b : X) → Has xs a → Has xs b → R a b → Q a b) → IsAscending R xs → IsAscending Q xs
ascending_among R Q [] turn up = tt
ascending_among {X} R Q (x ∷ xs) turn up = (
  all xs (λ b there. there) up.0,
  ascending_among R Q xs (λ a b ha hb. turn a b (inr ha) (inr hb)) up.1,
)
  where
    all : (ys : List X) → ((b : X) → Has ys b → Has xs b) → AllByRecursion (R x) ys
        → AllByRecursion (Q x) ys
    all [] there h = tt
    all (y ∷ ys) there h = (
      turn x y (inl refl) (inr (there y (inl refl))) h.0,
      all ys (λ b hb. there b (inr hb)) h.1,
    )

pub sorted_from : {X : Type 0} (cmp : X → X → Ordering) (xs : List X)
    → IsAscending (λ a b. is_lt (cmp b a) ≡ false) xs → IsSorted cmp xs
sorted_from cmp [] up = λ k d p q. absurd (omega (arith, q))
sorted_from cmp (x ∷ []) up = λ k d p q. absurd (omega (arith, q))
sorted_from {X} cmp (x ∷ y ∷ xs) up = go (sorted_from cmp (y ∷ xs) up.1)
  where
    go : IsSorted cmp (y ∷ xs) → IsSorted cmp (x ∷ y ∷ xs)
    go more zero d p q = up.0.0
    go more (suc k) d p q = rw add-one (rw add-one at (more k d (omega arith) (omega (arith, q))))

in_had : {X : Type 0} (x : X) (xs : List X) → Has xs x → IsIn x xs
in_had x [] h = h
in_had x (y ∷ ys) (inl e) = inl (sym e)
in_had x (y ∷ ys) (inr h) = inr (in_had x ys h)

pub ascends : {X : Type 0} (below : X → X → Bool) (xs : List X) → Ascends below xs
    → IsAscending (λ a b. below b a ≡ false) xs
ascends below [] up = tt
ascends {X} below (x ∷ xs) up = (all xs (λ y there. there), ascends below xs up.1)
  where
    all : (ys : List X) → ((y : X) → Has ys y → Has xs y)
        → AllByRecursion (λ b. below b x ≡ false) ys
    all [] there = tt
    all (y ∷ ys) there = (
      up.0 y (in_had y xs (there y (inl refl))),
      all ys (λ z h. there z (inr h)),
    )

-- ---- the stored rows

-- no two rows of a table tie by a key that is declared unique
pub apart_by : (ps : List ℕ) (stored : List Row) → IsTable stored
    → AllByRecursion (λ r. is_int (rowid r) ≡ true) stored
    → AllByRecursion (λ r. are_keys ps r ≡ true) stored
    → ((row : Row) → Has stored row → clashes plain ps stored row ≡ false)
    → IsAscending (λ a b. is_eq (key_cmp 0 (keys ps) (picked ps a) (picked ps b)) ≡ false) stored
apart_by ps stored rising ints are unique = ascending_among _ _ stored two rising
  where
    two : (a b : Row) → Has stored a → Has stored b → value_cmp (rowid a) (rowid b) ≡ Less
        → is_eq (key_cmp 0 (keys ps) (picked ps a) (picked ps b)) ≡ false
    two a b ha hb less = false_from_ne_true _ (λ same.
        let ia = all_has _ stored a ints ha in
        let ib = all_has _ stored b ints hb in
        let ka = all_has _ stored a are ha in
        let kb = all_has _ stored b are hb in
        let both : (agree plain ps a ps b && differ (rowid a) (rowid b)) ≡ true =
        rw (tied_agree ps a b ka kb same, differ_is (rowid a) (rowid b) ia ib less) refl in
        true≢false (sym (some_from _ stored a ha both) ∙ unique b hb))

below_apart : (o : Ordering) → o ≡ Less → is_eq (ordering_then o Equal) ≡ false
below_apart Less h = refl
below_apart Equal h = absurd (cc)
below_apart Greater h = absurd (cc)

-- nor by their rowids
pub apart_by_rowid : (stored : List Row) → IsTable stored
    → IsAscending (λ a b. is_eq (key_cmp 0 (keys (0 ∷ [])) (picked (0 ∷ []) a) (picked (0 ∷ []) b))
    ≡ false) stored
apart_by_rowid stored rising = ascending_among _ _ stored (λ a b ha hb less. below_apart _ less)
    rising
