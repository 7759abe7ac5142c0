-- Digests have only one code, a package has only one list of files, and its code has only one
-- state.
use Rattle.std.proofs.Common.{◌≡◌, ◌∙◌, ◌⊎◌, inl, inr, ℕ, zero, suc, ◌+◌, ◌<◌, ◌≤◌, Bool, true}
use Rattle.std.proofs.Common.{false, cond, List, [], ◌∷◌, length, get_or, ap, ap₂, sym, subst, refl}
use Rattle.std.proofs.Common.{arith, Some, None}
use Rattle.std.specs.Prelude.{Contains, slice_get, map}
use Rattle.std.specs.Cmp.{IsTotalOrder}
use Rattle.std.specs.Cmp.Lexicographic.{slice_cmp, nat_list_cmp_total}
use Rattle.std.specs.FinMap.{IsAntisymmetric, nat_cmp-IsAntisymmetric, slice_cmp-IsAntisymmetric}
use Rattle.std.specs.List.{AllPairs, sum_by, concat, filter_map}
use Rattle.std.specs.List.Sorted.{IsSorted}
use Rattle.std.specs.Ordering.{is_lt, nat_cmp, ordering_reverse}
use Rattle.std.specs.declared.cmp.Ordering.{Ordering}
use Rattle.std.specs.declared.cmp.Ordering.TheVariants.{Less, Equal, Greater}
use Rattle.std.proofs.lemmas.List.Kept.{AllPairs-from_increasing}
use Rattle.std.proofs.lemmas.List.Sorted.{ranks_by, sorted_far, sum_by-IsPermutation}
use Rattle.std.proofs.lemmas.List.Sums.{sum_by-cons}
use Rattle.sha1.specs.Sha1.{sha1}
use Rattle.hex.specs.Hex.{encode_lower}
use Rattle.desk_tagvalue.specs.Parts.{DocumentText, PackageText, FileText}
use Rattle.desk_base.specs.Folded.{folded}
use Rattle.desk_bom.specs.Codes.{IsCode, code_digits, checked_digests, IsStateOf, IsStateAt, IsState}
use Rattle.desk_bom.specs.Contents.{AreFilesOf}
use Rattle.desk_bom.specs.declared.state.CodeState.{CodeState}
use Rattle.desk_bom.specs.declared.state.CodeState.TheVariants.{Absent, Unchecked, Agrees, Differs}

-- ---- sorted lists of the same items

lowest : (b : Bool) (n : ℕ) → cond b 1 0 + n ≡ 0 → b ≡ false
lowest true n e = absurd (omega arith)
lowest false n e = refl

not_counted : (b : Bool) → b ≡ false → ◌≡◌ {A = ℕ} (cond b 1 0) 0
not_counted true e = absurd cc
not_counted false e = refl

neither : (r s : Ordering) → r ≡ ordering_reverse s → is_lt r ≡ false → is_lt s ≡ false → r ≡ Equal
neither Less s turned a b = absurd (let e : true ≡ false = a in cc)
neither Equal s turned a b = refl
neither Greater Less turned a b = absurd (let e : true ≡ false = b in cc)
neither Greater Equal turned a b = absurd (cc)
neither Greater Greater turned a b = absurd (cc)

module _ {K : Type 0} (R : K → K → Ordering) (o : IsTotalOrder R) (same : IsAntisymmetric R) where
  -- no item of a sorted list is below its first
  none_below : (x : K) (xs : List K)
      → ((j : ℕ) (d : K) → j < length xs → is_lt (R (get_or xs j d) x) ≡ false)
      → sum_by (λ z. cond (is_lt (R z x)) 1 0) xs ≡ 0
  none_below x [] least = refl
  none_below x (z ∷ zs) least =
      let first = not_counted (is_lt (R z x)) (least zero z (omega arith)) in
      let rest = none_below x zs (λ j d within. least (suc j) d (omega arith)) in
      omega (arith, sum_by-cons (λ (z : K). cond (is_lt (R z x)) 1 0) z zs, first, rest)

  none_before : (x : K) (xs : List K) → IsSorted R (x ∷ xs)
      → sum_by (λ z. cond (is_lt (R z x)) 1 0) (x ∷ xs) ≡ 0
  none_before x xs up =
      none_below x (x ∷ xs) (λ j d within. sorted_far (λ a b. is_lt (R a b)) (ranks_by o (λ a. a))
      (x ∷ xs) up zero j d (omega arith) within)

  tail_sorted : (x : K) (xs : List K) → IsSorted R (x ∷ xs) → IsSorted R xs
  tail_sorted x xs up = λ k d low within.
      let e : suc k + 1 ≡ suc (k + 1) = omega arith in
      subst (λ i. is_lt (R (get_or (x ∷ xs) i d) (get_or xs k d)) ≡ false) e
      (up (suc k) d (omega arith) (omega arith))

  -- the first of one list is not below the first of the other
  not_before : (x y : K) (xs ys : List K) → IsSorted R (x ∷ xs)
      → ((f : K → ℕ) → sum_by f (x ∷ xs) ≡ sum_by f (y ∷ ys)) → is_lt (R y x) ≡ false
  not_before x y xs ys up sums =
      let f : K → ℕ = λ z. cond (is_lt (R z x)) 1 0 in
      lowest (is_lt (R y x)) (sum_by f ys)
      (sym (sum_by-cons f y ys) ∙ (sym (sums f) ∙ none_before x xs up))

  -- two sorted lists over which each sum is the same are equal
  pub one_sorted : (a b : List K) → IsSorted R a → IsSorted R b
      → ((f : K → ℕ) → sum_by f a ≡ sum_by f b) → a ≡ b
  one_sorted [] [] up up' sums = refl
  one_sorted [] (y ∷ ys) up up' sums = absurd (omega
      (arith, sums (λ _. 1), sum_by-cons (λ (_ : K). 1) y ys))
  one_sorted (x ∷ xs) [] up up' sums = absurd (omega
      (arith, sums (λ _. 1), sum_by-cons (λ (_ : K). 1) x xs))
  one_sorted (x ∷ xs) (y ∷ ys) up up' sums =
      let y_late = not_before x y xs ys up sums in
      let x_late = not_before y x ys xs up' (λ f. sym (sums f)) in
      let head : x ≡ y = same x y (neither (R x y) (R y x) (o.antisymm x y) x_late y_late) in
      let tails : xs ≡ ys = one_sorted xs ys (tail_sorted x xs up) (tail_sorted y ys up')
      (λ f. omega (arith, sums f, sum_by-cons f x xs, sum_by-cons f y ys, ap f head)) in
      ap₂ (λ (z : K) (zs : List K). z ∷ zs) head tails

pub one_code : (digests : List (List ℕ)) (a b : List ℕ) → IsCode digests a → IsCode digests b
    → a ≡ b
one_code digests a b is js =
    let texts : is.texts ≡ js.texts =
    one_sorted (slice_cmp nat_cmp) nat_list_cmp_total
    (slice_cmp-IsAntisymmetric nat_cmp-IsAntisymmetric) is.texts js.texts is.sorted js.sorted
    (λ f. sum_by-IsPermutation f (map encode_lower digests) is.texts is.same
    ∙ sym (sum_by-IsPermutation f (map encode_lower digests) js.texts js.same)) in
    is.is ∙ (ap (λ ts. encode_lower (sha1 (concat ts))) texts ∙ sym js.is)

-- ---- rising numbers

rises_on : (x : ℕ) (xs : List ℕ) → AllPairs (λ a b. a < b) (x ∷ xs) → AllPairs (λ a b. a < b) xs
rises_on x xs up = λ i j d before within. up (suc i) (suc j) d (omega arith) (omega arith)

above_first : (x j : ℕ) (xs : List ℕ) → AllPairs (λ a b. a < b) (x ∷ xs) → Contains xs j → x < j
above_first x j xs up at = subst (λ z. x < z) at.2
    (up zero (suc at.0) j (omega arith) (omega (arith, at.1)))

first_or_later : (x j : ℕ) (xs : List ℕ) → Contains (x ∷ xs) j → (x ≡ j) ⊎ Contains xs j
first_or_later x j xs (zero, within, is) = inl is
first_or_later x j xs (suc k, within, is) = inr (k, omega arith, is)

-- an item after the first of a list that begins no lower also comes after the first of a list of
-- the same numbers
later_too : (x y j : ℕ) (xs ys : List ℕ) → x ≡ y → AllPairs (λ a b. a < b) (x ∷ xs)
    → ((j : ℕ) → Contains (x ∷ xs) j → Contains (y ∷ ys) j) → Contains xs j → Contains ys j
later_too x y j xs ys first up also at =
    elim (first_or_later y j ys (also j (suc at.0, omega (arith, at.1), at.2))) [
      | inl is ↦ absurd (let above = above_first x j xs up at in omega arith)
      | inr later ↦ later
    ]

-- the first of one list is no higher than the first of the other
no_higher : (x y : ℕ) (xs ys : List ℕ) → AllPairs (λ a b. a < b) (x ∷ xs)
    → ((j : ℕ) → Contains (y ∷ ys) j → Contains (x ∷ xs) j) → x ≤ y
no_higher x y xs ys up also =
    elim (first_or_later x y xs (also y (zero, omega arith, refl))) [
      | inl is ↦ omega arith
      | inr later ↦ let above = above_first x y xs up later in omega arith
    ]

one_rising : (a b : List ℕ) → AllPairs (λ x y. x < y) a → AllPairs (λ x y. x < y) b
    → ((j : ℕ) → Contains a j → Contains b j) → ((j : ℕ) → Contains b j → Contains a j) → a ≡ b
one_rising [] [] up up' to from = refl
one_rising [] (y ∷ ys) up up' to from = absurd (let at = from y (zero, omega arith, refl) in
    omega (arith, at.1))
one_rising (x ∷ xs) [] up up' to from = absurd (let at = to x (zero, omega arith, refl) in
    omega (arith, at.1))
one_rising (x ∷ xs) (y ∷ ys) up up' to from =
    let low = no_higher x y xs ys up from in
    let high = no_higher y x ys xs up' to in
    let first : x ≡ y = omega arith in
    let rest : xs ≡ ys = one_rising xs ys (rises_on x xs up) (rises_on y ys up')
    (λ j. later_too x y j xs ys first up to) (λ j. later_too y x j ys xs (sym first) up' from) in
    ap₂ (λ (z : ℕ) (zs : List ℕ). z ∷ zs) first rest

-- ---- states

one_list_of_files : (d : DocumentText) (owner : ℕ) (fs gs : List FileText) → AreFilesOf d owner fs
    → AreFilesOf d owner gs → fs ≡ gs
one_list_of_files d owner fs gs a b =
    let places : a.places ≡ b.places =
    one_rising a.places b.places (AllPairs-from_increasing a.places a.once)
    (AllPairs-from_increasing b.places b.once)
    (λ j at. (b.members j).1 ((a.members j).0 at)) (λ j at. (a.members j).1 ((b.members j).0 at)) in
    a.are ∙ (ap (filter_map (slice_get d.files)) places ∙ sym b.are)

-- if a code is that of the digests, it isn't another one
not_both : (p : PackageText) (fs : List FileText) → IsStateOf p fs Agrees → IsStateOf p fs Differs
    → ⊥
not_both p fs (v, ds, code, has, told, is, same) (w, es, other, had, said, be, differs) =
    let values : v ≡ w = cc in
    let digests : ds ≡ es = let again =
    subst (λ x. checked_digests p.files_analyzed x fs ≡ Some ds) values told in cc in
    let codes = one_code ds code other is (subst (λ x. IsCode x other) (sym digests) be) in
    differs (ap (λ x. folded (code_digits x)) (sym values) ∙ (same ∙ codes))

unchecked : (p : PackageText) (fs : List FileText) (v w : List ℕ) (ds : List (List ℕ))
    → p.verification_code ≡ Some v → p.verification_code ≡ Some w
    → checked_digests p.files_analyzed v fs ≡ None → checked_digests p.files_analyzed w fs ≡ Some ds
    → ⊥
unchecked p fs v w ds has had none some =
    let values : v ≡ w = cc in
    let again = subst (λ x. checked_digests p.files_analyzed x fs ≡ None) values none in cc

state_of_once : (p : PackageText) (fs : List FileText) (s t : CodeState) → IsStateOf p fs s
    → IsStateOf p fs t → s ≡ t
state_of_once p fs Absent Absent is be = refl
state_of_once p fs Absent Unchecked is be = absurd (let had = be.1 in cc)
state_of_once p fs Absent Agrees is be = absurd (let had = be.3 in cc)
state_of_once p fs Absent Differs is be = absurd (let had = be.3 in cc)
state_of_once p fs Unchecked Absent is be = absurd (let has = is.1 in cc)
state_of_once p fs Unchecked Unchecked is be = refl
state_of_once p fs Unchecked Agrees is be = absurd (unchecked p fs is.0 be.0 be.1 is.1 be.3 is.2
    be.4)
state_of_once p fs Unchecked Differs is be = absurd (unchecked p fs is.0 be.0 be.1 is.1 be.3 is.2
    be.4)
state_of_once p fs Agrees Absent is be = absurd (let has = is.3 in cc)
state_of_once p fs Agrees Unchecked is be = absurd (unchecked p fs be.0 is.0 is.1 be.1 is.3 be.2
    is.4)
state_of_once p fs Agrees Agrees is be = refl
state_of_once p fs Agrees Differs is be = absurd (not_both p fs is be)
state_of_once p fs Differs Absent is be = absurd (let has = is.3 in cc)
state_of_once p fs Differs Unchecked is be = absurd (unchecked p fs be.0 is.0 is.1 be.1 is.3 be.2
    is.4)
state_of_once p fs Differs Agrees is be = absurd (not_both p fs be is)
state_of_once p fs Differs Differs is be = refl

-- a state that is given for files is one of those that the package has
with_files : (d : DocumentText) (k : ℕ) (p : PackageText) (s t : CodeState) (fs gs : List FileText)
    → AreFilesOf d k fs → IsStateOf p fs s → AreFilesOf d k gs → IsStateOf p gs t → s ≡ t
with_files d k p s t fs gs own is other be = state_of_once p fs s t is
    (subst (λ l. IsStateOf p l t) (one_list_of_files d k gs fs other own) be)

of_absent : (p : PackageText) (fs : List FileText) (t : CodeState) → p.verification_code ≡ None
    → IsStateOf p fs t → Absent ≡ t
of_absent p fs t none = state_of_once p fs Absent t none

state_at_once : (d : DocumentText) (k : ℕ) (p : PackageText) (s t : CodeState) → IsStateAt d k p s
    → IsStateAt d k p t → s ≡ t
state_at_once d k p Absent Absent is be = refl
state_at_once d k p Absent Unchecked is be = of_absent p be.0 Unchecked is be.2
state_at_once d k p Absent Agrees is be = of_absent p be.0 Agrees is be.2
state_at_once d k p Absent Differs is be = of_absent p be.0 Differs is be.2
state_at_once d k p Unchecked Absent is be = sym (of_absent p is.0 Unchecked be is.2)
state_at_once d k p Agrees Absent is be = sym (of_absent p is.0 Agrees be is.2)
state_at_once d k p Differs Absent is be = sym (of_absent p is.0 Differs be is.2)
state_at_once d k p Unchecked Unchecked is be = refl
state_at_once d k p Unchecked Agrees is be = with_files d k p Unchecked Agrees is.0 be.0 is.1 is.2
    be.1 be.2
state_at_once d k p Unchecked Differs is be = with_files d k p Unchecked Differs is.0 be.0 is.1 is.2
    be.1 be.2
state_at_once d k p Agrees Unchecked is be = with_files d k p Agrees Unchecked is.0 be.0 is.1 is.2
    be.1 be.2
state_at_once d k p Agrees Agrees is be = refl
state_at_once d k p Agrees Differs is be = with_files d k p Agrees Differs is.0 be.0 is.1 is.2 be.1
    be.2
state_at_once d k p Differs Unchecked is be = with_files d k p Differs Unchecked is.0 be.0 is.1 is.2
    be.1 be.2
state_at_once d k p Differs Agrees is be = with_files d k p Differs Agrees is.0 be.0 is.1 is.2 be.1
    be.2
state_at_once d k p Differs Differs is be = refl

pub one_state : (d : DocumentText) (k : ℕ) (s t : CodeState) → IsState d k s → IsState d k t → s ≡ t
one_state d k s t a b =
    let owners : a.owner ≡ b.owner = let at = a.at in let there = b.at in cc in
    state_at_once d k a.owner s t a.is (subst (λ p. IsStateAt d k p t) (sym owners) b.is)
