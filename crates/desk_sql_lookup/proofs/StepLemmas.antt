-- How many changes duties with consecutive numbers have, by the duties of the changes.
use Rattle.std.proofs.Common.{◌≡◌, ◌⊎◌, ◌∙◌, ◌<◌, ◌≤◌, ◌+◌, ◌-◌, ◌^◌, ◌++◌, ℕ, Bool, true, false}
use Rattle.std.proofs.Common.{true≢false, cond, not, List, [], ◌∷◌, map, filter, length, ap, arith}
use Rattle.std.proofs.Common.{inl, inr, refl, subst, suc, sym, zero}
use Rattle.std.specs.Prelude.{◌==◌, ◌&&◌, nat_le, slice_index_or, slice_set}
use Rattle.std.proofs.lemmas.Bool.Decides.{nat_tests}
use Rattle.std.proofs.lemmas.List.{get_or-set_other, get_or-set_same, length-append, length-set}
use Rattle.std.proofs.lemmas.List.Elements.{filter-append}
use Rattle.std.proofs.lemmas.List.Filters.{length-filter_both}
use Rattle.desk_base.proofs.Numbers.{numbers_equal, same_number, unequal}
use Rattle.desk_model.specs.Keys.{is_change_of}
use Rattle.desk_model.specs.Tables.{Tables}
use Rattle.desk_model.specs.declared.row.ChangeRow.{ChangeRow}
use Rattle.desk_sql_lookup.specs.Steps.{AreCounts, HaveSteps, is_change_within}

-- a number outside the range isn't in the run
within_run : (first last i n : ℕ) → first + i ≤ last → (nat_le first n && nat_le n last) ≡ false
    → (n == first + i) ≡ false
within_run first last i n low out = grind (arith, nat_tests)

count_within : (first last i : ℕ) (changes : List ChangeRow) → first + i ≤ last
    → length (filter (λ n. n == first + i)
    (map (λ (c : ChangeRow). c.duty) (filter (is_change_within first last) changes)))
    ≡ length (filter (is_change_of (first + i)) changes)
count_within first last i [] low = refl
count_within first last i (c ∷ changes) low = go (is_change_within first last c) refl
    (count_within first last i changes low)
  where
    counts : List ChangeRow → ℕ
    counts cs = length (filter (λ n. n == first + i) (map (λ (c : ChangeRow). c.duty) cs))

    more : (b : Bool) → counts (filter (is_change_within first last) changes)
        ≡ length (filter (is_change_of (first + i)) changes)
        → length (cond b (c.duty ∷ filter (λ n. n == first + i)
        (map (λ (c : ChangeRow). c.duty) (filter (is_change_within first last) changes)))
        (filter (λ n. n == first + i)
        (map (λ (c : ChangeRow). c.duty) (filter (is_change_within first last) changes))))
        ≡ length (cond b (c ∷ filter (is_change_of (first + i)) changes)
        (filter (is_change_of (first + i)) changes))
    more true is = ap suc is
    more false is = is

    go : (b : Bool) → is_change_within first last c ≡ b
        → counts (filter (is_change_within first last) changes)
        ≡ length (filter (is_change_of (first + i)) changes)
        → counts (cond b (c ∷ filter (is_change_within first last) changes)
        (filter (is_change_within first last) changes))
        ≡ length (filter (is_change_of (first + i)) (c ∷ changes))
    go true at is = more (c.duty == first + i) is
    go false at is = rw (within_run first last i c.duty low at) is

pub have_steps : (first last : ℕ) (t : Tables) (counts : List ℕ) → first + length counts ≤ last + 1
    → AreCounts first (map (λ (c : ChangeRow). c.duty)
    (filter (is_change_within first last) t.changes)) counts → HaveSteps first counts t
have_steps first last t counts low are i in_ = are i in_
    ∙ count_within first last i t.changes (omega (arith, low, in_))

-- ---- the counts

pub zeros_more : (xs : List ℕ) → ((i : ℕ) → slice_index_or xs i 0 ≡ 0) → (i : ℕ)
    → slice_index_or (xs ++ 0 ∷ []) i 0 ≡ 0
zeros_more [] are zero = refl
zeros_more [] are (suc i) = refl
zeros_more (x ∷ xs) are zero = are zero
zeros_more (x ∷ xs) are (suc i) = zeros_more xs (λ k. are (suc k)) i

few : (p : ℕ → Bool) (xs : List ℕ) → length (filter p xs) ≤ length xs
few p xs = let both = length-filter_both p (λ n. not (p n)) (λ n. refl) xs in omega (arith, both)

unlike : (n m : ℕ) → n ≡ m → (n == m) ≡ false → ⊥
unlike n m is not_ = true≢false (sym (same_number n) ∙ (ap (λ k. n == k) is ∙ not_))

one_more : (p : ℕ → Bool) (xs : List ℕ) (n : ℕ) → p n ≡ true
    → length (filter p (xs ++ n ∷ [])) ≡ length (filter p xs) + 1
one_more p xs n is = ap length (filter-append p xs (n ∷ []))
    ∙ (length-append (filter p xs) (filter p (n ∷ [])) ∙ rw is refl)

none_more : (p : ℕ → Bool) (xs : List ℕ) (n : ℕ) → p n ≡ false
    → length (filter p (xs ++ n ∷ [])) ≡ length (filter p xs)
none_more p xs n is = ap length (filter-append p xs (n ∷ []))
    ∙ (length-append (filter p xs) (filter p (n ∷ [])) ∙ rw is (omega arith))

module _ (first : ℕ) (counts numbers : List ℕ) (n : ℕ) (are : AreCounts first numbers counts) where
  pub counts_past : (n < first) ⊎ (length counts ≤ n - first)
      → AreCounts first (numbers ++ n ∷ []) counts
  counts_past out i in_ = are i in_
      ∙ sym (none_more (λ k. k == first + i) numbers n
      (unequal n (first + i) (λ is. past out i in_ is)))
    where
      past : (n < first) ⊎ (length counts ≤ n - first) → (i : ℕ) → i < length counts → n ≡ first + i
          → ⊥
      past (inl low) i in_ is = omega (arith, low, is)
      past (inr high) i in_ is = omega (arith, high, in_, is)

  pub counts_one : (more : ℕ) → first ≤ n → n - first < length counts → length numbers < 2 ^ 63
      → (slice_index_or counts (n - first) 0 < 2 ^ 63
      → more ≡ slice_index_or counts (n - first) 0 + 1)
      → AreCounts first (numbers ++ n ∷ []) (slice_set counts (n - first) more)
  counts_one more low in_ few_ is i inside = go (i == at) refl
    where
      at : ℕ
      at = n - first

      go : (b : Bool) → (i == at) ≡ b
          → slice_index_or (slice_set counts at more) i 0
          ≡ length (filter (λ k. k == first + i) (numbers ++ n ∷ []))
      go true here = rw (numbers_equal i at here) (
          let here_n : n ≡ first + at = omega (arith, low) in
          let was = are at in_ in
          let bound : length (filter (λ k. k == first + at) numbers) < 2 ^ 63 =
          (let f = few (λ k. k == first + at) numbers in omega (arith, f, few_)) in
          get_or-set_same counts at more 0 in_
          ∙ (is (rw was bound) ∙ (ap (λ k. k + 1) was
          ∙ sym (one_more (λ k. k == first + at) numbers n
          (subst (λ k. (n == k) ≡ true) here_n (same_number n))))))
      go false there =
          get_or-set_other counts at i more 0 (λ e. unlike i at e there)
          ∙ (are i (subst (λ l. i < l) (length-set counts at more) inside)
          ∙ sym (none_more (λ k. k == first + i) numbers n
          (unequal n (first + i) (λ e. unlike i at (omega (arith, e, low)) there))))
