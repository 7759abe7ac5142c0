-- Facts about how two things compare.
use Rattle.std.proofs.Common.{◌≡◌, ◌∙◌, ℕ, List, true, refl, sym, ap, arith, nat_cmp, is_eq}
use Rattle.std.proofs.Common.{Ordering, Less, Equal, Greater}
use Rattle.std.specs.Prelude.{◌&&◌}
use Rattle.std.specs.Ordering.{ordering_reverse, ordering_then}
use Rattle.std.specs.Cmp.Lexicographic.{slice_cmp}
use Rattle.std.proofs.lemmas.Bool.Decides.{nat_tests}
use Rattle.std.proofs.lemmas.Map.Text.{is_eq-slice_cmp}
use Rattle.desk_base.proofs.Texts.{texts_equal}

pub equal_is : (o : Ordering) → is_eq o ≡ true → o ≡ Equal
equal_is Less e = absurd (cc)
equal_is Equal e = refl
equal_is Greater e = absurd (cc)

pub is_eq-reverse : (o : Ordering) → is_eq (ordering_reverse o) ≡ is_eq o
is_eq-reverse Less = refl
is_eq-reverse Equal = refl
is_eq-reverse Greater = refl

pub same_numbers : (n m : ℕ) → n ≡ m → nat_cmp n m ≡ Equal
same_numbers n m is = grind (arith, nat_tests)

-- ---- by one thing and then by another

pub both_equal : (o p : Ordering) → ordering_then o p ≡ Equal → (o ≡ Equal) × (p ≡ Equal)
both_equal Less p e = absurd (cc)
both_equal Equal p e = (refl, e)
both_equal Greater p e = absurd (cc)

pub second_equal : (o p : Ordering) → ordering_then o p ≡ Equal → p ≡ Equal
second_equal o p e = (both_equal o p e).1

pub either_equal : (o p : Ordering) → is_eq (ordering_then o p) ≡ (is_eq o && is_eq p)
either_equal Less p = refl
either_equal Equal p = refl
either_equal Greater p = refl

-- ---- texts

pub texts_tie : (a b : List ℕ) → slice_cmp nat_cmp a b ≡ Equal → a ≡ b
texts_tie a b e = texts_equal a b (sym (is_eq-slice_cmp a b) ∙ ap is_eq e)
