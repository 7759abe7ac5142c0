-- Facts about texts that are compared byte by byte.
use Rattle.std.proofs.Common.{◌≡◌, ◌≢◌, ℕ, Bool, true, false, List, [], ◌∷◌, refl, inl, inr, arith}
use Rattle.std.specs.Prelude.{◌⊎◌, nat_lt}
use Rattle.std.specs.List.{list_all}
use Rattle.std.specs.Str.{IsAscii, bytes_eq}
use Rattle.std.proofs.lemmas.Bool.Decides.{nat_tests}
use Rattle.std.proofs.lemmas.Cmp.{nat_list_eq_equiv}
use Rattle.std.proofs.lemmas.Slice.Eq.{bytes_eq-Decides}
use Rattle.std.proofs.lemmas.Str.Ascii.{IsAscii-cons, IsAscii-nil}
use Rattle.desk_base.proofs.Bools.{and_left, and_right}

-- a test of two texts says whether they are the same
pub tells : (a b : List ℕ) (r : Bool) → bytes_eq a b ≡ r
    → ((bytes_eq a b ≡ true) × (a ≡ b)) ⊎ ((bytes_eq a b ≡ false) × (a ≢ b))
tells a b true e = inl (e, (bytes_eq-Decides a b).0 e)
tells a b false e = inr (
  e,
  λ same. let yes : bytes_eq a b ≡ true = (bytes_eq-Decides a b).1 same in
      cc,
)

pub text_tells : (a b : List ℕ)
    → ((bytes_eq a b ≡ true) × (a ≡ b)) ⊎ ((bytes_eq a b ≡ false) × (a ≢ b))
text_tells a b = tells a b (bytes_eq a b) refl

pub texts_equal : (a b : List ℕ) → bytes_eq a b ≡ true → a ≡ b
texts_equal a b e = (bytes_eq-Decides a b).0 e

pub same_text : (a : List ℕ) → bytes_eq a a ≡ true
same_text a = (bytes_eq-Decides a a).1 refl

pub texts_turned : (a b : List ℕ) → bytes_eq a b ≡ bytes_eq b a
texts_turned a b = nat_list_eq_equiv.symm a b

-- bytes below 128 are a text
pub are_ascii : (bs : List ℕ) → list_all (λ b. nat_lt b 128) bs ≡ true → IsAscii bs
are_ascii [] e = IsAscii-nil
are_ascii (b ∷ bs) e =
    IsAscii-cons b bs (let it : nat_lt b 128 ≡ true =
    and_left (nat_lt b 128) (list_all (λ b. nat_lt b 128) bs) e in grind (arith, nat_tests))
    (are_ascii bs (and_right (nat_lt b 128) (list_all (λ b. nat_lt b 128) bs) e))
