-- Given bytes have a first place in a text, or none.
use Rattle.std.proofs.Common.{◌≡◌, ◌≢◌, ◌∙◌, ℕ, ◌<◌, List, [], ◌∷◌, ◌++◌, length, sym, ap, refl}
use Rattle.std.proofs.Common.{arith, append_assoc, length-append, inl, inr}
use Rattle.std.proofs.lemmas.Bool.{cases_eq}

-- a text begins with these bytes or not
pub data Front (p t : List ℕ) : Type 0 where
  begins : (ys : List ℕ) → t ≡ p ++ ys → Front p t
  apart : ((ys : List ℕ) → t ≢ p ++ ys) → Front p t

front_behind : (b c : ℕ) (p t : List ℕ) → c ≡ b → Front p t → Front (b ∷ p) (c ∷ t)
front_behind b c p t is (begins ys e) = begins ys (λ i. is i ∷ e i)
front_behind b c p t is (apart none) = apart (λ ys e. let tail : t ≡ p ++ ys = cc in none ys tail)

pub front : (p t : List ℕ) → Front p t
front [] t = begins t refl
front (b ∷ p) [] = apart (λ ys e. cc)
front (b ∷ p) (c ∷ t) =
    elim (cases_eq c b) [
      | inl is ↦ front_behind b c p t is (front p t)
      | inr other ↦ apart (λ ys e. other cc)
    ]

-- the bytes are nowhere in a text, or it is cut at their first place
pub data Closing (p t : List ℕ) : Type 0 where
  open_text : ((xs ys : List ℕ) → t ≢ xs ++ (p ++ ys)) → Closing p t
  closed : (value more : List ℕ) → t ≡ value ++ (p ++ more)
      → ((xs ys : List ℕ) → value ++ p ≡ xs ++ (p ++ ys) → length ys ≡ 0) → Closing p t

module _ (p : List ℕ) (some : 0 < length p) where
  abbrev IsFirst : List ℕ → Type 0
  IsFirst value = (xs ys : List ℕ) → value ++ p ≡ xs ++ (p ++ ys) → length ys ≡ 0

  first_here : IsFirst []
  first_here xs ys e = let len = ap length e ∙ length-append xs (p ++ ys) in
      let more = length-append p ys in omega arith

  -- if they don't begin at the first byte, the first place in the rest is the first in the whole
  first_behind : (c : ℕ) (t v m : List ℕ) → t ≡ v ++ (p ++ m) → ((ys : List ℕ) → c ∷ t ≢ p ++ ys)
      → IsFirst v → IsFirst (c ∷ v)
  first_behind c t v m e none first [] ys is =
      absurd (none (ys ++ m) (ap (λ l. c ∷ l) (e ∙ sym (append_assoc v p m)) ∙ ap (λ l. l ++ m) is
      ∙ append_assoc p ys m))
  first_behind c t v m e none first (x ∷ xs) ys is =
      let tail : v ++ p ≡ xs ++ (p ++ ys) = cc in
      first xs ys tail

  none_behind : (c : ℕ) (t : List ℕ) → ((ys : List ℕ) → c ∷ t ≢ p ++ ys)
      → ((xs ys : List ℕ) → t ≢ xs ++ (p ++ ys)) → (xs ys : List ℕ) → c ∷ t ≢ xs ++ (p ++ ys)
  none_behind c t here later [] ys e = here ys e
  none_behind c t here later (x ∷ xs) ys e = let tail : t ≡ xs ++ (p ++ ys) = cc in later xs ys tail

  none_empty : (xs ys : List ℕ) → [] ≢ xs ++ (p ++ ys)
  none_empty xs ys e = let len = ap length e ∙ length-append xs (p ++ ys) in
      let more = length-append p ys in omega arith

  closing_behind : (c : ℕ) (t : List ℕ) → Front p (c ∷ t) → Closing p t → Closing p (c ∷ t)
  closing_behind c t (begins ys e) later = closed [] ys e first_here
  closing_behind c t (apart here) (open_text none) = open_text (none_behind c t here none)
  closing_behind c t (apart here) (closed v m e first) = closed (c ∷ v) m (ap (λ l. c ∷ l) e)
      (first_behind c t v m e here first)

  pub closing : (t : List ℕ) → Closing p t
  closing [] = open_text none_empty
  closing (c ∷ t) = closing_behind c t (front p (c ∷ t)) (closing t)
