-- Distinct texts have distinct idstrings.
use Rattle.std.proofs.Common.{◌≡◌, ◌∙◌, ℕ, zero, suc, Bool, true, false, List, [], ◌∷◌, ◌++◌, Ok}
use Rattle.std.proofs.Common.{ap, cond, drop, refl, sym, subst, arith}
use Rattle.std.proofs.lemmas.Bool.{false≢true}
use Rattle.hex.specs.Hex.{IsBytes, decode_of, encode_lower, encode_with}
use Rattle.hex.proofs.HexLemmas.{decode_of-encode_lower}
use Rattle.desk_cyclonedx.specs.Names.{component_id, escaped, escaped_byte, is_plain}

one_byte : (x : ℕ) (xs : List ℕ) → IsBytes (x ∷ xs) → IsBytes (x ∷ [])
one_byte x xs h zero = h 0
one_byte x xs h (suc i) = omega arith

same_code : (x y : ℕ) → IsBytes (x ∷ []) → IsBytes (y ∷ [])
    → encode_lower (x ∷ []) ≡ encode_lower (y ∷ []) → x ≡ y
same_code x y hx hy same =
    let both : Ok (x ∷ []) ≡ Ok (y ∷ []) = sym (decode_of-encode_lower (x ∷ []) hx)
    ∙ ap decode_of same ∙ decode_of-encode_lower (y ∷ []) hy in cc

plain_is_no_hyphen : (x : ℕ) → is_plain x ≡ true → x ≡ 45 → ⊥
plain_is_no_hyphen x plain is = false≢true (subst (λ v. is_plain v ≡ true) is plain)

not_empty : (x : ℕ) (rest : List ℕ) (p : Bool) → is_plain x ≡ p → [] ≡ escaped_byte x ++ rest → ⊥
not_empty x rest true is e =
    let f : [] ≡ x ∷ rest = e ∙ ap (λ b. cond b (x ∷ []) (45 ∷ encode_lower (x ∷ [])) ++ rest) is in
    absurd cc
not_empty x rest false is e =
    let f : [] ≡ 45 ∷ (encode_lower (x ∷ []) ++ rest) =
    e ∙ ap (λ b. cond b (x ∷ []) (45 ∷ encode_lower (x ∷ [])) ++ rest) is in
    absurd cc

one_more : (x y : ℕ) (xs ys : List ℕ) → IsBytes (x ∷ xs) → IsBytes (y ∷ ys)
    → (escaped xs ≡ escaped ys → xs ≡ ys) → (p q : Bool) → is_plain x ≡ p → is_plain y ≡ q
    → cond p (x ∷ []) (45 ∷ encode_lower (x ∷ [])) ++ escaped xs
    ≡ cond q (y ∷ []) (45 ∷ encode_lower (y ∷ [])) ++ escaped ys → x ∷ xs ≡ y ∷ ys
unfolding encode_with
one_more x y xs ys hx hy rest true true px py e =
    let first : x ≡ y = cc in
    let others : escaped xs ≡ escaped ys = cc in
    λ i. first i ∷ rest others i
one_more x y xs ys hx hy rest true false px py e =
    let first : x ≡ 45 = cc in absurd (plain_is_no_hyphen x px first)
one_more x y xs ys hx hy rest false true px py e =
    let first : 45 ≡ y = cc in absurd (plain_is_no_hyphen y py (sym first))
one_more x y xs ys hx hy rest false false px py e =
    let codes : encode_lower (x ∷ []) ≡ encode_lower (y ∷ []) = cc in
    let others : escaped xs ≡ escaped ys = cc in
    let first : x ≡ y = same_code x y (one_byte x xs hx) (one_byte y ys hy) codes in
    λ i. first i ∷ rest others i

pub apart : (a b : List ℕ) → IsBytes a → IsBytes b → escaped a ≡ escaped b → a ≡ b
apart [] [] ha hb e = refl
apart [] (y ∷ ys) ha hb e = absurd (not_empty y (escaped ys) (is_plain y) refl e)
apart (x ∷ xs) [] ha hb e = absurd (not_empty x (escaped xs) (is_plain x) refl (sym e))
apart (x ∷ xs) (y ∷ ys) ha hb e = one_more x y xs ys ha hb
    (apart xs ys (λ i. ha (suc i)) (λ i. hb (suc i))) (is_plain x) (is_plain y) refl refl e

pub ids_apart : (a b : List ℕ) → IsBytes a → IsBytes b → component_id a ≡ component_id b → a ≡ b
ids_apart a b ha hb e = apart a b ha hb (ap (drop 18) e)
