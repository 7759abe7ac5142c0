-- The texts of terms sort as the terms do: each byte of a key comes after the plus and the blank
-- that may follow a key.
use Rattle.std.proofs.Common.{◌≡◌, ◌∙◌, ℕ, suc, ◌+◌, ◌≤◌, List, [], ◌∷◌, ◌++◌, length, take, drop}
use Rattle.std.proofs.Common.{Bool, true, false, cond, refl, sym, ap, subst, arith, append_assoc}
use Rattle.std.proofs.Common.{Option, Some, None, codes, nat_eq}
use Rattle.std.specs.Prelude.{IsTrue, ◌&&◌, ◌||◌, not, if◌then◌else◌, nat_lt, ◌==◌}
use Rattle.std.specs.List.{list_all, starts_with, before_first, after_first, position_or_len}
use Rattle.std.specs.Option.{option_cmp}
use Rattle.std.specs.Ordering.{nat_cmp, bool_cmp, ordering_then}
use Rattle.std.specs.Cmp.Lexicographic.{slice_cmp}
use Rattle.std.specs.declared.cmp.Ordering.{Ordering}
use Rattle.std.specs.declared.cmp.Ordering.TheVariants.{Less, Equal, Greater}
use Rattle.std.specs.Str.{bytes_eq}
use Rattle.std.proofs.lemmas.Bool.{eqb-true, and_from}
use Rattle.std.proofs.lemmas.Bool.Decides.{nat_tests}
use Rattle.std.proofs.lemmas.Slice.Eq.{bytes_eq-Decides}
use Rattle.std.proofs.lemmas.List.{take-append-drop}
use Rattle.std.proofs.lemmas.List.Folds.{list_all-append}
use Rattle.desk_base.proofs.Bools.{and_left, and_right}
use Rattle.desk_base.specs.Idstring.{is_idstring_byte, is_idstring}
use Rattle.desk_base.specs.Folded.{folded}
use Rattle.desk_expr.specs.declared.term.Term.{Term}
use Rattle.desk_tokens.specs.Words.{is_local_reference, is_reference_of_document, is_reference}
use Rattle.desk_expr.specs.Words.{is_folded_id, is_exception, is_term}
use Rattle.desk_expr.specs.Occurring.{term_order}
use Rattle.desk_expr.specs.Printing.{printed_term, printed_exception}

-- ---- the bytes of a key

-- a byte that comes after the plus
abbrev is_late : ℕ → Bool
is_late b = nat_lt 43 b

abbrev are_late : List ℕ → Bool
are_late w = list_all is_late w

id_byte_late : (b : ℕ) → is_idstring_byte b ≡ true → is_late b ≡ true
id_byte_late b h = grind (arith, nat_tests)

bytes_late : (w : List ℕ) → list_all is_idstring_byte w ≡ true → are_late w ≡ true
bytes_late [] h = refl
bytes_late (b ∷ bs) h =
    and_from (is_late b) (are_late bs)
    (id_byte_late b (and_left (is_idstring_byte b) (list_all is_idstring_byte bs) h))
    (bytes_late bs (and_right (is_idstring_byte b) (list_all is_idstring_byte bs) h))

idstring_late : (w : List ℕ) → is_idstring w ≡ true → are_late w ≡ true
idstring_late w h = bytes_late w (and_right (nat_lt 0 (length w)) (list_all is_idstring_byte w) h)

joined_late : (v w : List ℕ) → are_late v ≡ true → are_late w ≡ true → are_late (v ++ w) ≡ true
joined_late v w h k = list_all-append is_late v w ∙ and_from (are_late v) (are_late w) h k

prefix_late : (w needle : List ℕ) → starts_with nat_eq w needle ≡ true → are_late needle ≡ true
    → are_late (drop (length needle) w) ≡ true → are_late w ≡ true
prefix_late w needle h late rest =
    let front : needle ≡ take (length needle) w =
    (bytes_eq-Decides needle (take (length needle) w)).0 h in
    subst (λ l. are_late l ≡ true) (take-append-drop (length needle) w)
    (joined_late (take (length needle) w) (drop (length needle) w)
    (subst (λ l. are_late l ≡ true) front late) rest)

local_late : (w : List ℕ) → is_local_reference w ≡ true → are_late w ≡ true
local_late w h =
    prefix_late w (codes "LicenseRef-")
    (and_left (starts_with nat_eq w (codes "LicenseRef-")) (is_idstring (drop 11 w)) h) refl
    (idstring_late (drop 11 w) (and_right (starts_with nat_eq w (codes "LicenseRef-"))
    (is_idstring (drop 11 w)) h))

colon_late : (xs : List ℕ) → are_late (before_first (λ b. b == 58) xs) ≡ true
    → are_late (after_first (λ b. b == 58) xs) ≡ true → are_late xs ≡ true
colon_late [] h k = refl
colon_late (x ∷ xs) h k = by_colon (λ a b. colon_late xs a b) (x == 58) refl h k
  where
    n : ℕ
    n = position_or_len (λ b. b == 58) xs

    by_colon : (are_late (before_first (λ b. b == 58) xs) ≡ true
        → are_late (after_first (λ b. b == 58) xs) ≡ true → are_late xs ≡ true) → (v : Bool)
        → (x == 58) ≡ v → are_late (take (cond (not v) (1 + n) 0) (x ∷ xs)) ≡ true
        → are_late (drop (cond (not v) (1 + n) 0 + 1) (x ∷ xs)) ≡ true → are_late (x ∷ xs) ≡ true
    by_colon rest true e h k = and_from (is_late x) (are_late xs) (ap is_late (eqb-true x 58 e)) k
    by_colon rest false e h k =
        let first : suc n ≡ 1 + n = omega arith in
        let second : suc (n + 1) ≡ 1 + n + 1 = omega arith in
        let h' : are_late (take (suc n) (x ∷ xs)) ≡ true =
        subst (λ m. are_late (take m (x ∷ xs)) ≡ true) (sym first) h in
        let k' : are_late (drop (suc (n + 1)) (x ∷ xs)) ≡ true =
        subst (λ m. are_late (drop m (x ∷ xs)) ≡ true) (sym second) k in
        and_from (is_late x) (are_late xs) (and_left (is_late x) (are_late (take n xs)) h')
        (rest (and_right (is_late x) (are_late (take n xs)) h') k')

document_late : (w : List ℕ) → is_reference_of_document w ≡ true → are_late w ≡ true
document_late w h =
    let before = before_first (λ b. b == 58) w in
    let after = after_first (λ b. b == 58) w in
    colon_late w (idstring_late before (and_left (is_idstring before) (is_local_reference after) h))
    (local_late after (and_right (is_idstring before) (is_local_reference after) h))

either_late : (w : List ℕ) (x y : Bool) → (x || y) ≡ true → (x ≡ true → are_late w ≡ true)
    → (y ≡ true → are_late w ≡ true) → are_late w ≡ true
either_late w true y h f g = f refl
either_late w false y h f g = g h

reference_late : (w : List ℕ) → is_reference w ≡ true → are_late w ≡ true
reference_late w h =
    let begins = starts_with nat_eq w (codes "DocumentRef-") in
    let rest = is_reference_of_document (drop 12 w) in
    either_late w (is_local_reference w) (begins && rest) h (local_late w)
    (λ e. prefix_late w (codes "DocumentRef-") (and_left begins rest e) refl
    (document_late (drop 12 w) (and_right begins rest e)))

key_late : (t : Term) → is_term t ≡ true → are_late t.key ≡ true
key_late t h =
    let id = is_folded_id t.key in
    let reference = is_reference t.key && not t.plus in
    either_late t.key id reference (and_left (id || reference) (is_exception t.exception) h)
    (λ e. idstring_late t.key (and_left (is_idstring t.key) (bytes_eq (folded t.key) t.key) e))
    (λ e. reference_late t.key (and_left (is_reference t.key) (not t.plus) e))

-- ---- keys with what follows them

-- what may follow a key: nothing, or a byte up to the plus
abbrev IsTail : List ℕ → Type 0
IsTail [] = Unit {0}
IsTail (b ∷ bs) = b ≤ 43

earlier : (x y : ℕ) → x ≤ 43 → is_late y ≡ true → nat_cmp x y ≡ Less
earlier x y le late = grind (arith, nat_tests)

later : (x y : ℕ) → is_late x ≡ true → y ≤ 43 → nat_cmp x y ≡ Greater
later x y late le = grind (arith, nat_tests)

tail_before : (s : List ℕ) (y : ℕ) (ys : List ℕ) → IsTail s → is_late y ≡ true
    → slice_cmp nat_cmp s (y ∷ ys) ≡ Less
tail_before [] y ys tail late = refl
tail_before (x ∷ s) y ys tail late = ap (λ o. ordering_then o (slice_cmp nat_cmp s ys))
    (earlier x y tail late)

tail_behind : (x : ℕ) (xs t : List ℕ) → is_late x ≡ true → IsTail t
    → slice_cmp nat_cmp (x ∷ xs) t ≡ Greater
tail_behind x xs [] late tail = refl
tail_behind x xs (y ∷ t) late tail = ap (λ o. ordering_then o (slice_cmp nat_cmp xs t))
    (later x y late tail)

then_first : (o p q : Ordering)
    → ordering_then o (ordering_then p q) ≡ ordering_then (ordering_then o p) q
then_first Less p q = refl
then_first Equal p q = refl
then_first Greater p q = refl

keys_first : (k l s t : List ℕ) → are_late k ≡ true → are_late l ≡ true → IsTail s → IsTail t
    → slice_cmp nat_cmp (k ++ s) (l ++ t)
    ≡ ordering_then (slice_cmp nat_cmp k l) (slice_cmp nat_cmp s t)
keys_first [] [] s t late late' tail tail' = refl
keys_first [] (y ∷ l) s t late late' tail tail' = tail_before s y (l ++ t) tail
    (and_left (is_late y) (are_late l) late')
keys_first (x ∷ k) [] s t late late' tail tail' = tail_behind x (k ++ s) t
    (and_left (is_late x) (are_late k) late) tail'
keys_first (x ∷ k) (y ∷ l) s t late late' tail tail' =
    ap (ordering_then (nat_cmp x y))
    (keys_first k l s t (and_right (is_late x) (are_late k) late)
    (and_right (is_late y) (are_late l) late') tail tail')
    ∙ then_first (nat_cmp x y) (slice_cmp nat_cmp k l) (slice_cmp nat_cmp s t)

-- what follows the key of a printed term
abbrev tail_of : Bool → Option (List ℕ) → List ℕ
tail_of plus exception = (if plus then codes "+" else []) ++ printed_exception exception

is_tail : (plus : Bool) (exception : Option (List ℕ)) → IsTail (tail_of plus exception)
is_tail true exception = omega arith
is_tail false None = tt
is_tail false (Some x) = omega arith

tails_sort : (p q : Bool) (x y : Option (List ℕ))
    → slice_cmp nat_cmp (tail_of p x) (tail_of q y)
    ≡ ordering_then (bool_cmp p q) (option_cmp (slice_cmp nat_cmp) x y)
tails_sort true true None None = refl
tails_sort true true None (Some y) = refl
tails_sort true true (Some x) None = refl
tails_sort true true (Some x) (Some y) = refl
tails_sort true false None None = refl
tails_sort true false None (Some y) = refl
tails_sort true false (Some x) None = refl
tails_sort true false (Some x) (Some y) = refl
tails_sort false true None None = refl
tails_sort false true None (Some y) = refl
tails_sort false true (Some x) None = refl
tails_sort false true (Some x) (Some y) = refl
tails_sort false false None None = refl
tails_sort false false None (Some y) = refl
tails_sort false false (Some x) None = refl
tails_sort false false (Some x) (Some y) = refl

printed-parts : (t : Term) → printed_term t ≡ t.key ++ tail_of t.plus t.exception
printed-parts t = append_assoc t.key (if t.plus then codes "+" else [])
    (printed_exception t.exception)

pub texts_sort : (a b : Term) → IsTrue (is_term a) → IsTrue (is_term b)
    → slice_cmp nat_cmp (printed_term a) (printed_term b) ≡ term_order a b
texts_sort a b h k =
    (λ i. slice_cmp nat_cmp (printed-parts a i) (printed-parts b i))
    ∙ keys_first a.key b.key (tail_of a.plus a.exception) (tail_of b.plus b.exception)
    (key_late a h) (key_late b k) (is_tail a.plus a.exception) (is_tail b.plus b.exception)
    ∙ ap (ordering_then (slice_cmp nat_cmp a.key b.key))
    (tails_sort a.plus b.plus a.exception b.exception)
