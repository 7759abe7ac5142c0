-- Where a text may be cut, and what is there.
use Rattle.std.proofs.Common.{◌≡◌, inl, inr, ℕ, zero, suc, ◌+◌, ◌<◌, ◌≤◌, List, [], ◌∷◌, length}
use Rattle.std.proofs.Common.{get_or, take, drop, sym, subst, refl, arith, add-one, IsUtf8, true}
use Rattle.std.proofs.Common.{false, ⊎_elim, length-take-le, get_or-take}
use Rattle.std.specs.Prelude.{IsTrue, All}
use Rattle.std.specs.Str.{IsCharBoundary}
use Rattle.std.proofs.str.Laws.{order}
use Rattle.std.proofs.lemmas.Str.{IsCharBoundary-start, IsCharBoundary-end}
use Rattle.std.proofs.lemmas.Str.{IsCharBoundary-before_ascii, IsCharBoundary-after_ascii}
use Rattle.std.proofs.lemmas.Bool.Decides.{nat_tests}
use Rattle.std.proofs.lemmas.List.Elements.{All-from_get_or}
use Rattle.desk_tokens.specs.Tokens.{is_parenthesis, is_run_byte, NoRunBegins, IsPiece}
use Rattle.desk_base.specs.Bytes.{is_blank}

blank_low : (b : ℕ) → IsTrue (is_blank b) → b < 128
blank_low b h = grind (arith, nat_tests)

parenthesis_low : (b : ℕ) → IsTrue (is_parenthesis b) → b < 128
parenthesis_low b h = grind (arith, nat_tests)

stray_low : (b : ℕ) → is_run_byte b ≡ false → b < 128
stray_low b h = grind (arith, nat_tests)

pub blanks_boundary : (bs : List ℕ) (n : ℕ) → IsUtf8 bs → n ≤ length bs
    → ((i : ℕ) → i < n → IsTrue (is_blank (get_or bs i 0))) → IsCharBoundary bs n
blanks_boundary bs zero u within blank = IsCharBoundary-start bs u
blanks_boundary bs (suc k) u within blank =
    let at : IsCharBoundary bs (k + 1) =
    IsCharBoundary-after_ascii bs k u (omega arith)
    (blank_low (get_or bs k 0) (blank k (omega arith))) in
    rw add-one at at

pub run_boundary : (bs : List ℕ) (m : ℕ) → m ≤ length bs
    → (m < length bs → is_run_byte (get_or bs m 0) ≡ false) → IsCharBoundary bs m
run_boundary bs m within stops =
    ⊎_elim
    (λ inside. IsCharBoundary-before_ascii bs m inside (stray_low (get_or bs m 0) (stops inside)))
    (λ at_end. let is : m ≡ length bs = omega arith in
    subst (IsCharBoundary bs) (sym is) (IsCharBoundary-end bs))
    (order m (length bs))

pub parenthesis_boundary : (bs : List ℕ) → IsUtf8 bs → 0 < length bs
    → IsTrue (is_parenthesis (get_or bs 0 0)) → IsCharBoundary bs 1
parenthesis_boundary bs u some h = IsCharBoundary-after_ascii bs 0 u some
    (parenthesis_low (get_or bs 0 0) h)

pub all_blank : (bs : List ℕ) (n : ℕ) → n ≤ length bs
    → ((i : ℕ) → i < n → IsTrue (is_blank (get_or bs i 0)))
    → All (λ b. IsTrue (is_blank b)) (take n bs)
all_blank bs n within blank =
    All-from_get_or (λ b. IsTrue (is_blank b)) (take n bs) 0
    (λ i lt. let inside : i < n = omega (arith, length-take-le n bs within) in
    rw get_or-take (blank i inside))

pub parenthesis_piece : (bs rest : List ℕ) → 0 < length bs → IsTrue (is_parenthesis (get_or bs 0 0))
    → IsPiece (take 1 bs) rest
parenthesis_piece [] rest some h = absurd (omega arith)
parenthesis_piece (b ∷ bs) rest some h = inl (h, refl)

no_run_begins : (bs : List ℕ) (m : ℕ) → (m < length bs → is_run_byte (get_or bs m 0) ≡ false)
    → NoRunBegins (drop m bs)
no_run_begins [] zero stops = tt
no_run_begins [] (suc m) stops = tt
no_run_begins (b ∷ bs) zero stops = stops (omega arith)
no_run_begins (b ∷ bs) (suc m) stops = no_run_begins bs m (λ h. stops (omega arith))

pub run_piece : (bs : List ℕ) (m : ℕ) → 0 < length bs → m ≤ length bs
    → is_run_byte (get_or bs 0 0) ≡ true → ((i : ℕ) → i < m → IsTrue (is_run_byte (get_or bs i 0)))
    → (m < length bs → is_run_byte (get_or bs m 0) ≡ false) → IsPiece (take m bs) (drop m bs)
run_piece [] m some within first run stops = absurd (omega arith)
run_piece (b ∷ bs) zero some within first run stops = absurd (let no_first = stops some in cc)
run_piece (b ∷ bs) (suc m) some within first run stops =
    inr (
      All-from_get_or (λ x. IsTrue (is_run_byte x)) (b ∷ take m bs) 0
          (λ i lt. let inside : i < suc m = omega (arith, length-take-le m bs (omega arith)) in
          subst (λ x. IsTrue (is_run_byte x)) (sym (get_or-take (suc m) (b ∷ bs) i 0 inside))
          (run i inside)),
      no_run_begins (b ∷ bs) (suc m) stops,
    )

-- a byte that is neither a blank nor a parenthesis is a byte of a run
pub run_byte : (b : ℕ) → is_blank b ≡ false → is_parenthesis b ≡ false → is_run_byte b ≡ true
run_byte b no_blank no_parenthesis = grind (arith, nat_tests)
