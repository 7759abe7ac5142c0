-- Texts one after another: the one at a place, and one more.
use Rattle.std.proofs.Common.{◌≡◌, ℕ, zero, suc, ◌-◌, ◌<◌, ◌≤◌, List, [], ◌∷◌, ◌++◌, length, get_or}
use Rattle.std.proofs.Common.{take, drop, refl, sym, ap, ap₂, ◌∙◌, subst, arith, length-append}
use Rattle.std.proofs.Common.{length-drop, IsUtf8, inl, inr}
use Rattle.std.specs.Prelude.{◌⊎◌, slice_range}
use Rattle.std.specs.Str.{IsCharBoundary}
use Rattle.std.proofs.lemmas.List.{get_or_read, drop-append-le, take-append-le, take_all, drop_at}
use Rattle.std.proofs.lemmas.List.{get_or_append_left}
use Rattle.std.proofs.lemmas.Str.{IsCharBoundary-start, IsCharBoundary-at_seam, IsCharBoundary-end}
use Rattle.desk_base.specs.Pieces.{pieces, AreEnds}

-- ---- at a place

pub length-pieces : (bytes : List ℕ) (start : ℕ) (ends : List ℕ)
    → length (pieces bytes start ends) ≡ length ends
length-pieces bytes start [] = refl
length-pieces bytes start (end ∷ ends) = ap suc (length-pieces bytes end ends)

pub is_inside : (bytes ends : List ℕ) (texts : List (List ℕ)) (place : ℕ)
    → pieces bytes 0 ends ≡ texts → place < length texts → place < length ends
is_inside bytes ends texts place are inside =
    omega (arith, length-pieces bytes 0 ends, ap length are, inside)

-- it goes from the end of the one before it to its own
pub piece_at : (bytes : List ℕ) (start : ℕ) (ends : List ℕ) (place : ℕ) (d : List ℕ)
    → place < length ends
    → get_or (pieces bytes start ends) place d ≡ slice_range bytes (get_or (start ∷ ends) place 0)
    (get_or ends place 0)
piece_at bytes start [] place d inside = absurd (omega arith)
piece_at bytes start (end ∷ ends) zero d inside = refl
piece_at bytes start (end ∷ ends) (suc place) d inside = piece_at bytes end ends place d
    (omega arith)

pub record IsCut (bytes : List ℕ) (start end : ℕ) : Type 0 where
  pub in_order : start ≤ end
  pub begins : IsCharBoundary bytes start
  pub stops : IsCharBoundary bytes end

pub cut_at : (bytes : List ℕ) (start : ℕ) (ends : List ℕ) (place : ℕ) → place < length ends
    → IsCharBoundary bytes start → AreEnds bytes start ends
    → IsCut bytes (get_or (start ∷ ends) place 0) (get_or ends place 0)
cut_at bytes start [] place inside begins are = absurd (omega arith)
cut_at bytes start (end ∷ ends) zero inside begins are =
    record { in_order = are.0; begins = begins; stops = are.1 }
cut_at bytes start (end ∷ ends) (suc place) inside begins are =
    cut_at bytes end ends place (omega arith) are.1 are.2

-- what is read of the text at a place
pub record IsPiece (bytes : List ℕ) (start end : ℕ) (text : List ℕ) : Type 0 where
  pub cut : IsCut bytes start end
  pub is : slice_range bytes start end ≡ text

module _ (bytes ends : List ℕ) (texts : List (List ℕ)) (place : ℕ)
    (listed : pieces bytes 0 ends ≡ texts) (inside : place < length texts) where
  pub is_piece : (shown given : List ℕ) (start end : ℕ) → IsUtf8 shown → AreEnds bytes 0 ends
      → shown ≡ bytes → given ≡ ends → start ≡ get_or (0 ∷ given) place 0
      → end ≡ get_or ends place end → IsPiece shown start end (get_or texts place [])
  is_piece shown given start end utf8 are show give from to =
      let within = is_inside bytes ends texts place listed inside in
      let begin : start ≡ get_or (0 ∷ ends) place 0 = from
      ∙ ap (λ all. get_or (0 ∷ all) place 0) give in
      let stop : end ≡ get_or ends place 0 = get_or_read ends place end within to 0 in
      let cut = cut_at shown 0 ends place within (IsCharBoundary-start shown utf8)
      (subst (λ all. AreEnds all 0 ends) (sym show) are) in
      record {
        cut = subst (λ i. IsCut shown i end) (sym begin)
            (subst (IsCut shown (get_or (0 ∷ ends) place 0)) (sym stop) cut);
        is = ap (λ all. slice_range all start end) show ∙ ap₂ (slice_range bytes) begin stop
            ∙ sym (piece_at bytes 0 ends place [] within) ∙ ap (λ all. get_or all place []) listed;
      }

-- ---- one more

kept_range : (bytes more : List ℕ) (i j : ℕ) → i ≤ j → j ≤ length bytes
    → slice_range (bytes ++ more) i j ≡ slice_range bytes i j
kept_range bytes more i j in_order inside =
    ap (take (j - i)) (drop-append-le i bytes more (omega arith))
    ∙ take-append-le (j - i) (drop i bytes) more (omega (arith, length-drop i bytes))

new_range : (bytes more : List ℕ) (end : ℕ) → end ≡ length (bytes ++ more)
    → slice_range (bytes ++ more) (length bytes) end ≡ more
new_range bytes more end last =
    ap (take (end - length bytes)) (drop_at bytes more (length bytes) refl)
    ∙ take_all (end - length bytes) more (omega (arith, length-append bytes more))

place_of : (n m : ℕ) → n ≤ m → (n < m) ⊎ (n ≡ m)
place_of n m within = grind arith

kept_boundary : (bytes more : List ℕ) (i : ℕ) → IsUtf8 more → IsCharBoundary bytes i
    → IsCharBoundary (bytes ++ more) i
kept_boundary bytes more i utf8 may = elim (place_of i (length bytes) may.0) [
  | inl inside ↦ (
    omega (arith, length-append bytes more),
    λ _. rw
        (get_or_append_left bytes more 0 i inside) (may.1 inside),
  )
  | inr last ↦ subst (IsCharBoundary (bytes ++ more)) (sym last)
      (IsCharBoundary-at_seam (bytes ++ more) bytes more refl utf8)
]

module _ (bytes text : List ℕ) (last : ℕ) (is_end : last ≡ length (bytes ++ text)) where
  pub pieces-push : (start : ℕ) (ends : List ℕ) → AreEnds bytes start ends
      → pieces (bytes ++ text) start (ends ++ last ∷ []) ≡ pieces bytes start ends ++ text ∷ []
  pieces-push start [] are = ap (λ piece. piece ∷ [])
      (ap (λ i. slice_range (bytes ++ text) i last) are ∙ new_range bytes text last is_end)
  pieces-push start (end ∷ ends) are = ap₂ (λ piece more. piece ∷ more)
      (kept_range bytes text start end are.0 are.1.0) (pieces-push end ends are.2)

  pub AreEnds-push : (start : ℕ) (ends : List ℕ) → IsUtf8 text → AreEnds bytes start ends
      → AreEnds (bytes ++ text) start (ends ++ last ∷ [])
  AreEnds-push start [] utf8 are = (
    omega (arith, length-append bytes text),
    subst
        (IsCharBoundary (bytes ++ text)) (sym is_end) (IsCharBoundary-end (bytes ++ text)),
    is_end,
  )
  AreEnds-push start (end ∷ ends) utf8 are =
      (are.0, kept_boundary bytes text end utf8 are.1, AreEnds-push end ends utf8 are.2)

-- the list with one more text, however its parts were made
pub record IsMore (bytes text ends after later : List ℕ) : Type 0 where
  pub listed : pieces after 0 later ≡ pieces bytes 0 ends ++ text ∷ []
  pub are : AreEnds after 0 later

pub is_more : (bytes text ends after later : List ℕ) (last : ℕ) → IsUtf8 text → AreEnds bytes 0 ends
    → after ≡ bytes ++ text → later ≡ ends ++ last ∷ [] → last ≡ length (bytes ++ text)
    → IsMore bytes text ends after later
is_more bytes text ends after later last utf8 are grown pushed is_end = record {
  listed = ap (λ all. pieces all 0 later) grown ∙ ap (pieces (bytes ++ text) 0) pushed
      ∙ pieces-push bytes text last is_end 0 ends are;
  are = subst (λ all. AreEnds all 0 later) (sym grown)
      (subst (AreEnds (bytes ++ text) 0) (sym pushed)
      (AreEnds-push bytes text last is_end 0 ends utf8 are));
}
