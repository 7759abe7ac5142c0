-- Texts added one after another, and taken away.
use Rattle.std.proofs.Common.{◌≡◌, ◌∙◌, ℕ, ◌+◌, ◌<◌, ◌≤◌, List, [], ◌∷◌, ◌++◌, append_assoc, length}
use Rattle.std.proofs.Common.{Bool, true, false, drop, filter, get_or, ap, map, refl, sym}
use Rattle.std.proofs.lemmas.List.{append-nil, at_drop_all, drop_more, map-append}
use Rattle.desk_base.specs.Borrowed.{texts}
use denote.Ref.{Bor}

-- a piece followed by others
pub before : {A : Type 0} (old piece rest : List A) {mid new : List A} → mid ≡ old ++ piece
    → new ≡ mid ++ rest → new ≡ old ++ (piece ++ rest)
before old piece rest one others = others ∙ ap (λ l. l ++ rest) one ∙ append_assoc old piece rest

module _ {X A : Type 0} (whole : List X → List A) (piece : X → List A) (xs : List X) (i : ℕ) where
  -- one more piece, and those that are still to come
  pub piece_more : (x : X) (old new all : List A)
      → ((rest : List X) → whole (x ∷ rest) ≡ piece x ++ whole rest) → i < length xs
      → x ≡ get_or xs i x
      → old ++ whole (drop i xs) ≡ all → new ≡ old ++ piece x → new ++ whole (drop (i + 1) xs) ≡ all
  piece_more x old new all first inside at so_far added =
      let rest = drop (i + 1) xs in
      ap (λ l. l ++ whole rest) added ∙ append_assoc old (piece x) (whole rest)
      ∙ ap (λ l. old ++ l) (sym (first rest))
      ∙ ap (λ l. old ++ whole l) (ap (λ y. y ∷ rest) at ∙ sym (drop_more xs i x inside)) ∙ so_far

  -- no pieces are still to come
  pub pieces_end : (found all : List A) → length xs ≤ i → whole [] ≡ []
      → found ++ whole (drop i xs) ≡ all → found ≡ all
  pieces_end found all out none so_far =
      sym (append-nil found) ∙ ap (λ l. found ++ l) (sym (at_drop_all whole xs i out ∙ none))
      ∙ so_far

-- one more text
pub pushed : (old new : List (Bor (List ℕ))) (text : Bor (List ℕ)) → new ≡ old ++ text ∷ []
    → texts new ≡ texts old ++ text.now ∷ []
pushed old new text is = ap texts is ∙ map-append (λ (t : Bor (List ℕ)). t.now) old (text ∷ [])

-- filtered before or after a map
pub filter_mapped : {A B : Type 0} (f : A → B) (p : B → Bool) (xs : List A)
    → map f (filter (λ x. p (f x)) xs) ≡ filter p (map f xs)
filter_mapped f p [] = refl
filter_mapped f p (x ∷ xs) = step (filter_mapped f p xs) (p (f x)) refl where
  step : map f (filter (λ y. p (f y)) xs) ≡ filter p (map f xs) → (b : Bool) → p (f x) ≡ b
      → map f (filter (λ y. p (f y)) (x ∷ xs)) ≡ filter p (map f (x ∷ xs))
  step more true is = rw is (ap (λ l. f x ∷ l) more)
  step more false is = rw is more
