-- One more item of a list: its block after those before it, or itself if it passes a test.
use Rattle.std.proofs.Common.{◌≡◌, ◌∙◌, ℕ, ◌+◌, ◌<◌, Bool, true, false, cond, List, [], ◌∷◌, ◌++◌}
use Rattle.std.proofs.Common.{append_assoc, length, get_or, take, ap, sym}
use Rattle.std.specs.Prelude.{filter}
use Rattle.std.specs.List.{flat_map}
use Rattle.std.proofs.lemmas.List.{append-nil, flat_map_more, take_more}
use Rattle.std.proofs.lemmas.List.Elements.{filter_more}

-- the block of one more item
pub joined_at : {X : Type 0} (f : X → List ℕ) (xs : List X) (i : ℕ) (d : X) (before after : List ℕ)
    → i < length xs
    → before ≡ flat_map f (take i xs) → after ≡ before ++ f (get_or xs i d)
    → after ≡ flat_map f (take (i + 1) xs)
joined_at f xs i d before after inside so_far added =
    added ∙ ap (λ a. a ++ f (get_or xs i d)) so_far ∙ flat_map_more f [] (take i xs) (get_or xs i d)
    ∙ ap (flat_map f) (sym (take_more xs i d inside))

module _ {X : Type 0} (p : X → Bool) (xs : List X) (i : ℕ) (d : X) (inside : i < length xs)
    (start before : List X)
    (so_far : before ≡ start ++ filter p (take i xs)) where
  -- one more item passes
  pub passing_at : (after : List X) → p (get_or xs i d) ≡ true
      → after ≡ before ++ get_or xs i d ∷ [] → after ≡ start ++ filter p (take (i + 1) xs)
  passing_at after passes pushed =
      let x = get_or xs i d in
      pushed ∙ ap (λ l. l ++ x ∷ []) so_far ∙ append_assoc start (filter p (take i xs)) (x ∷ [])
      ∙ ap (λ b. start ++ (filter p (take i xs) ++ cond b (x ∷ []) [])) (sym passes)
      ∙ ap (λ l. start ++ l) (sym (filter_more p xs i d inside))

  -- one more item doesn't pass
  pub failing_at : p (get_or xs i d) ≡ false → before ≡ start ++ filter p (take (i + 1) xs)
  failing_at fails =
      so_far ∙ ap (λ l. start ++ l) (sym (filter_more p xs i d inside
      ∙ ap (λ b. filter p (take i xs) ++ cond b (get_or xs i d ∷ []) []) fails
      ∙ append-nil (filter p (take i xs))))
