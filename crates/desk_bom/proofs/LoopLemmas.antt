-- The step of a loop over a list that is looked at through a function.
use Rattle.std.proofs.Common.{◌≡◌, ◌∙◌, ℕ, ◌+◌, ◌<◌, Bool, true, false, List, [], ◌∷◌, ◌++◌, length}
use Rattle.std.proofs.Common.{take, drop, get_or, ap, sym, append_assoc, append-nil}
use Rattle.std.specs.Prelude.{Option, Some, None, map, ◌||◌}
use Rattle.std.specs.List.{list_any, filter_map, cons_option, concat}
use Rattle.std.proofs.lemmas.List.Folds.{concat-append}
use Rattle.std.proofs.lemmas.List.{drop_more, take_more}

module _ {X Y : Type 0} (f : X → Y) (xs : List X) (i : ℕ) (d : X) (inside : i < length xs) where
  pub seen_more : map f (drop i xs) ≡ f (get_or xs i d) ∷ map f (drop (i + 1) xs)
  seen_more = ap (map f) (drop_more xs i d inside)

  pub any_more : (p : Y → Bool) → p (f (get_or xs i d)) ≡ false
      → list_any p (map f (drop i xs)) ≡ list_any p (map f (drop (i + 1) xs))
  any_more p fails = ap (list_any p) seen_more
      ∙ ap (λ b. b || list_any p (map f (drop (i + 1) xs))) fails

  pub any_here : (p : Y → Bool) → p (f (get_or xs i d)) ≡ true
      → list_any p (map f (drop i xs)) ≡ true
  any_here p met = ap (list_any p) seen_more
      ∙ ap (λ b. b || list_any p (map f (drop (i + 1) xs))) met

  pub kept_more : {Z : Type 0} (h : Y → Option Z) (z : Z) (found : List Z)
      → h (f (get_or xs i d)) ≡ Some z
      → (found ++ z ∷ []) ++ filter_map h (map f (drop (i + 1) xs)) ≡ found
      ++ filter_map h (map f (drop i xs))
  kept_more h z found met =
      append_assoc found (z ∷ []) (filter_map h (map f (drop (i + 1) xs)))
      ∙ ap (λ o. found ++ cons_option o (filter_map h (map f (drop (i + 1) xs)))) (sym met)
      ∙ ap (λ l. found ++ filter_map h l) (sym seen_more)

  pub kept_over : {Z : Type 0} (h : Y → Option Z) (found : List Z) → h (f (get_or xs i d)) ≡ None
      → found ++ filter_map h (map f (drop (i + 1) xs)) ≡ found ++ filter_map h (map f (drop i xs))
  kept_over h found gone = ap (λ o. found ++ cons_option o (filter_map h (map f (drop (i + 1) xs))))
      (sym gone) ∙ ap (λ l. found ++ filter_map h l) (sym seen_more)

-- one more text after those joined so far
pub concat_more : (xs : List (List ℕ)) (i : ℕ) (d : List ℕ) → i < length xs
    → concat (take i xs) ++ get_or xs i d ≡ concat (take (i + 1) xs)
concat_more xs i d inside =
    ap (λ l. concat (take i xs) ++ l) (sym (append-nil (get_or xs i d)))
    ∙ sym (concat-append (take i xs) (get_or xs i d ∷ []))
    ∙ ap concat (sym (take_more xs i d inside))
