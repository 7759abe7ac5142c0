-- Texts that grow by what each element of a list adds.
use Rattle.std.proofs.Common.{◌≡◌, ◌∙◌, ℕ, ◌+◌, ◌<◌, List, ◌++◌, ap, get_or, length, sym, take}
use Rattle.std.specs.List.{flat_map}
use Rattle.std.proofs.lemmas.List.{flat_map_more, take_more}

-- one more is added
pub added_at : {X : Type 0} (f : X → List ℕ) (xs : List X) (i : ℕ) (d : X)
    (start before after : List ℕ) → i < length xs
    → before ≡ start ++ flat_map f (take i xs) → after ≡ before ++ f (get_or xs i d)
    → after ≡ start ++ flat_map f (take (i + 1) xs)
added_at f xs i d start before after inside so_far added =
    added ∙ ap (λ a. a ++ f (get_or xs i d)) so_far
    ∙ flat_map_more f start (take i xs) (get_or xs i d)
    ∙ ap (λ ys. start ++ flat_map f ys) (sym (take_more xs i d inside))
