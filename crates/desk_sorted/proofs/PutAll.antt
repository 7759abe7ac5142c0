-- Rows that are put one after another.
use Rattle.std.proofs.Common.{◌≡◌, Bool, List, [], ◌∷◌, ◌++◌, refl, ap}
use Rattle.desk_model.specs.Lists.{put, put_all}
use Rattle.desk_sorted.specs.Sorted.{put_in_turn}

pub put_all-push : {A : Type 0} (below : A → A → Bool) (xs : List A) (x : A) (ys : List A)
    → put_all below (xs ++ x ∷ []) ys ≡ put_all below xs (put below x ys)
put_all-push below [] x ys = refl
put_all-push below (y ∷ xs) x ys = ap (put below y) (put_all-push below xs x ys)

pub put_in_turn-push : {A : Type 0} (below : A → A → Bool) (xs : List A) (x : A) (ys : List A)
    → put_in_turn below (xs ++ x ∷ []) ys ≡ put below x (put_in_turn below xs ys)
put_in_turn-push below [] x ys = refl
put_in_turn-push below (y ∷ xs) x ys = put_in_turn-push below xs x (put below y ys)
