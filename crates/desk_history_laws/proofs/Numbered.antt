-- Numbers from 1.
use Rattle.std.proofs.Common.{◌≡◌, ℕ, ◌+◌, List, [], ◌∷◌, ◌++◌, length, map, ap, ◌∙◌, sym, arith}
use Rattle.std.proofs.Common.{append-nil, append_assoc}
use Rattle.std.specs.Prelude.{ℤ, pos}
use Rattle.std.specs.List.{enumerate_from, flat_map}
use Rattle.std.proofs.lemmas.List.{map-append, length-map}
use Rattle.desk_snapshot.specs.Rows.{AreFrom}

-- one more number after some
pub from_push : (n : ℕ) (ms : List ℤ) (m : ℕ) → AreFrom n ms → m ≡ n + length ms
    → AreFrom n (ms ++ pos m ∷ [])
from_push n [] m from e = (ap pos (e ∙ omega arith), tt)
from_push n (k ∷ ms) m from e = (from.0, from_push (n + 1) ms m from.1 (e ∙ omega arith))

-- one more row
pub rows_push : {A : Type 0} (f : A → ℤ) (xs : List A) (x : A) → AreFrom 1 (map f xs)
    → f x ≡ pos (length xs + 1) → AreFrom 1 (map f (xs ++ x ∷ []))
rows_push f xs x from e =
    rw (map-append f xs (x ∷ []), e)
    (from_push 1 (map f xs) (length xs + 1) from (omega (arith, length-map xs f)))

pub from_rows : {A : Type 0} (f : ℕ × A → ℤ) → ((d : ℕ × A) → f d ≡ pos d.0) → (n : ℕ) (xs : List A)
    → AreFrom n (map f (enumerate_from n xs))
from_rows f tells n [] = tt
from_rows f tells n (x ∷ xs) = (tells (n, x), from_rows f tells (n + 1) xs)

pub flat_map-push : {A B : Type 0} (f : A → List B) (xs : List A) (x : A)
    → flat_map f (xs ++ x ∷ []) ≡ flat_map f xs ++ f x
flat_map-push f [] x = append-nil (f x)
flat_map-push f (y ∷ ys) x = ap (λ zs. f y ++ zs) (flat_map-push f ys x)
    ∙ sym (append_assoc (f y) (flat_map f ys) (f x))
