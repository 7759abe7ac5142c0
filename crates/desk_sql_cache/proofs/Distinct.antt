-- Rows of a table, no two of which have the same key.
use Rattle.std.proofs.Common.{◌≡◌, ◌∙◌, ℕ, Bool, true, false, List, [], ◌∷◌, map, ap, subst}
use Rattle.std.proofs.Common.{is_eq}
use Rattle.std.specs.List.{AllByRecursion, IsDistinct}
use Rattle.std.proofs.lemmas.Cmp.{tied_itself}
use Rattle.desk_base.proofs.Orders.{is_eq-reverse}
use Rattle.sqlite_value.specs.Order.{Row}
use Rattle.sqlite_trees.specs.Tree.{IsAscending}
use Rattle.sqlite_sql.specs.Query.{key_cmp}
use Rattle.sqlite_sql.proofs.QueryLemmas.{key_cmp_total}
use Rattle.desk_sql_layout.proofs.Ties.{keys}

-- the values of the key in these places are the same
abbrev pub tie : List ℕ → Row → Row → Bool
tie places k l = is_eq (key_cmp 0 (keys places) k l)

pub tie_flips : (places : List ℕ) (k l : Row) → tie places k l ≡ tie places l k
tie_flips places k l = ap is_eq ((key_cmp_total (keys places) 0).antisymm k l)
    ∙ is_eq-reverse (key_cmp 0 (keys places) l k)

pub tied_alike : (places : List ℕ) (k l : Row) → k ≡ l → tie places k l ≡ true
tied_alike places k l same = subst (λ m. tie places k m ≡ true) same
    (ap is_eq (tied_itself (key_cmp_total (keys places) 0) k))

pub distinct_from : {X : Type 0} (e : X → X → Bool) (xs : List X)
    → IsAscending (λ a b. e a b ≡ false) xs → IsDistinct e xs
unfolding IsDistinct
distinct_from e [] up = tt
distinct_from e (x ∷ xs) up = (up.0, distinct_from e xs up.1)

pub distinct_unmapped : {X Y : Type 0} (e : Y → Y → Bool) (f : X → Y) (xs : List X)
    → IsDistinct e (map f xs) → IsDistinct (λ a b. e (f a) (f b)) xs
unfolding IsDistinct
distinct_unmapped e f [] are = tt
distinct_unmapped {X} e f (x ∷ xs) are = (all xs are.0, distinct_unmapped e f xs are.1)
  where
    all : (ys : List X) → AllByRecursion (λ y. e (f x) y ≡ false) (map f ys)
        → AllByRecursion (λ y. e (f x) (f y) ≡ false) ys
    all [] h = tt
    all (y ∷ ys) h = (h.0, all ys h.1)
