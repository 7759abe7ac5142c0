-- The rowids that a table gives to new rows.
use Rattle.std.proofs.Common.{◌≡◌, ◌++◌, ℕ, zero, suc, ℤ, pos, negsuc, ◌+◌, ◌^◌, ◌<◌, ◌+ℤ◌, true}
use Rattle.std.proofs.Common.{List, [], ◌∷◌, fold, arith}
use Rattle.std.proofs.lemmas.Int.{ints}
use Rattle.std.specs.List.{AllByRecursion}
use Rattle.std.proofs.lemmas.Bool.Decides.{nat_tests}
use Rattle.sqlite_value.specs.declared.value.Value.{Value}
use Rattle.sqlite_value.specs.declared.value.Value.TheVariants.{Null, Int, Real, Text, Blob}
use Rattle.sqlite_value.specs.Order.{Row}
use Rattle.sqlite_trees.specs.Tree.{rowid}
use Rattle.sqlite_trees.specs.View.{is_int}
use Rattle.sqlite_sql.specs.Ops.{fits_i64}
use Rattle.sqlite_rules.specs.Edit.{id_in, next_rowid}
use Rattle.desk_sql_write.specs.Taking.{LeavesRoom}

one_on : (n : ℕ) → n < 2 ^ 62 → (v : Value) → is_int v ≡ true → LeavesRoom (n + 1) v
    → LeavesRoom n (Int (id_in v +ℤ pos 1))
one_on n few Null whole h = absurd (cc)
one_on n few (Int (pos id)) whole h = omega (arith, h)
one_on n few (Int (negsuc zero)) whole h = omega (arith, few)
one_on n few (Int (negsuc (suc id))) whole h = let e : negsuc (suc id) +ℤ pos 1 ≡ negsuc id =
    omega (arith, ints) in rw e (omega (arith, h))
one_on n few (Real x) whole h = absurd (cc)
one_on n few (Text t) whole h = absurd (cc)
one_on n few (Blob b) whole h = absurd (cc)

-- after the rowid that follows the last there is room for one row less
pub next_room : (n : ℕ) → n < 2 ^ 62 → (rows : List Row)
    → AllByRecursion (λ r. is_int (rowid r) ≡ true) rows
    → AllByRecursion (λ r. LeavesRoom (n + 1) (rowid r)) rows → LeavesRoom n (Int (next_rowid rows))
next_room n few rows keyed all = go (pos 1) rows (omega (arith, few)) keyed all
  where
    go : (start : ℤ) (rows : List Row) → LeavesRoom n (Int start)
        → AllByRecursion (λ r. is_int (rowid r) ≡ true) rows
        → AllByRecursion (λ r. LeavesRoom (n + 1) (rowid r)) rows
        → LeavesRoom n (Int (fold (λ _ r. id_in (rowid r) +ℤ pos 1) start rows))
    go start [] h keyed all = h
    go start (r ∷ rows) h keyed all = go (id_in (rowid r) +ℤ pos 1) rows
        (one_on n few (rowid r) keyed.0 all.0) keyed.1 all.1

pub room_fits : (n : ℕ) (id : ℤ) → LeavesRoom n (Int id) → fits_i64 id ≡ true
room_fits n (pos id) h = grind (arith, nat_tests)
room_fits n (negsuc id) h = grind (arith, nat_tests)

pub more_room : (n many : ℕ) (v : Value) → LeavesRoom (n + many) v → LeavesRoom n v
more_room n many Null h = h
more_room n many (Int (pos id)) h = omega (arith, h)
more_room n many (Int (negsuc id)) h = h
more_room n many (Real x) h = h
more_room n many (Text t) h = h
more_room n many (Blob b) h = h

pub front_all : {X : Type 0} (P : X → Type 0) (xs ys : List X) → AllByRecursion P (xs ++ ys)
    → AllByRecursion P xs
front_all P [] ys all = tt
front_all P (x ∷ xs) ys all = (all.0, front_all P xs ys all.1)

pub fewer_left : (n many : ℕ) (rows : List Row)
    → AllByRecursion (λ r. LeavesRoom (n + many) (rowid r)) rows
    → AllByRecursion (λ r. LeavesRoom n (rowid r)) rows
fewer_left n many [] all = tt
fewer_left n many (r ∷ rows) all = (more_room n many (rowid r) all.0, fewer_left n many rows all.1)
