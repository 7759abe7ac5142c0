-- Rows that are added after those of a table.
use Rattle.std.proofs.Common.{◌≡◌, ◌≢◌, ◌∙◌, ℕ, ◌+◌, ◌<◌, ◌≤◌, Bool, true, false, cond, List, []}
use Rattle.std.proofs.Common.{◌∷◌, ◌++◌, filter, flat_map, get_or, map, take, length, length-append}
use Rattle.std.proofs.Common.{Ok, Err, Result, refl, sym, ap, subst, arith}
use Rattle.std.specs.Prelude.{◌==◌}
use Rattle.std.specs.Result.{IsErrAnd}
use Rattle.std.proofs.lemmas.Bool.Decides.{nat_tests}
use Rattle.std.proofs.lemmas.Grind.{flat_map-append}
use Rattle.std.proofs.lemmas.List.{map-append}
use Rattle.std.proofs.lemmas.List.Concat.{flat_map_single}
use Rattle.std.proofs.lemmas.List.{append-nil, append_assoc}
use Rattle.std.proofs.lemmas.List.Elements.{filter-append}
use Rattle.sqlite_value.specs.Order.{Row}
use Rattle.sqlite.specs.State.{State}
use Rattle.desk_model.specs.declared.command.Fault.{Fault}
use Rattle.desk_model.specs.declared.row.ChangeRow.{ChangeRow}
use Rattle.desk_model.specs.Moves.{is_waiver}
use Rattle.desk_sql_layout.specs.Cells.{waiver_cells}
use Rattle.desk_sql_write.specs.Turning.{Adds, with_rows}
use Rattle.desk_sql_write.proofs.Extending.{never_extends, table_extends, then_extends}
use Rattle.desk_sql_write.proofs.Going.{as_turns, more_turns, none_turns}
use Rattle.desk_sql_write.proofs.Lists.{front_more}

module _ (tree : ℕ) where
  pub with_here : (more : List Row) (rows : ℕ → List Row)
      → with_rows tree more rows tree ≡ rows tree ++ more
  with_here more rows = go (tree == tree) refl
    where
      go : (b : Bool) → (tree == tree) ≡ b
          → cond b (rows tree ++ more) (rows tree) ≡ rows tree ++ more
      go true is = refl
      go false is = absurd (let no : ⊥ = grind (arith, nat_tests) in no)

  pub with_elsewhere : (more : List Row) (rows : ℕ → List Row) (other : ℕ) → other ≢ tree
      → with_rows tree more rows other ≡ rows other
  with_elsewhere more rows other apart = go (other == tree) refl
    where
      go : (b : Bool) → (other == tree) ≡ b → cond b (rows other ++ more) (rows other) ≡ rows other
      go true is = absurd (apart (grind (arith, nat_tests)))
      go false is = refl

  pub with_none : (rows : ℕ → List Row) (other : ℕ) → rows other ≡ with_rows tree [] rows other
  with_none rows other = go (other == tree)
    where
      go : (b : Bool) → rows other ≡ cond b (rows other ++ []) (rows other)
      go true = sym (append-nil (rows other))
      go false = refl

  pub with_both : (xs ys : List Row) (rows : ℕ → List Row) (other : ℕ)
      → with_rows tree ys (with_rows tree xs rows) other ≡ with_rows tree (xs ++ ys) rows other
  with_both xs ys rows other = go (other == tree)
    where
      go : (b : Bool) → cond b (cond b (rows other ++ xs) (rows other) ++ ys)
          (cond b (rows other ++ xs) (rows other)) ≡ cond b (rows other ++ (xs ++ ys)) (rows other)
      go true = append_assoc (rows other) xs ys
      go false = refl

  module _ {X : Type 0} (shown : List X → List Row)
      (both : (xs ys : List X) → shown (xs ++ ys) ≡ shown xs ++ shown ys) where
    same_rows : (xs ys : List X) (rows : ℕ → List Row) (other : ℕ)
        → with_rows tree (shown ys) (with_rows tree (shown xs) rows) other
        ≡ with_rows tree (shown (xs ++ ys)) rows other
    same_rows xs ys rows other = with_both (shown xs) (shown ys) rows other
        ∙ ap (λ l. with_rows tree l rows other) (sym (both xs ys))

    -- some rows, and then more rows
    pub more_put : (xs ys : List X) {k : ℕ} {a b c : State} {r : Result (Unit {0}) Fault}
        → k ≤ length ys → Adds (with_rows tree (shown xs)) (length xs) a b (Ok tt)
        → Adds (with_rows tree (shown ys)) k b c r
        → Adds (with_rows tree (shown (xs ++ ys))) (length (xs ++ ys)) a c r
    more_put xs ys {k} {a} {b} {c} {r} few v w = more_turns (λ rows. rows)
        (with_rows tree (shown (xs ++ ys))) (length xs + k) (length (xs ++ ys)) a c r
        (omega (arith, few, length-append xs ys))
        (as_turns (λ rows. rows)
        (λ rows. with_rows tree (shown ys) (with_rows tree (shown xs) rows))
        (with_rows tree (shown (xs ++ ys))) (length xs + k) a c r (same_rows xs ys)
        (then_extends (table_extends tree (shown ys)) v w))

    -- a write of the first ones that failed
    pub front_fails : (all front rest : List X) {a b : State} {r : Result (Unit {0}) Fault}
        {fault : Fault} → IsErrAnd r (λ e. e ≡ fault) → all ≡ front ++ rest
        → Adds (with_rows tree (shown front)) (length front) a b (Err fault)
        → Adds (with_rows tree (shown all)) (length all) a b r
    front_fails all front rest {a} {b} {r} {fault} is whole v =
        subst (λ (l : List X). Adds (with_rows tree (shown l)) (length l) a b r) (sym whole)
        (as_turns (λ rows. rows)
        (λ rows. with_rows tree (shown rest) (with_rows tree (shown front) rows))
        (with_rows tree (shown (front ++ rest))) (length (front ++ rest)) a b r
        (same_rows front rest)
        (never_extends (table_extends tree (shown rest)) (omega (arith, length-append front rest))
        is v))

-- no rows at all
pub none_put : (tree many : ℕ) (a : State) → Adds (with_rows tree []) many a a (Ok tt)
none_put tree many a = more_turns (λ rows. rows) (with_rows tree []) 0 many a a (Ok tt)
    (omega arith) (as_turns (λ rows. rows) (λ rows. rows) (with_rows tree []) 0 a a (Ok tt)
    (with_none tree) (none_turns (λ rows. rows) a))

-- one row for each
pub single_put : {X : Type 0} (tree : ℕ) (cells : X → Row) (xs : List X) {many : ℕ} {a b : State}
    {r : Result (Unit {0}) Fault}
    → Adds (with_rows tree (flat_map (λ x. cells x ∷ []) xs)) many a b r
    → Adds (with_rows tree (map cells xs)) many a b r
single_put tree cells xs {many} {a} {b} {r} = subst (λ l. Adds (with_rows tree l) many a b r)
    (flat_map_single cells xs)

-- one row for each waiver that ends
pub waivers_put : (xs : List ChangeRow) {many : ℕ} {a b : State} {r : Result (Unit {0}) Fault}
    → Adds (with_rows 28 (flat_map (λ x. map waiver_cells (filter is_waiver (x ∷ []))) xs)) many a b
    r → Adds (with_rows 28 (map waiver_cells (filter is_waiver xs))) many a b r
waivers_put xs {many} {a} {b} {r} = subst (λ l. Adds (with_rows 28 l) many a b r) (each xs)
  where
    each : (xs : List ChangeRow) → flat_map (λ x. map waiver_cells (filter is_waiver (x ∷ []))) xs
        ≡ map waiver_cells (filter is_waiver xs)
    each [] = refl
    each (x ∷ xs) =
        ap (λ l. map waiver_cells (filter is_waiver (x ∷ [])) ++ l) (each xs)
        ∙ sym (map-append waiver_cells (filter is_waiver (x ∷ [])) (filter is_waiver xs))
        ∙ ap (map waiver_cells) (sym (filter-append is_waiver (x ∷ []) xs))

-- those of the first rows, and then those of the next one
pub next_put : {X : Type 0} (tree : ℕ) (f : X → List Row) (rows : List X) (n : ℕ) (row : X)
    {a b c : State} {r : Result (Unit {0}) Fault} → row ≡ get_or rows n row → n < length rows
    → Adds (with_rows tree (flat_map f (take n rows))) (length (take n rows)) a b (Ok tt)
    → Adds (with_rows tree (f row)) 1 b c r
    → Adds (with_rows tree (flat_map f (take (n + 1) rows))) (length (take (n + 1) rows)) a c r
next_put {X} tree f rows n row {a} {b} {c} {r} is low v w =
    subst (λ (l : List X). Adds (with_rows tree (flat_map f l)) (length l) a c r)
    (front_more [] rows n row row is low)
    (more_put tree (flat_map f) (flat_map-append f) (take n rows) (row ∷ []) (omega arith) v
    (subst (λ l. Adds (with_rows tree l) 1 b c r) (sym (append-nil (f row))) w))

-- no table is another than itself
pub not_other : {n : ℕ} {xs ys : List Row} → n ≢ n → xs ≡ ys
not_other other = absurd (other refl)
