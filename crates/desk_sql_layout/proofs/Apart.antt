-- No two rows of a table have the same values in a key that is declared unique.
use Rattle.std.proofs.Common.{◌≡◌, inl, inr, ℕ, ℤ, ◌≤◌, Bool, true, false, not, cond, List, [], ◌∷◌}
use Rattle.std.proofs.Common.{filter, length, refl, ap, subst, arith}
use Rattle.std.proofs.lemmas.Bool.{not-true}
use Rattle.std.specs.Prelude.{◌&&◌}
use Rattle.std.specs.List.{AllByRecursion, list_any}
use Rattle.std.specs.declared.cmp.Ordering.TheVariants.{Less}
use Rattle.sqlite_value.specs.declared.value.Value.{Value}
use Rattle.sqlite_value.specs.declared.value.Value.TheVariants.{Int}
use Rattle.sqlite_value.specs.Order.{Row, value_cmp}
use Rattle.sqlite_trees.specs.Tree.{Trees, rowid, IsTable}
use Rattle.sqlite_trees.specs.View.{is_int}
use Rattle.sqlite_sql.specs.Ops.{binary}
use Rattle.sqlite_schema.specs.declared.schema.Table.{Table}
use Rattle.sqlite_schema.specs.declared.schema.Index.{Index}
use Rattle.sqlite_schema.specs.declared.schema.Schema.{Schema}
use Rattle.sqlite_schema.specs.declared.schema.Constraint.TheVariants.{Unique}
use Rattle.sqlite_schema.specs.Rules.{Obeys, agree, clashes, differ, guards, passes}
use Rattle.sqlite_rules.specs.Edit.{id_in}
use Rattle.sqlite_rules.specs.Lists.{Has}
use Rattle.sqlite_rules.proofs.KeyLemmas.{agree_back, agree_chain}
use Rattle.sqlite_rules.proofs.ListLemmas.{all_has, test_has, some_from}
use Rattle.sqlite_rules.proofs.TableLemmas.{int_is}
use Rattle.desk_base.proofs.Bools.{contrary}

differ_ints : (m n : ℤ) → value_cmp (Int m) (Int n) ≡ Less → differ (Int m) (Int n) ≡ true
unfolding binary
differ_ints m n less = rw less refl

pub differ_is : (a b : Value) → is_int a ≡ true → is_int b ≡ true → value_cmp a b ≡ Less
    → differ a b ≡ true
differ_is a b one two less =
    let x = int_is a one in
    let y = int_is b two in
    rw (
      x,
      y,
    ) (differ_ints (id_in a) (id_in b)
    (subst (λ v. value_cmp v (Int (id_in b)) ≡ Less) x (subst (λ v. value_cmp a v ≡ Less) y less)))

none_passes : (p : Row → Bool) (rows : List Row) → ((b : Row) → Has rows b → p b ≡ true → ⊥)
    → filter p rows ≡ []
none_passes p [] none = refl
none_passes p (r ∷ rows) none = go (none_passes p rows (λ b there. none b (inr there))) (p r) refl
  where
    go : filter p rows ≡ [] → (b : Bool) → p r ≡ b → cond b (r ∷ filter p rows) (filter p rows) ≡ []
    go more true is = absurd (none r (inl refl) is)
    go more false is = more

-- if no two rows that pass have different rowids, at most one row passes
one_passes : (p : Row → Bool) (rows : List Row) → IsTable rows
    → AllByRecursion (λ r. is_int (rowid r) ≡ true) rows
    → ((a b : Row) → Has rows a → Has rows b → p a ≡ true → p b ≡ true
    → differ (rowid a) (rowid b) ≡ false) → length (filter p rows) ≤ 1
one_passes p [] up keyed same = omega arith
one_passes p (r ∷ rows) up keyed same = go
    (one_passes p rows up.1 keyed.1 (λ a b x y. same a b (inr x) (inr y))) (p r) refl
  where
    go : length (filter p rows) ≤ 1 → (b : Bool) → p r ≡ b
        → length (cond b (r ∷ filter p rows) (filter p rows)) ≤ 1
    go more true is =
        let none = none_passes p rows (λ b there passes.
        let less = all_has (λ x. value_cmp (rowid r) (rowid x) ≡ Less) rows b up.0 there in
        let whole = all_has (λ x. is_int (rowid x) ≡ true) rows b keyed.1 there in
        contrary (differ (rowid r) (rowid b)) (differ_is (rowid r) (rowid b) keyed.0 whole less)
        (same r b (inl refl) (inr there) is passes)) in
        omega (arith, ap length none)
    go more false is = more

-- if the first is true, the second isn't
second : (a b : Bool) → (a && b) ≡ false → a ≡ true → b ≡ false
second true b e is = e
second false b e is = cc

pub one_at_most : (schema : Schema) (table : Table) (index : Index) (db : Trees)
    → Has schema.tables table → Has schema.indexes index → guards index table ≡ true
    → Obeys schema db
    → IsTable (db table.tree) → AllByRecursion (λ r. is_int (rowid r) ≡ true) (db table.tree)
    → (places : List ℕ) (key : Row)
    → length (filter (λ r. agree index.order index.columns r places key) (db table.tree)) ≤ 1
one_at_most schema table index db listed kept guarded obeys up keyed places key =
    let rows = db table.tree in
    let o = index.order in
    let at = index.columns in
    one_passes (λ r. agree o at r places key) rows up keyed (λ a b here there one two.
    let both = agree_chain o at places at a key b one (agree_back o at places b key two) in
    let all = all_has (λ t. AllByRecursion (λ row. passes Unique schema db t row ≡ true)
    (db t.tree)) schema.tables table (obeys.rules Unique) listed in
    let mine = all_has (λ row. passes Unique schema db table row ≡ true) rows b all there in
    let clear = not-true (guards index table && clashes o at rows b)
    (test_has (λ i. not (guards i table && clashes i.order i.columns rows b)) schema.indexes index
    mine kept) in
    let free = second (guards index table) (clashes o at rows b) clear guarded in
    let none : (agree o at a at b && differ (rowid a) (rowid b)) ≡ false =
    none_of (λ other. agree o at other at b && differ (rowid other) (rowid b)) rows a free here in
    second (agree o at a at b) (differ (rowid a) (rowid b)) none both)
  where
    none_of : (p : Row → Bool) (rows : List Row) (a : Row) → list_any p rows ≡ false → Has rows a
        → p a ≡ false
    none_of p rows a free there = by (p a) refl
      where
        by : (b : Bool) → p a ≡ b → p a ≡ false
        by true is = absurd (contrary (list_any p rows) (some_from p rows a there is) free)
        by false is = is
