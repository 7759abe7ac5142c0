-- An UPDATE fails only for a cause, if the tables can hold the rows after it.
use Rattle.std.proofs.Common.{◌≡◌, ◌≢◌, ◌∙◌, inl, inr, ℕ, ℤ, suc, ◌+◌, ◌≤◌, Bool, true, false, not}
use Rattle.std.proofs.Common.{List, [], ◌∷◌, ◌++◌, filter, map, drop, length}
use Rattle.std.proofs.Common.{slice_get, Option, Some, None, IfErr, Ok, Err, Result, refl, sym, ap}
use Rattle.std.proofs.Common.{subst, subst₂, arith}
use Rattle.std.specs.Prelude.{if◌then◌else◌}
use Rattle.std.specs.List.{AllByRecursion, list_all}
use Rattle.std.specs.Ordering.{is_eq}
use Rattle.std.specs.declared.cmp.Ordering.TheVariants.{Less}
use Rattle.std.specs.List.Sorted.{IsPermutation}
use Rattle.std.proofs.lemmas.Bool.{and_from, cases_Bool}
use Rattle.std.proofs.lemmas.Cmp.{alike_right, tied_itself}
use Rattle.sqlite_value.proofs.OrderLemmas.{value_cmp_total}
use Rattle.std.proofs.lemmas.List.Sorted.{IsPermutation-sym, IsPermutation-map}
use Rattle.std.proofs.lemmas.List.Sorted.{IsPermutation-middle, IsPermutation-trans}
use Rattle.std.proofs.lemmas.List.Sorted.{IsPermutation-append_right, length_permutation}
use Rattle.desk_base.proofs.Orders.{equal_is}
use Rattle.sqlite_value.specs.declared.keys.Order.{Order}
use Rattle.sqlite_value.specs.declared.value.Value.TheVariants.{Int}
use Rattle.sqlite_value.specs.Order.{Row, value_cmp}
use Rattle.sqlite_trees.specs.Tree.{Trees, rowid, has_rowid, put_row, IsTable}
use Rattle.sqlite_trees.specs.View.{is_int}
use Rattle.sqlite_trees.proofs.ListLemmas.{map-map, IsPermutation-filter, all-permutation}
use Rattle.sqlite_sql.specs.Ops.{fits_i64}
use Rattle.sqlite_sql.specs.Term.{Term, col, eval_all}
use Rattle.sqlite_schema.specs.declared.schema.Column.{Column}
use Rattle.sqlite_schema.specs.declared.schema.Table.{Table}
use Rattle.sqlite_schema.specs.declared.schema.Constraint.TheVariants.{Unique}
use Rattle.sqlite_schema.specs.declared.schema.Schema.{Schema}
use Rattle.sqlite_schema.specs.declared.program.Program.{Program}
use Rattle.sqlite_schema.specs.declared.command.Command.TheVariants.{Update}
use Rattle.sqlite_schema.specs.Rules.{table_reals}
use Rattle.sqlite_typing.specs.Types.{accepts_program}
use Rattle.sqlite_rules.specs.declared.error.Rowids.TheVariants.{Given}
use Rattle.sqlite_rules.specs.Calls.{ids_of}
use Rattle.sqlite_rules.specs.Cast.{cast_row}
use Rattle.sqlite_rules.specs.Edit.{Edit, id_in, edit_of, is_taken, are_fresh, put_all, without_all}
use Rattle.sqlite_rules.specs.Lists.{Has}
use Rattle.sqlite_rules.proofs.ListLemmas.{all_from, all_has, has_filtered, has_kept, has_got}
use Rattle.sqlite_rules.proofs.ListLemmas.{has_right, some_has, test_from}
use Rattle.sqlite_rules.proofs.PlaceLemmas.{given}
use Rattle.sqlite_rules.proofs.ProbeLemmas.{has_mapped, mapped_has}
use Rattle.sqlite_rules.proofs.TableLemmas.{int_is, put_all_has, taken_is}
use Rattle.sqlite.specs.declared.error.Error.{Error}
use Rattle.sqlite.specs.Effect.{Answers}
use Rattle.sqlite.specs.Listing.{understood}
use Rattle.sqlite.specs.Does.{Does}
use Rattle.sqlite.specs.State.{State, Executes, Survives, mode_of}
use Rattle.sqlite.proofs.Callers.{statement_of, runs_as}
use Rattle.desk_model.specs.declared.command.Fault.{Fault}
use Rattle.desk_sql_layout.specs.Held.{HasRows, labelled}
use Rattle.desk_sql_layout.specs.Desk.{HasDesk, HasTable, columns_with}
use Rattle.desk_sql_layout.proofs.Declared.{actual, alone_in, cast_same, entry}
use Rattle.desk_sql_layout.proofs.Selecting.{accepts_here}
use Rattle.desk_sql_layout.proofs.Writing.{IsWrite, plain_write, suits_write, writes_here}
use Rattle.desk_sql_layout.specs.Layout.{desk_schema, table_of}
use Rattle.desk_sql_layout.specs.Stored.{cells, AreStored}
use Rattle.desk_sql_layout.proofs.Edits.{has_permuted, changed_where, put_fresh}
use Rattle.desk_sql_layout.proofs.Keeps.{stored_changed}
use Rattle.desk_sql_layout.proofs.Queries.{query_on, passes, env}
use Rattle.desk_sql_layout.proofs.Statements.{updated}
use Rattle.desk_sql_layout.proofs.Steps.{at, updates}
use Rattle.desk_sql_layout.proofs.Writes.{left_by, shown_by, stored_as}
use Rattle.desk_sql_write.specs.Taking.{IsSmall, HaveKeys, LeavesRoom, HasRoom, RanInto}
use Rattle.desk_sql_write.specs.Turning.{Turns}
use Rattle.desk_sql_write.specs.Written.{Ran}
use Rattle.desk_sql_write.proofs.Deleting.{never_edited}
use Rattle.desk_sql_write.proofs.Failing.{caused, turns_by}
use Rattle.desk_sql_write.proofs.Inserting.{rooms_left}
use Rattle.desk_sql_write.proofs.Keyed.{some_there}
use Rattle.desk_sql_write.proofs.Lists.{count_both}
use Rattle.desk_sql_write.proofs.Puts.{as_stored, IsRight, Suits, fitting}
use Rattle.desk_sql_write.proofs.Refusing.{IsFree, keys_of, room_of, rows_free, shown_now}

-- ---- rowids that appear once

below_other : (id : ℤ) (a b : Row) → value_cmp (rowid a) (rowid b) ≡ Less → has_rowid id a ≡ true
    → has_rowid id b ≡ true → ⊥
below_other id a b less here there =
    let no = alike_right value_cmp_total (rowid b) (Int id) (rowid a) (equal_is _ there)
    ∙ equal_is _ here in
    absurd (let e = sym less ∙ no in cc)

no_more : (id : ℤ) (r : Row) (rows : List Row)
    → AllByRecursion (λ x. value_cmp (rowid r) (rowid x) ≡ Less) rows → has_rowid id r ≡ true
    → filter (has_rowid id) rows ≡ []
no_more id r [] less here = refl
no_more id r (x ∷ rows) less here = go (no_more id r rows less.1 here) (has_rowid id x) refl
  where
    go : filter (has_rowid id) rows ≡ [] → (b : Bool) → has_rowid id x ≡ b
        → filter (has_rowid id) (x ∷ rows) ≡ []
    go none true is = absurd (below_other id r x less.0 here is)
    go none false is = rw is none

once_rowid : (id : ℤ) (rows : List Row) → IsTable rows → length (filter (has_rowid id) rows) ≤ 1
once_rowid id [] up = omega arith
once_rowid id (r ∷ rows) up = go (once_rowid id rows up.1) (has_rowid id r) refl
  where
    go : length (filter (has_rowid id) rows) ≤ 1 → (b : Bool) → has_rowid id r ≡ b
        → length (filter (has_rowid id) (r ∷ rows)) ≤ 1
    go once true is = rw (is, no_more id r rows up.0 is) (omega arith)
    go once false is = rw is once

itself : (r : Row) → is_int (rowid r) ≡ true → has_rowid (id_in (rowid r)) r ≡ true
itself r whole = subst (λ v. is_eq (value_cmp v (Int (id_in (rowid r)))) ≡ true)
    (sym (int_is (rowid r) whole)) (ap is_eq (tied_itself value_cmp_total (Int (id_in (rowid r)))))

fresh_by : (news left : List Row) → AllByRecursion (λ r. is_int (rowid r) ≡ true) news
    → ((id : ℤ) → length (filter (has_rowid id) (news ++ left)) ≤ 1) → are_fresh left news ≡ true
fresh_by [] left keyed once = refl
fresh_by (n ∷ news) left keyed once =
    let id = id_in (rowid n) in
    let here = itself n keyed.0 in
    let free : is_taken left n ≡ false = elim (cases_Bool (is_taken left n)) [
      | inl taken ↦
          let r = some_has (has_rowid id) left (sym (taken_is left n keyed.0) ∙ taken) in
          let some = some_there (filter (has_rowid id) (news ++ left)) r.0
          (has_kept (has_rowid id) (news ++ left) r.0 (has_right news left r.0 r.1) r.2) in
          let both : length (filter (has_rowid id) (n ∷ news ++ left)) ≡ suc (length
          (filter (has_rowid id) (news ++ left))) = rw here refl in
          absurd (omega (arith, once id, both, some))
      | inr free ↦ free
    ] in
    let same : IsPermutation (n ∷ news ++ left) (news ++ put_row n left) =
    IsPermutation-trans _ _ _ (IsPermutation-sym _ _ (IsPermutation-middle news n left))
    (IsPermutation-append_right news _ _ (put_fresh n left free)) in
    and_from _ _ (ap not free) (fresh_by news (put_row n left) keyed.1
    (λ i. omega (
      arith,
      once i,
      length_permutation _ _ (IsPermutation-filter (has_rowid i) _ _ same),
    )))

split_count : {X : Type 0} (h p : X → Bool) (xs : List X)
    → length (filter h (filter p xs)) + length (filter h (filter (λ x. not (p x)) xs))
    ≡ length (filter h xs)
split_count h p [] = refl
split_count {X} h p (x ∷ xs) = go (split_count h p xs) (p x) (h x) refl refl
  where
    go : length (filter h (filter p xs)) + length (filter h (filter (λ x. not (p x)) xs))
        ≡ length (filter h xs) → (b c : Bool) → p x ≡ b → h x ≡ c
        → length (filter h (filter p (x ∷ xs)))
        + length (filter h (filter (λ x. not (p x)) (x ∷ xs))) ≡ length (filter h (x ∷ xs))
    go more true true is it = rw (is, it) (omega (arith, more))
    go more true false is it = rw (is, it) (omega (arith, more))
    go more false true is it = rw (is, it) (omega (arith, more))
    go more false false is it = rw (is, it) (omega (arith, more))

mapped_count : (h : Row → Bool) (f : Row → Row) (rows : List Row)
    → AllByRecursion (λ r. h (f r) ≡ h r) rows
    → length (filter h (map f rows)) ≡ length (filter h rows)
mapped_count h f [] same = refl
mapped_count h f (r ∷ rows) same = go (mapped_count h f rows same.1) (h r) refl
  where
    go : length (filter h (map f rows)) ≡ length (filter h rows) → (b : Bool) → h r ≡ b
        → length (filter h (map f (r ∷ rows))) ≡ length (filter h (r ∷ rows))
    go more true is = rw (same.0, is) (omega (arith, more))
    go more false is = rw (same.0, is) more

module _ (name : List ℕ) (tree : ℕ) (columns : List Column) (key : Option ℕ) (primary : List ℕ)
    (uniques : List (List ℕ)) (orders : List Order) where
  abbrev this : Table
  this = table_of name tree columns key primary uniques orders

  -- which rows a text finds by these tests, and what these terms make of each
  pub record Remakes (params : Row) (tests project : List Term) (q : Row → Bool)
      (u : Row → Row) : Type 0 where
    pub agree : (r : Row) → passes tests params r ≡ q (cells this r)
    pub form : (r : Row) → is_int (rowid r) ≡ true
        → cast_row this (eval_all project (env params r))
        ≡ as_stored key (id_in (rowid r)) (u (cells this r))
    pub acts : (r : Row) → cells this (cast_row this (eval_all project (env params r)))
        ≡ u (cells this r)
    pub stays : (r : Row) → is_int (rowid r) ≡ true
        → rowid (cast_row this (eval_all project (env params r))) ≡ rowid r

  module _ (there : Has desk_schema.tables this) (rows after : ℕ → List Row) (s : State)
      (has : HasRows rows s.now) (params : Row) (tests project : List Term)
      (q : Row → Bool) (u : Row → Row) (it : Remakes params tests project q u)
      (perm : IsPermutation (after tree) (changed_where q u (rows tree))) where
    abbrev schema : Schema
    schema = s.now.schema

    abbrev desk : HasDesk schema
    desk = has.declared

    abbrev own : HasTable schema this
    own = entry schema desk this there

    abbrev here : Table
    here = actual schema desk this there

    abbrev program : Program
    program = record { lets = []; body = query_on own.tree tests (col 1 0 ∷ project) [] }

    abbrev p : Row → Bool
    p = passes tests params

    abbrev f : Row → Row
    f r = cast_row this (eval_all project (env params r))

    abbrev stored : List Row
    stored = s.now.trees own.tree

    abbrev kept : List Row
    kept = filter (λ r. not (p r)) stored

    abbrev cast : Row → Row
    cast s = cast_row this (drop 1 s)

    mine : AreStored this (rows tree) (s.now.trees own.tree)
    mine = shown_now name tree columns key primary uniques orders there rows after s has

    module _ (found : List Row) (answers : Answers (at schema s.now.trees) program params
        found) where
      shown : IsPermutation (map (λ r. rowid r ∷ eval_all project (env params r)) (filter p stored))
          found
      shown = shown_by schema s.now.trees own.tree tests project params found answers

      left : without_all stored (ids_of found) ≡ kept
      left = left_by schema s.now.trees own.tree tests project params found answers this
          (rows tree) mine

      news_are : (edit_of s.now.trees here (ids_of found) Given 1 found).news ≡ map cast found
      news_are = given (without_all stored (ids_of found))
          (map (λ s. cast_row here (drop 1 s)) found)
          ∙ (λ i. map (λ s. cast_same this own.tree own.not_null (drop 1 s) i) found)

      made_of : IsPermutation (map f (filter p stored)) (map cast found)
      made_of = subst (λ xs. IsPermutation xs (map cast found))
          (map-map cast (λ r. rowid r ∷ eval_all project (env params r)) (filter p stored))
          (IsPermutation-map cast _ _ shown)

      -- what is true of each new row
      each_new : (P : Row → Type 0) → ((r : Row) → Has stored r → p r ≡ true → P (f r))
          → AllByRecursion P (map cast found)
      each_new P holds = all-permutation P _ _ made_of
          (all_from P (map f (filter p stored)) (λ x has_x.
          let r = has_mapped f (filter p stored) x has_x in
          let was = has_filtered p stored r.0 r.1 in
          subst P (sym r.2) (holds r.0 was.0 was.1)))

      whole_of : (r : Row) → Has stored r → is_int (rowid r) ≡ true
      whole_of r has_r = all_has (λ r. is_int (rowid r) ≡ true) stored r mine.keyed has_r

      keyed : AllByRecursion (λ r. is_int (rowid r) ≡ true) (map cast found)
      keyed = each_new (λ r. is_int (rowid r) ≡ true)
          (λ r has_r yes_r. subst (λ v. is_int v ≡ true) (sym (it.stays r (whole_of r has_r)))
          (whole_of r has_r))

      fresh : are_fresh kept (map cast found) ≡ true
      fresh = fresh_by (map cast found) kept keyed (λ id.
          let h = has_rowid id in
          let same_rows = all_from (λ r. h (f r) ≡ h r) (filter p stored)
          (λ r has_r. let was = has_filtered p stored r has_r in
          ap (λ v. is_eq (value_cmp v (Int id))) (it.stays r (whole_of r was.0))) in
          omega (
            arith,
            count_both h (map cast found) kept,
            length_permutation _ _ (IsPermutation-filter h _ _ made_of),
            mapped_count h f (filter p stored) same_rows,
            split_count h p stored,
            once_rowid id stored mine.rising,
          ))

      are : AreStored this (after tree) (put_all kept (map cast found))
      are = stored_as this _ (after tree) _ perm
          (stored_changed this (rows tree) stored mine p q f u (map cast found) it.agree it.acts
          made_of keyed fresh)

      cells_after : (r : Row) → Has stored r → p r ≡ true → Has (after tree) (u (cells this r))
      cells_after r has_r yes_r =
          let in_rows = has_permuted (rows tree) (map (cells this) stored) (cells this r) mine.same
          (mapped_has (cells this) stored r has_r) in
          let changed = mapped_has (λ x. if q x then u x else x) (rows tree) (cells this r)
          in_rows in
          let is_u : (if q (cells this r) then u (cells this r)
          else cells this r) ≡ u (cells this r) = rw (sym (it.agree r) ∙ yes_r) refl in
          has_permuted (after tree) (changed_where q u (rows tree)) (u (cells this r)) perm
          (subst (Has (changed_where q u (rows tree))) is_u changed)

      module _ (reals : table_reals this ≡ 0)
          (suits : AllByRecursion (Suits name tree columns key primary uniques orders s.now.trees)
          (after tree)) (keys : HaveKeys after) (room : HasRoom 0 (labelled s.now)) where
        suited : (r : Row) → Has stored r → p r ≡ true
            → Suits name tree columns key primary uniques orders s.now.trees (u (cells this r))
        suited r has_r yes_r = all_has
            (Suits name tree columns key primary uniques orders s.now.trees) (after tree)
            (u (cells this r)) suits (cells_after r has_r yes_r)

        abbrev Right : Row → Type 0
        Right = IsRight name tree columns key primary uniques orders s.now.trees

        right : AllByRecursion Right (map cast found)
        right = each_new Right (λ r has_r yes_r. subst Right (sym (it.form r (whole_of r has_r)))
            ((suited r has_r yes_r).right (id_in (rowid r))))

        leaving : key ≡ None → (r : Row) → Has stored r → LeavesRoom 0 (Int (id_in (rowid r)))
        leaving none r has_r =
            subst (LeavesRoom 0) (int_is (rowid r) (whole_of r has_r))
            (all_has (λ r. LeavesRoom 0 (rowid r)) stored r
            (room_of name tree columns key primary uniques orders there rows after s has 0 room
            none)
            has_r)

        fits : AllByRecursion (λ r. fits_i64 (id_in (rowid r)) ≡ true) (map cast found)
        fits = each_new (λ r. fits_i64 (id_in (rowid r)) ≡ true) (λ r has_r yes_r.
            subst (λ r. fits_i64 (id_in (rowid r)) ≡ true) (sym (it.form r (whole_of r has_r)))
            (fitting name tree columns key primary uniques orders 0 (id_in (rowid r))
            (u (cells this r)) (λ none. leaving none r has_r) (suited r has_r yes_r).number))

        abbrev edit : Edit
        edit = edit_of s.now.trees here (ids_of found) Given 1 found

        passing_all : (c : Row → Bool) → AllByRecursion (λ r. c r ≡ true) (map cast found)
            → list_all c edit.news ≡ true
        passing_all c all = subst (λ l. list_all c l ≡ true) (sym news_are)
            (test_from c (map cast found)
            (λ r has_r. all_has (λ r. c r ≡ true) (map cast found) r all has_r))

        free : IsFree schema desk s.now.trees edit
        free = rows_free name tree columns key primary uniques orders schema desk there (after tree)
            s.now.trees (ids_of found) Given 1 found (has.sound.obeys.rules Unique) reals
            (subst (AllByRecursion Right) (sym news_are) right)
            (passing_all (λ r. is_int (rowid r)) keyed)
            (passing_all (λ r. fits_i64 (id_in (rowid r))) fits)
            (subst₂ (λ l n. are_fresh l n ≡ true) (sym left) (sym news_are) fresh)
            (subst₂ (λ l n. AreStored this (after tree) (put_all l n)) (sym left)
            (sym news_are) are)
            (keys_of name tree columns key primary uniques orders there rows after s has keys)

      rooms_kept : (n : ℕ) → AllByRecursion (λ r. LeavesRoom n (rowid r)) stored
          → AllByRecursion (λ r. LeavesRoom n (rowid r))
          (put_all (without_all stored (ids_of found))
          (edit_of s.now.trees here (ids_of found) Given 1 found).news)
      rooms_kept n all = subst₂ (λ l m. AllByRecursion (λ r. LeavesRoom n (rowid r)) (put_all l m))
          (sym left) (sym news_are)
          (all_from (λ r. LeavesRoom n (rowid r)) (put_all kept (map cast found))
          (λ x has_x. elim (put_all_has (map cast found) kept x has_x) [
            | inl new ↦ all_has (λ r. LeavesRoom n (rowid r)) (map cast found) x
                (each_new (λ r. LeavesRoom n (rowid r))
                (λ r has_r yes_r. subst (LeavesRoom n) (sym (it.stays r (whole_of r has_r)))
                (all_has (λ r. LeavesRoom n (rowid r)) stored r all has_r))) new
            | inr old ↦ all_has (λ r. LeavesRoom n (rowid r)) stored x all
                (has_filtered (λ r. not (p r)) stored x old).0
          ]))

    never_updated : (none : s.step_limit ≡ None) (text : List ℕ)
        → accepts_program schema [] (query_on own.tree tests (col 1 0 ∷ project) []) params ≡ true
        → table_reals this ≡ 0
        → AllByRecursion (Suits name tree columns key primary uniques orders s.now.trees)
        (after tree) → HaveKeys after → HasRoom 0 (labelled s.now)
        → (stop : Option Error) → Does s.step_limit (mode_of s) params s.now text None
        (Update own.place program) (Err stop) → ⊥
    never_updated none text accepts reals suits keys room stop did =
        let edit = λ (found : List Row). edit_of s.now.trees here (ids_of found) Given 1 found in
        never_edited schema desk here s params own.tree tests (col 1 0 ∷ project) edit
        (λ found. (edit found).news)
        none accepts (λ found answers. free found answers reals suits keys room) stop
        (rw own.listed at did)

  module _ {A : Type 0} (rows : A → ℕ → List Row) (made : A → A) (place : ℕ)
      (listed : slice_get desk_schema.tables place ≡ Some this) (sql : List ℕ) (params : Row)
      (tests project : List Term) (q : Row → Bool) (u : Row → Row)
      (reads : IsWrite sql (length params) tree (λ place at.
      Update place (record { lets = []; body = query_on at tests (col 1 0 ∷ project) [] })))
      (accepts : accepts_program desk_schema [] (query_on tree tests (col 1 0 ∷ project) []) params
      ≡ true)
      (reals : table_reals this ≡ 0) (it : Remakes params tests project q u)
      (same : (a : A) → AllByRecursion (λ t. t.tree ≢ tree → rows (made a) t.tree ≡ rows a t.tree)
      desk_schema.tables) (perm : (a : A)
      → IsPermutation (rows (made a) tree) (changed_where q u (rows a tree)))
      (suits : (a : A) (trees : Trees)
      → AllByRecursion (AllByRecursion IsSmall) (rows (made a) tree)
      → AllByRecursion (Suits name tree columns key primary uniques orders trees)
      (rows (made a) tree)) (old new : State) where
    there : Has desk_schema.tables this
    there = has_got desk_schema.tables place this listed

    uses : (count : ℕ) (a : A) → Executes sql params old new (Ok count) → HasRows (rows a) old.now
        → (n : ℕ) → HasRoom (n + 0) (labelled old.now) → HasRoom n (labelled new.now)
    uses count a executed has n room =
        let schema = old.now.schema in
        let own = entry schema has.declared this there in
        let program : Program = record {
          lets = [];
          body = query_on own.tree tests (col 1 0 ∷ project) [];
        } in
        let w = runs_as sql params old new schema refl (Update own.place program)
        (writes_here reads this there refl schema has.declared)
        (plain_write reads this there refl schema has.declared) count executed in
        let step = updates name own.tree (columns_with key own.not_null 0 columns) key primary
        uniques orders schema own.place own.listed (alone_in schema has.declared) old refl params
        (statement_of sql (understood schema sql)) new.now w.tally program w.changed in
        rooms_left this there old.now new.now has.declared step.2.schema_is step.2.applies.tables n
        room
        (λ none before. subst (AllByRecursion (λ r. LeavesRoom n (rowid r)))
        (sym step.2.applies.rows)
        (rooms_kept there (rows a) (rows (made a)) old has params tests project q u
        it (perm a) step.0 step.1 n before))

    pub updated_turns : (r : Result (Unit {0}) Fault) → Ran sql params old new r
        → IfErr r (RanInto sql params old new) → Survives old new (λ _. ⊥)
        → Turns rows (λ a. rows (made a)) 0 old new r
    updated_turns = turns_by rows (λ a. rows (made a)) 0 sql params old new
        (λ count a executed has. updated name tree columns key primary uniques orders place listed
        sql params (rows a) (rows (made a)) (same a) old new count executed has tests
        project q u reads it.agree it.acts (perm a))
        uses
        (λ opened unlimited a has before after room.
        let schema = old.now.schema in
        let own = entry schema has.declared this there in
        let small = all_has (λ t. AllByRecursion (AllByRecursion IsSmall) (rows (made a) t.tree))
        desk_schema.tables this after.small there in
        caused schema sql params old new refl opened
        (plain_write reads this there refl schema has.declared)
        (suits_write reads this there refl schema has.declared)
        (Update own.place
        (record { lets = []; body = query_on own.tree tests (col 1 0 ∷ project) [] }))
        (writes_here reads this there refl schema has.declared) refl
        (never_updated there (rows a) (rows (made a)) old has params tests project q
        u it (perm a) unlimited (statement_of sql (understood schema sql))
        (accepts_here tests (col 1 0 ∷ project) [] params this there accepts schema has.declared)
        reals (suits a old.now.trees small) after.keys room))
