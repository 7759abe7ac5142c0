-- The releases that hold a choice: read from rows, and after a change.
use Rattle.std.proofs.Common.{◌≡◌, ◌∙◌, ℕ, zero, suc, ◌+◌, ◌<◌, Bool, true, false, cond, List, []}
use Rattle.std.proofs.Common.{◌∷◌, ◌++◌, map, length, get_or, take, Option, Some, None, refl, sym}
use Rattle.std.proofs.Common.{ap, subst, arith, inl, inr, add-one}
use Rattle.std.specs.Prelude.{if◌then◌else◌, find, filter, is_some, nat_lt, not, ◌≤◌, IfNone}
use Rattle.std.specs.Prelude.{IfSome, Result, Ok, Err, IsTrue, ◌==◌, ◌&&◌, ◌||◌, ◌⊎◌}
use Rattle.std.specs.List.{list_any, AllByRecursion, HoldsAt, IsDistinct}
use Rattle.std.specs.Ordering.{is_eq, nat_cmp, ordering_index}
use Rattle.std.specs.Cmp.Lexicographic.{slice_cmp}
use Rattle.std.specs.declared.cmp.Ordering.{Ordering}
use Rattle.std.specs.declared.cmp.Ordering.TheVariants.{Equal, Less, Greater}
use Rattle.std.specs.List.Sorted.{IsNonDecreasingBy, IsPartitionPoint}
use Rattle.std.proofs.lemmas.Bool.Decides.{nat_tests}
use Rattle.std.proofs.lemmas.Cmp.{nat_list_cmp_total}
use Rattle.std.specs.Option.{option_map}
use Rattle.std.specs.Str.{bytes_eq}
use Rattle.std.proofs.Math.Seq.{take-suc}
use Rattle.std.proofs.lemmas.List.Folds.{list_any-append}
use Rattle.std.proofs.lemmas.Map.Keys.{IsDistinct-IsPermutation}
use Rattle.std.proofs.lemmas.List.Sorted.{IsPermutation-sym}
use Rattle.std.proofs.lemmas.Bool.{and_from}
use Rattle.std.proofs.Math.Bool.{or_comm, or-false}
use Rattle.sqlite_value.specs.declared.value.Value.TheVariants.{Text}
use Rattle.sqlite_value.specs.Order.{Row, column}
use Rattle.sqlite_trees.proofs.ListLemmas.{ascending-map}
use Rattle.sqlite.specs.Effect.{Database}
use Rattle.sqlite.specs.State.{State, HasCleanDisk}
use Rattle.desk_base.proofs.Bools.{and_left, and_right, together}
use Rattle.desk_base.proofs.Numbers.{numbers_equal}
use Rattle.desk_base.proofs.Texts.{same_text, texts_equal}
use Rattle.desk_model.specs.Keys.{below_by, is_choice_of, is_release, release_below}
use Rattle.desk_model.specs.Lists.{IsIn, ascends, over, replaced, updated}
use Rattle.desk_model.specs.Texts.{text_below}
use Rattle.desk_model.specs.Tables.{Tables, applied, with_release_state, withdrawn_release}
use Rattle.desk_model.specs.declared.command.Change.{Change}
use Rattle.desk_model.specs.declared.command.Change.TheVariants as change
use Rattle.desk_model.specs.declared.row.ChoiceRow.{ChoiceRow}
use Rattle.desk_model.specs.declared.row.ReleaseRow.{ReleaseRow}
use Rattle.desk_model.specs.declared.state.ReleaseState.TheVariants.{Frozen, IsOpen}
use Rattle.sqlite_trees.specs.Tree.{Trees}
use Rattle.desk_model.specs.declared.command.Fault.{Fault}
use Rattle.desk_access.specs.Seen.{Seen, Same, Looked}
use Rattle.desk_access.specs.Follows.{Follows}
use Rattle.desk_history.specs.Laws.{Ascends}
use Rattle.desk_tally.specs.Kept.{place_found}
use Rattle.desk_tally.proofs.Names.{ascends_before}
use Rattle.desk_sorted.specs.Orders.{release_order}
use Rattle.desk_sorted.specs.Sides.{side_by, texts_meet}
use Rattle.desk_sorted.specs.Sorted.{IsSideOf}
use Rattle.desk_sorted.proofs.Ascending.{rises_along}
use Rattle.desk_memory_rows.specs.Holders.{AreHolders, holder_of, holder_order, holders_after}
use Rattle.desk_memory_rows.specs.Holders.{is_held, is_holder, is_holding}
use Rattle.desk_memory_rows.specs.declared.holders.Holder.{Holder}
use Rattle.desk_history.proofs.Distinct.{from_filter, from_put}
use Rattle.desk_history.proofs.Rows.{list_any-put}
use Rattle.desk_memory_rows.proofs.Holding.{holders_kept}
use Rattle.desk_sql_layout.specs.Cells.{release_cells}
use Rattle.desk_sql_layout.specs.Held.{Holds, labelled, rows_of, seen_of}
use Rattle.desk_sql_layout.specs.Layout.{releases_table}
use Rattle.desk_sql_layout.specs.Stored.{cells}
use Rattle.desk_sql_layout.proofs.Selects.{by_unique, mine}
use Rattle.desk_sql_layout.proofs.Ties.{is_key}
use Rattle.desk_sql_cache.specs.Holding.{AreHoldersOf, IsPlace, have_releases}
use Rattle.desk_sql_cache.proofs.Distinct.{distinct_from, distinct_unmapped, tie, tie_flips, tied_alike}

-- ---- a release found by binary search

in_at : {A : Type 0} (xs : List A) (i : ℕ) (x : A) → i < length xs → x ≡ get_or xs i x → IsIn x xs
in_at [] i x low is = absurd (omega arith)
in_at (y ∷ ys) zero x low is = inl (sym is)
in_at (y ∷ ys) (suc i) x low is = inr (in_at ys i x (omega arith) is)

pub placed_at : (releases : List ReleaseRow) (name : List ℕ) (i : ℕ) (row : ReleaseRow)
    → i < length releases → row ≡ get_or releases i row
    → HoldsAt (λ (y : ReleaseRow). slice_cmp nat_cmp y.name name ≡ Equal) releases i
    → IsPlace releases name (get_or releases i row).place
placed_at releases name i row low is at =
    let same : slice_cmp nat_cmp row.name name ≡ Equal =
    subst (λ (y : ReleaseRow). slice_cmp nat_cmp y.name name ≡ Equal) (sym is) (at row) in (
      row,
      in_at releases i row low is,
      texts_equal row.name name (texts_meet row.name name ∙ ap is_eq same),
      ap (λ (y : ReleaseRow). y.place) is,
    )

-- if no row passes, none is found
none_passes : {A : Type 0} (test : A → Bool) (xs : List A)
    → ((k : ℕ) (d : A) → k < length xs → test (get_or xs k d) ≡ false) → find test xs ≡ None
none_passes test [] fails = refl
none_passes {A} test (x ∷ xs) fails = go
    (none_passes test xs (λ k d low. fails (suc k) d (omega arith))) (test x)
    (fails 0 x (omega arith))
  where
    go : find test xs ≡ None → (b : Bool) → b ≡ false → cond b (Some x) (find test xs) ≡ None
    go rest true e = absurd (cc)
    go rest false e = rest

pub none_at : (releases : List ReleaseRow) (name : List ℕ) (i : ℕ)
    → (IsNonDecreasingBy (λ (y : ReleaseRow). ordering_index (slice_cmp nat_cmp y.name name))
    releases → IsPartitionPoint (λ (y : ReleaseRow). slice_cmp nat_cmp y.name name ≡ Less)
    (λ (y : ReleaseRow). slice_cmp nat_cmp y.name name ≡ Greater) releases i)
    → ascends (below_by release_order) releases ≡ true → place_found releases name ≡ None
none_at releases name i split up =
    let side : ReleaseRow → Ordering = λ y. slice_cmp nat_cmp y.name name in
    let splits : IsSideOf release_order side =
    side_by release_order (λ row. row.name) (slice_cmp nat_cmp) nat_list_cmp_total (λ x y e. e)
    name in
    let parts = split (rises_along release_order side splits releases up) in
    ap (option_map (λ (row : ReleaseRow). row.place))
    (none_passes (is_release name) releases
    (λ k d low. other (get_or releases k d) (either k d low parts (nat_lt k i) refl)))
  where
    other : (y : ReleaseRow) → (slice_cmp nat_cmp y.name name ≡ Less)
        ⊎ (slice_cmp nat_cmp y.name name ≡ Greater) → is_release name y ≡ false
    other y (inl less) = texts_meet y.name name ∙ ap is_eq less
    other y (inr greater) = texts_meet y.name name ∙ ap is_eq greater

    either : (k : ℕ) (d : ReleaseRow) → k < length releases
        → IsPartitionPoint (λ (y : ReleaseRow). slice_cmp nat_cmp y.name name ≡ Less)
        (λ (y : ReleaseRow). slice_cmp nat_cmp y.name name ≡ Greater) releases i → (b : Bool)
        → nat_lt k i ≡ b
        → (slice_cmp nat_cmp (get_or releases k d).name name ≡ Less)
        ⊎ (slice_cmp nat_cmp (get_or releases k d).name name ≡ Greater)
    either k d low parts true e = inl (parts.0 k d (omega arith)
        (let before : k < i = grind (arith, nat_tests) in before))
    either k d low parts false e = inr (parts.1 k d
        (let behind : i ≤ k = grind (arith, nat_tests) in behind) low)

-- a choice in no release is one of these
pub one_is_of_none : (releases : List ReleaseRow) (choices : List ChoiceRow) (i : ℕ)
    (row : ChoiceRow) → i < length choices → row ≡ get_or choices i row
    → place_found releases row.release ≡ None → have_releases releases choices ≡ false
one_is_of_none releases [] i row low is none = absurd (omega arith)
one_is_of_none releases (y ∷ ys) zero row low is none = rw (
  ap (λ (x : ChoiceRow). x.release) (sym is),
  none,
) refl
one_is_of_none releases (y ∷ ys) (suc i) row low is none = go
    (is_some (place_found releases y.release))
    (one_is_of_none releases ys i row (omega arith) is none)
  where
    go : (b : Bool) → have_releases releases ys ≡ false → (b && have_releases releases ys) ≡ false
    go true rest = rest
    go false rest = refl

-- ---- one more choice

-- rows that are left out pass as the one that is put does
any_left : {A : Type 0} (p at : A → Bool) (b : Bool) (ys : List A)
    → ((y : A) → at y ≡ true → p y ≡ b)
    → (b || list_any p (filter (λ y. not (at y)) ys)) ≡ (b || list_any p ys)
any_left p at true ys same = refl
any_left p at false [] same = refl
any_left {A} p at false (y ∷ ys) same = go (at y) (p y) refl refl (any_left p at false ys same)
  where
    go : (c d : Bool) → at y ≡ c → p y ≡ d
        → list_any p (filter (λ y. not (at y)) ys) ≡ list_any p ys
        → list_any p (cond (not c) (y ∷ filter (λ y. not (at y)) ys) (filter (λ y. not (at y)) ys))
        ≡ (p y || list_any p ys)
    go true true e f more = let none : p y ≡ false = same y e in cc
    go true false e f more = rw f more
    go false true e f more = rw f refl
    go false false e f more = rw f more

any_more : {A : Type 0} (p : A → Bool) (xs : List A) (i : ℕ) (x : A) → i < length xs
    → x ≡ get_or xs i x → list_any p (take (i + 1) xs) ≡ (p x || list_any p (take i xs))
any_more p xs i x low is =
    ap (λ n. list_any p (take n xs)) (add-one i)
    ∙ (ap (list_any p) (take-suc xs i x low ∙ ap (λ z. take i xs ++ z ∷ []) (sym is))
    ∙ (list_any-append p (take i xs) (x ∷ [])
    ∙ (ap (λ b. list_any p (take i xs) || b) (or-false (p x))
    ∙ or_comm (list_any p (take i xs)) (p x))))

module _ (r : List ℕ) (place d : ℕ) (p : List ℕ) (r' : List ℕ) (d' : ℕ) (p' : List ℕ) where
  -- a holder that is recorded again is as it was
  held_alike : (x : Holder) → is_holding d p place r x ≡ true
      → is_holder r' d' p' x ≡ is_holder r' d' p' (holder_of r place d p)
  held_alike x e =
      let rest = and_left (is_held d p x && (x.place == place)) (bytes_eq x.release r) e in
      let held = and_left (is_held d p x) (x.place == place) rest in
      let name : x.release ≡ r = texts_equal x.release r
      (and_right (is_held d p x && (x.place == place)) (bytes_eq x.release r) e) in
      let number : x.document ≡ d =
      numbers_equal x.document d (and_left (x.document == d) (bytes_eq x.package_id p) held) in
      let id : x.package_id ≡ p = texts_equal x.package_id p
      (and_right (x.document == d) (bytes_eq x.package_id p) held) in
      rw (name, number, id) refl

  any_noted : (all : List Holder)
      → list_any (is_holder r' d' p')
      (replaced (below_by holder_order) (is_holding d p place r) (holder_of r place d p) all)
      ≡ (is_holder r' d' p' (holder_of r place d p) || list_any (is_holder r' d' p') all)
  any_noted all =
      list_any-put (below_by holder_order) (is_holder r' d' p') (holder_of r place d p)
      (filter (λ y. not (is_holding d p place r y)) all)
      ∙ any_left (is_holder r' d' p') (is_holding d p place r)
      (is_holder r' d' p' (holder_of r place d p)) all held_alike

pub noted : (releases : List ReleaseRow) (choices : List ChoiceRow) (i : ℕ) (row : ChoiceRow)
    (place : ℕ) (all : List Holder) → i < length choices → row ≡ get_or choices i row
    → IsPlace releases row.release place
    → AreHoldersOf releases (take i choices) all
    → AreHoldersOf releases (take (i + 1) choices)
    (replaced (below_by holder_order) (is_holding row.document row.package_id place row.release)
    (holder_of row.release place row.document row.package_id) all)
noted releases choices i row place all low is at held = record {
  placed = λ x there.
      let others = filter (λ y. not (is_holding row.document row.package_id place row.release y))
      all in
      one x (from_put (below_by holder_order) x own others there);
  holding = λ r d p.
      any_noted row.release place row.document row.package_id r d p all
      ∙ (ap (λ b. is_holder r d p own || b) (held.holding r d p)
      ∙ (ap (λ b. b || list_any (is_choice_of r d p) (take i choices))
      (together (bytes_eq row.release r) (row.document == d) (bytes_eq row.package_id p))
      ∙ sym (any_more (is_choice_of r d p) choices i row low is)));
}
  where
    own : Holder
    own = holder_of row.release place row.document row.package_id

    one : (x : Holder) → (own ≡ x)
        ⊎ IsIn x (filter (λ y. not (is_holding row.document row.package_id place row.release y))
        all) → IsPlace releases x.release x.place
    one x (inl same) = subst (λ (y : Holder). IsPlace releases y.release y.place) same at
    one x (inr old) = held.placed x
        (from_filter (λ y. not (is_holding row.document row.package_id place row.release y)) x all
        old).0

pub none_noted : (releases : List ReleaseRow) (all : List Holder) → all ≡ []
    → AreHoldersOf releases [] all
none_noted releases all none = record {
  placed = λ x is. absurd (subst (IsIn x) none is);
  holding = λ r d p. ap (list_any (is_holder r d p)) none;
}

-- ---- no two releases have the same name

abbrev names : List ℕ
names = 1 ∷ []

abbrev name_of_cells : Row → Row
name_of_cells cs = column cs 0 ∷ []

abbrev at_one_name : ReleaseRow → ReleaseRow → Bool
at_one_name x y = tie names (name_of_cells (release_cells x)) (name_of_cells (release_cells y))

names_apart : (t : Tables) (db : Database) → Holds t db → IsDistinct at_one_name t.releases
names_apart t db holds =
    let this = releases_table in
    let stored = labelled db 14 in
    let e : Row → Row → Bool = λ cs ds. tie names (name_of_cells cs) (name_of_cells ds) in
    let up = by_unique this.name 14 this.columns this.key this.primary this.uniques this.orders 8
    refl release_cells (rows_of t) t.releases refl db holds.rows 1 names refl refl
    (λ (cs : Row). is_key (column cs 0) && true) (λ r. refl) (λ x. refl) in
    let shown = distinct_from e (map (cells this) stored)
    (ascending-map (λ cs ds. e cs ds ≡ false) (cells this) stored up) in
    let same = (mine this.name 14 this.columns this.key this.primary this.uniques this.orders 8 refl
    release_cells (rows_of t) t.releases refl db holds.rows).same in
    distinct_unmapped e release_cells t.releases
    (IsDistinct-IsPermutation e (λ cs ds. tie_flips names (name_of_cells cs) (name_of_cells ds))
    (map (cells this) stored) (map release_cells t.releases) (IsPermutation-sym _ _ same) shown)

each_apart : {A : Type 0} (P : A → Type 0) (xs : List A) (x : A) → AllByRecursion P xs → IsIn x xs
    → P x
each_apart P [] x all is = absurd is
each_apart P (y ∷ ys) x all (inl same) = subst P same all.0
each_apart P (y ∷ ys) x all (inr later) = each_apart P ys x all.1 later

-- each release is found by its name
own_place : (rows : List ReleaseRow) → IsDistinct at_one_name rows → (row : ReleaseRow)
    → IsIn row rows → place_found rows row.name ≡ Some row.place
unfolding IsDistinct
own_place [] are row is = absurd is
own_place (y ∷ ys) are row (inl same) = subst (λ (x : ReleaseRow). place_found (y ∷ ys) x.name
    ≡ Some x.place) same (rw (same_text y.name) refl)
own_place (y ∷ ys) are row (inr later) = go (own_place ys are.1 row later)
    (bytes_eq y.name row.name) refl
  where
    go : place_found ys row.name ≡ Some row.place → (b : Bool) → bytes_eq y.name row.name ≡ b
        → option_map (λ (x : ReleaseRow). x.place) (cond b (Some y) (find (is_release row.name) ys))
        ≡ Some row.place
    go rest true e =
        let apart : at_one_name y row ≡ false =
        each_apart (λ z. at_one_name y z ≡ false) ys row are.0 later in
        let alike : at_one_name y row ≡ true =
        tied_alike names (name_of_cells (release_cells y)) (name_of_cells (release_cells row))
        (ap (λ n. Text n ∷ []) (texts_equal y.name row.name e)) in
        absurd (let clash : true ≡ false = sym alike ∙ apart in cc)
    go rest false e = rest

-- ---- what was read

-- what was found was found in a store that shows its rows, since one that shows none would hold any
shown : (s : State) (rows : List ReleaseRow) (t : Tables)
    → ((u : Tables) → (seen_of s).holds u → rows ≡ u.releases) → IsTrue s.is_open
shown s rows t is = go s.is_open refl
  where
    row : ReleaseRow
    row = record { name = []; place = 0; form = []; state = IsOpen; revision = 0 }

    go : (b : Bool) → s.is_open ≡ b → s.is_open ≡ true
    go true open_ = open_
    go false shut =
        let any : (u : Tables) → rows ≡ u.releases =
        λ u. is u (λ clean open_. absurd (let clash : true ≡ false = sym open_ ∙ shut in cc)) in
        absurd (let clash : row ∷ [] ≡ [] = sym (any (record t { releases = row ∷ [] }))
        ∙ any (record t { releases = [] }) in cc)

pub read_held : (s : State) (releases : List ReleaseRow) (choices : List ChoiceRow)
    (all : List Holder) → AreHoldersOf releases choices all
    → HasCleanDisk s → ((u : Tables) → (seen_of s).holds u → releases ≡ u.releases) → (t : Tables)
    → (seen_of s).holds t → choices ≡ t.choice → AreHolders all t
read_held s releases choices all held clean read t holds same =
    let showing = holds clean (shown s releases t read) in
    let own = own_place t.releases (names_apart t s.now showing.holds) in
    record {
      placed = λ x there.
          let at : IsPlace t.releases x.release x.place =
          subst (λ rows. IsPlace rows x.release x.place) (read t holds) (held.placed x there) in
          ap (place_found t.releases) (sym at.2) ∙ (own at.0 at.1 ∙ ap Some at.3);
      holding = λ r d p. held.holding r d p ∙ ap (list_any (is_choice_of r d p)) same;
      apart = own;
    }

-- the releases of a store that shows its rows are in order
rows_ascend : (rows : List ReleaseRow) → Ascends release_below rows
    → ascends (below_by release_order) rows ≡ true
rows_ascend [] up = refl
rows_ascend (y ∷ ys) up = and_from (over (below_by release_order) y ys)
    (ascends (below_by release_order) ys) (over_all ys up.0) (rows_ascend ys up.1)
  where
    over_all : (zs : List ReleaseRow) → ((z : ReleaseRow) → IsIn z zs → release_below z y ≡ false)
        → over (below_by release_order) y zs ≡ true
    over_all [] below = refl
    over_all (z ∷ zs) below = and_from (not (below_by release_order z y))
        (over (below_by release_order) y zs) (ap not (below z (inl refl)))
        (over_all zs (λ w later. below w (inr later)))

pub read_none : (s : State) (releases : List ReleaseRow) (choices : List ChoiceRow)
    → (ascends (below_by release_order) releases ≡ true → have_releases releases choices ≡ false)
    → HasCleanDisk s → ((u : Tables) → (seen_of s).holds u → releases ≡ u.releases) → (t : Tables)
    → (seen_of s).holds t → choices ≡ t.choice → have_releases t.releases t.choice ≡ false
read_none s releases choices none clean read t holds same =
    let showing = holds clean (shown s releases t read) in
    let here = read t holds in
    let up : ascends (below_by release_order) releases ≡ true =
    ap (ascends (below_by release_order)) here
    ∙ rows_ascend t.releases showing.holds.orderly.sorted.releases in
    sym (ap (λ rows. have_releases rows t.choice) here)
    ∙ (sym (ap (have_releases releases) same) ∙ none up)

pub some_weaker : {A : Type 0} (P Q : A → Type 0) → ((x : A) → P x → Q x) → (o : Option A)
    → IfSome o P → IfSome o Q
some_weaker P Q f None is = is
some_weaker P Q f (Some x) is = f x is

pub none_weaker : {A : Type 0} (P Q : Type 0) → (P → Q) → (o : Option A) → IfNone o P → IfNone o Q
none_weaker P Q f None is = f is
none_weaker P Q f (Some x) is = is

-- a fault of what was read also leaves the rows
pub looked_so : {A : Type 0} (a b : Seen Trees) (r : Result A Fault) → Same a b → Looked a b r
looked_so a b (Ok x) it = it
looked_so a b (Err fault) it = it.kept

-- ---- after a change

same_name : (test : ReleaseRow → Bool) (edit : ReleaseRow → ReleaseRow)
    → ((row : ReleaseRow) → (edit row).name ≡ row.name) → (x : ReleaseRow)
    → (if test x then edit x else x).name ≡ x.name
same_name test edit same x = go (test x)
  where
    go : (b : Bool) → (if b then edit x else x).name ≡ x.name
    go true = same x
    go false = refl

among_updated : (test : ReleaseRow → Bool) (edit : ReleaseRow → ReleaseRow) (x : ReleaseRow)
    (rows : List ReleaseRow) → IsIn x rows
    → IsIn (if test x then edit x else x) (updated test edit rows)
among_updated test edit x [] is = absurd is
among_updated test edit x (y ∷ ys) (inl same) = inl (ap (λ z. if test z then edit z else z) same)
among_updated test edit x (y ∷ ys) (inr later) = inr (among_updated test edit x ys later)

-- releases are still in order after a change of their rows that keeps their names
ascend_updated : (test : ReleaseRow → Bool) (edit : ReleaseRow → ReleaseRow)
    → ((row : ReleaseRow) → (edit row).name ≡ row.name) → (rows : List ReleaseRow)
    → Ascends release_below (updated test edit rows) → Ascends release_below rows
ascend_updated test edit same [] up = tt
ascend_updated test edit same (y ∷ ys) up = (
  λ z is.
      ap (λ n. text_below n y.name) (sym (same_name test edit same z))
      ∙ (ap (text_below (if test z then edit z else z).name) (sym (same_name test edit same y))
      ∙ up.0 (if test z then edit z else z) (among_updated test edit z ys is)),
  ascend_updated test edit same ys up.1,
)

pub held_after : (c : Change) (t : Tables) (all : List Holder)
    → Ascends release_below (applied c t).releases → Follows c t → AreHolders all t
    → AreHolders (holders_after c t all) (applied c t)
held_after (change.Loaded row rules forms) t all up = holders_kept (change.Loaded row rules forms) t
    all up
held_after (change.Imported row packages references) t all up = holders_kept
    (change.Imported row packages references) t all up
held_after (change.Opened row) t all up = holders_kept (change.Opened row) t all
    (ascends_before row t.releases up)
held_after (change.Attached row) t all up = holders_kept (change.Attached row) t all up
held_after (change.Chosen r d p rows) t all up = holders_kept (change.Chosen r d p rows) t all up
held_after (change.Froze r revision rows duties changes) t all up =
    holders_kept (change.Froze r revision rows duties changes) t all
    (ascend_updated (is_release r) (with_release_state Frozen revision) (λ row. refl) t.releases up)
held_after (change.Moved rows) t all up = holders_kept (change.Moved rows) t all up
held_after (change.Withdrew r rows) t all up = holders_kept (change.Withdrew r rows) t all
    (ascend_updated (is_release r) withdrawn_release (λ row. refl) t.releases up)
held_after (change.Concluded row) t all up = holders_kept (change.Concluded row) t all up
held_after (change.Adopted row) t all up = holders_kept (change.Adopted row) t all up
