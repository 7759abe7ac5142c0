-- How many references of a document are adopted, after a change.
use Rattle.std.proofs.Common.{◌≡◌, ◌∙◌, ℕ, ◌+◌, Bool, true, false, cond, not, List, [], ◌∷◌, map}
use Rattle.std.proofs.Common.{filter, length, find, get_or, take, suc, zero, ◌<◌, add-one, Option}
use Rattle.std.proofs.Common.{Some, None, refl, sym, ap, arith, true≢false}
use Rattle.std.specs.Prelude.{IsTrue, ◌==◌, ◌&&◌, ◌||◌, bytes_eq, if◌then◌else◌, is_some}
use Rattle.std.specs.BTreeSet.{contains_text}
use Rattle.std.specs.Option.{option_map}
use Rattle.std.specs.List.{AllByRecursion, IsDistinct, list_any}
use Rattle.std.proofs.lemmas.Bool.{and_parts}
use Rattle.std.proofs.lemmas.List.{length-map}
use Rattle.std.proofs.lemmas.Map.Keys.{IsDistinct-IsPermutation}
use Rattle.std.proofs.lemmas.List.Sorted.{IsPermutation-sym}
use Rattle.desk_base.proofs.Numbers.{numbers_equal, same_number, unequal}
use Rattle.desk_base.proofs.Texts.{texts_equal, same_text}
use Rattle.sqlite_value.specs.declared.value.Value.TheVariants.{Text}
use Rattle.sqlite_value.specs.Order.{Row, column}
use Rattle.sqlite_trees.proofs.ListLemmas.{ascending-map}
use Rattle.sqlite.specs.Effect.{Database}
use Rattle.sqlite.specs.State.{State, HasCleanDisk}
use Rattle.desk_model.specs.Lists.{put}
use Rattle.desk_model.specs.Conclusions.{licence_for}
use Rattle.desk_model.specs.Keys.{below_by, adoption_order, is_adoption, is_adoption_in}
use Rattle.desk_model.specs.Tables.{Tables, applied}
use Rattle.desk_model.specs.declared.command.Change.TheVariants.{Adopted}
use Rattle.desk_model.specs.declared.row.AdoptionRow.{AdoptionRow}
use Rattle.desk_history.specs.FromTables.{adoption_count}
use Rattle.desk_history.proofs.Concluding.{passed_by}
use Rattle.desk_sql_layout.specs.Cells.{number, adoption_cells}
use Rattle.desk_sql_layout.specs.Held.{Holds, labelled, rows_of, seen_of}
use Rattle.desk_sql_layout.specs.Layout.{adoption_table}
use Rattle.desk_sql_layout.specs.Stored.{cells}
use Rattle.desk_sql_layout.proofs.Selects.{by_unique, mine}
use Rattle.desk_sql_write.proofs.Lists.{none_out}
use Rattle.desk_sql_cache.specs.References.{AreAdopted}
use Rattle.desk_sql_cache.specs.declared.adoptions.Adoptions.{Adoptions}
use Rattle.desk_sql_cache.proofs.Distinct.{distinct_from, distinct_unmapped, tie, tie_flips, tied_alike}
use Rattle.desk_sql_layout.proofs.Ties.{is_key}

-- ---- no two adoptions have the same key

abbrev places : List ℕ
places = 1 ∷ 2 ∷ []

abbrev key_of_cells : Row → Row
key_of_cells cs = column cs 0 ∷ column cs 1 ∷ []

abbrev at_one_key : AdoptionRow → AdoptionRow → Bool
at_one_key x y = tie places (key_of_cells (adoption_cells x)) (key_of_cells (adoption_cells y))

apart : (t : Tables) (db : Database) → Holds t db → IsDistinct at_one_key t.adoption
apart t db holds =
    let this = adoption_table in
    let stored = labelled db 12 in
    let e : Row → Row → Bool = λ cs ds. tie places (key_of_cells cs) (key_of_cells ds) in
    let up = by_unique this.name 12 this.columns this.key this.primary this.uniques this.orders 7
    refl adoption_cells (rows_of t) t.adoption refl db holds.rows 0 places refl refl
    (λ (cs : Row). is_key (column cs 0) && (is_key (column cs 1) && true)) (λ r. refl)
    (λ x. refl) in
    let shown = distinct_from e (map (cells this) stored)
    (ascending-map (λ cs ds. e cs ds ≡ false) (cells this) stored up) in
    let same = (mine this.name 12 this.columns this.key this.primary this.uniques this.orders 7 refl
    adoption_cells (rows_of t) t.adoption refl db holds.rows).same in
    distinct_unmapped e adoption_cells t.adoption
    (IsDistinct-IsPermutation e (λ cs ds. tie_flips places (key_of_cells cs) (key_of_cells ds))
    (map (cells this) stored) (map adoption_cells t.adoption) (IsPermutation-sym _ _ same) shown)

-- the rows for a reference of a document have the same key
at_key : (d : ℕ) (r : List ℕ) (x : AdoptionRow) → is_adoption d r x ≡ true
    → key_of_cells (adoption_cells x) ≡ number d ∷ Text r ∷ []
at_key d r x is = let both = and_parts (x.document == d) (bytes_eq x.reference r) is in
    rw (numbers_equal x.document d both.0, texts_equal x.reference r both.1) refl

tied : (d : ℕ) (r : List ℕ) (x y : AdoptionRow) → is_adoption d r x ≡ true
    → is_adoption d r y ≡ true → at_one_key x y ≡ true
tied d r x y one two = tied_alike places (key_of_cells (adoption_cells x))
    (key_of_cells (adoption_cells y)) (at_key d r x one ∙ sym (at_key d r y two))

-- ---- rows in place of those with the same key

-- there is one more after one was put
count_put : {A : Type 0} (below : A → A → Bool) (p : A → Bool) (x : A) (ys : List A)
    → length (filter p (put below x ys)) ≡ length (filter p (x ∷ ys))
count_put below p x [] = refl
count_put {A} below p x (y ∷ ys) = go (below x y) (p x) (p y) refl refl (count_put below p x ys)
  where
    go : (b c d : Bool) → p x ≡ c → p y ≡ d
        → length (filter p (put below x ys)) ≡ length (filter p (x ∷ ys))
        → length (filter p (cond b (x ∷ y ∷ ys) (y ∷ put below x ys)))
        ≡ length (filter p (x ∷ y ∷ ys))
    go true c d e f more = refl
    go false true true e f more = rw (e, f) (let m = rw e at more in omega (arith, m))
    go false true false e f more = rw (e, f) (rw e at more)
    go false false true e f more = rw (e, f) (let m = rw e at more in omega (arith, m))
    go false false false e f more = rw (e, f) (rw e at more)

-- no other row is left out
rest_stays : (d : ℕ) (r : List ℕ) (x : AdoptionRow) (ys : List AdoptionRow)
    → is_adoption d r x ≡ true → AllByRecursion (λ y. at_one_key x y ≡ false) ys
    → filter (λ y. not (is_adoption d r y)) ys ≡ ys
rest_stays d r x [] is none = refl
rest_stays d r x (y ∷ ys) is none = go (rest_stays d r x ys is none.1) (is_adoption d r y) refl
  where
    go : filter (λ y. not (is_adoption d r y)) ys ≡ ys → (b : Bool) → is_adoption d r y ≡ b
        → cond (not b) (y ∷ filter (λ y. not (is_adoption d r y)) ys)
        (filter (λ y. not (is_adoption d r y)) ys) ≡ y ∷ ys
    go more true too = absurd (true≢false (sym (tied d r x y is too) ∙ none.0))
    go more false apart = ap (λ l. y ∷ l) more

-- one row is left out if one is found
one_out : (d : ℕ) (r : List ℕ) (xs : List AdoptionRow) → IsDistinct at_one_key xs
    → (find (is_adoption d r) xs ≡ None → ⊥)
    → length (filter (is_adoption_in d) xs)
    ≡ length (filter (is_adoption_in d) (filter (λ y. not (is_adoption d r y)) xs)) + 1
unfolding IsDistinct
one_out d r [] are some = absurd (some refl)
one_out d r (x ∷ xs) are some = go (one_out d r xs are.1) (is_adoption d r x) (is_adoption_in d x)
    refl refl some
  where
    rest : List AdoptionRow
    rest = filter (λ y. not (is_adoption d r y)) xs

    p : AdoptionRow → Bool
    p = is_adoption_in d

    go : ((find (is_adoption d r) xs ≡ None → ⊥)
        → length (filter p xs) ≡ length (filter p rest) + 1) → (b c : Bool) → is_adoption d r x ≡ b
        → p x ≡ c → (cond b (Some x) (find (is_adoption d r) xs) ≡ None → ⊥)
        → length (cond c (x ∷ filter p xs) (filter p xs))
        ≡ length (filter p (cond (not b) (x ∷ rest) rest)) + 1
    go more true true e f some = rw (rest_stays d r x xs e are.0) (omega arith)
    go more true false e f some = absurd (true≢false
        (sym (and_parts (x.document == d) (bytes_eq x.reference r) e).0 ∙ f))
    go more false true e f some = rw f (let m = more some in omega (arith, m))
    go more false false e f some = rw f (more some)

-- those of another document are not left out
none_elsewhere : (e d : ℕ) (r : List ℕ) (xs : List AdoptionRow) → (d ≡ e → ⊥)
    → length (filter (is_adoption_in e) (filter (λ y. not (is_adoption d r y)) xs))
    ≡ length (filter (is_adoption_in e) xs)
none_elsewhere e d r [] other = refl
none_elsewhere e d r (x ∷ xs) other = go (none_elsewhere e d r xs other) (is_adoption d r x)
    (is_adoption_in e x) refl refl
  where
    rest : List AdoptionRow
    rest = filter (λ y. not (is_adoption d r y)) xs

    p : AdoptionRow → Bool
    p = is_adoption_in e

    go : length (filter p rest) ≡ length (filter p xs) → (b c : Bool) → is_adoption d r x ≡ b
        → p x ≡ c → length (filter p (cond (not b) (x ∷ rest) rest))
        ≡ length (cond c (x ∷ filter p xs) (filter p xs))
    go more true true at here = absurd (other
        (sym (numbers_equal x.document d (and_parts (x.document == d)
        (bytes_eq x.reference r) at).0)
        ∙ numbers_equal x.document e here))
    go more true false at here = more
    go more false true at here = rw here (let m = more in omega (arith, m))
    go more false false at here = rw here more

-- ---- counts after an adoption

first_counts : (row : AdoptionRow) (rows : List AdoptionRow)
    → length (filter (is_adoption_in row.document) (row ∷ rows))
    ≡ length (filter (is_adoption_in row.document) rows) + 1
first_counts row rows = rw (same_number row.document) (omega arith)

-- of a reference that wasn't adopted
pub adopted_first : (t : Tables) (row : AdoptionRow)
    → licence_for t.adoption row.document row.reference ≡ None
    → adoption_count (applied (Adopted row) t) row.document ≡ adoption_count t row.document + 1
adopted_first t row none =
    let d = row.document in
    let p = is_adoption_in d in
    let at = is_adoption d row.reference in
    let without = filter (λ y. not (at y)) t.adoption in
    let missing : find at t.adoption ≡ None = no_row (find at t.adoption) none in
    count_put (below_by adoption_order) p row without
    ∙ (first_counts row without ∙ ap (λ l. length (filter p l) + 1)
    (none_out at t.adoption missing))
  where
    no_row : (o : Option AdoptionRow) → option_map (λ (row : AdoptionRow). row.licence) o ≡ None
        → o ≡ None
    no_row None e = refl
    no_row (Some row) e = absurd (cc)

-- of a reference of another document
adopted_elsewhere : (t : Tables) (row : AdoptionRow) (e : ℕ) → (row.document ≡ e → ⊥)
    → adoption_count (applied (Adopted row) t) e ≡ adoption_count t e
adopted_elsewhere t row e other =
    let without = filter (λ y. not (is_adoption row.document row.reference y)) t.adoption in
    count_put (below_by adoption_order) (is_adoption_in e) row without
    ∙ (rw (unequal row.document e other) refl
    ∙ none_elsewhere e row.document row.reference t.adoption other)

-- of a reference that was adopted
adopted_again : (t : Tables) (row : AdoptionRow) (db : Database) (licence : List ℕ) → Holds t db
    → licence_for t.adoption row.document row.reference ≡ Some licence
    → adoption_count (applied (Adopted row) t) row.document ≡ adoption_count t row.document
adopted_again t row db licence holds some =
    let d = row.document in
    let p = is_adoption_in d in
    let at = is_adoption d row.reference in
    let without = filter (λ y. not (at y)) t.adoption in
    count_put (below_by adoption_order) p row without
    ∙ (first_counts row without ∙ sym (one_out d row.reference t.adoption (apart t db holds)
    (has_row (find at t.adoption) some)))
  where
    has_row : (o : Option AdoptionRow)
        → option_map (λ (row : AdoptionRow). row.licence) o ≡ Some licence → o ≡ None → ⊥
    has_row None e none = absurd (cc)
    has_row (Some row) e none = absurd (cc)

-- ---- what was found was found in a store that shows its rows, since one that shows none would hold any

shown : (s : State) (d : ℕ) (r : List ℕ) (found : Option (List ℕ)) (t : Tables)
    → ((u : Tables) → (seen_of s).holds u → found ≡ licence_for u.adoption d r) → IsTrue s.is_open
shown s d r found t is = go s.is_open refl
  where
    row : AdoptionRow
    row = record { document = d; reference = r; licence = [] }

    go : (b : Bool) → s.is_open ≡ b → s.is_open ≡ true
    go true open_ = open_
    go false shut =
        let any : (u : Tables) → found ≡ licence_for u.adoption d r =
        λ u. is u (λ clean open_. absurd (true≢false (sym open_ ∙ shut))) in
        let none : found ≡ None = any (record t { adoption = [] }) in
        let own : is_adoption d r row ≡ true = rw (same_number d, same_text r) refl in
        let some : found ≡ Some [] = any (record t { adoption = row ∷ [] }) ∙ rw own refl in
        absurd (let clash : None ≡ Some [] = sym none ∙ some in cc)

-- ---- what is kept, after an adoption

-- one more text is among those so far
pub one_more_text : (reference : List ℕ) (texts : List (List ℕ)) (i : ℕ) (text : List ℕ)
    → text ≡ get_or texts i text → i < length texts
    → cond (bytes_eq text reference) true
    (list_any (λ other. bytes_eq other reference) (take i texts))
    ≡ list_any (λ other. bytes_eq other reference) (take (i + 1) texts)
one_more_text r texts i text is low = go texts i is low
    ∙ ap (λ n. list_any (λ other. bytes_eq other r) (take n texts)) (sym (add-one i))
  where
    among : List (List ℕ) → Bool
    among = list_any (λ other. bytes_eq other r)

    or_true : (b : Bool) → (b || true) ≡ true
    or_true true = refl
    or_true false = refl

    first : (b : Bool) → cond b true false ≡ (b || false)
    first true = refl
    first false = refl

    pass : (b c d e : Bool) → cond b true d ≡ e → cond b true (c || d) ≡ (c || e)
    pass true c d e is = sym (ap (λ x. c || x) (sym is) ∙ or_true c)
    pass false c d e is = ap (λ x. c || x) is

    go : (texts : List (List ℕ)) (i : ℕ) → text ≡ get_or texts i text → i < length texts
        → cond (bytes_eq text r) true (among (take i texts)) ≡ among (take (suc i) texts)
    go [] i is low = absurd (omega (arith, low))
    go (x ∷ xs) zero is low = first (bytes_eq text r) ∙ ap (λ t. bytes_eq t r || false) is
    go (x ∷ xs) (suc i) is low = pass (bytes_eq text r) (bytes_eq x r) (among (take i xs))
        (among (take (suc i) xs)) (go xs i is (omega (arith, low)))

-- the references of the document that were read
pub read_among : (d : ℕ) (reference : List ℕ) (rows : List AdoptionRow)
    → list_any (λ text. bytes_eq text reference)
    (map (λ (row : AdoptionRow). row.reference) (filter (is_adoption_in d) rows)) ≡ false
    → find (is_adoption d reference) rows ≡ None
read_among d r [] none = refl
read_among d r (x ∷ xs) none = go (read_among d r xs) (x.document == d) (bytes_eq x.reference r)
    refl refl none
  where
    texts : List AdoptionRow → List (List ℕ)
    texts = map (λ (row : AdoptionRow). row.reference)

    among : List (List ℕ) → Bool
    among = list_any (λ text. bytes_eq text r)

    go : (among (texts (filter (is_adoption_in d) xs)) ≡ false → find (is_adoption d r) xs ≡ None)
        → (b c : Bool) → (x.document == d) ≡ b → bytes_eq x.reference r ≡ c
        → among (texts (cond b (x ∷ filter (is_adoption_in d) xs) (filter (is_adoption_in d) xs)))
        ≡ false → cond (b && c) (Some x) (find (is_adoption d r) xs) ≡ None
    go more true true e f none = absurd (let hit : true ≡ false = rw f at none in cc)
    go more true false e f none = more (rw f at none)
    go more false c e f none = more none

-- what is kept of the references that were read
pub kept_read : (kept : Adoptions) (d : ℕ) (texts : List (List ℕ)) (t : Tables) → kept.document ≡ d
    → kept.count ≡ length texts → ((reference : List ℕ)
    → contains_text kept.references reference ≡ list_any (λ text. bytes_eq text reference) texts)
    → texts ≡ map (λ (row : AdoptionRow). row.reference) (filter (is_adoption_in d) t.adoption)
    → AreAdopted (Some kept) t
kept_read kept d texts t here counts has are =
    rw here (
      counts ∙ (ap length are ∙ length-map (filter (is_adoption_in d) t.adoption)
          (λ (row : AdoptionRow). row.reference)),
      λ reference lacks. ap (option_map (λ (row : AdoptionRow). row.licence))
          (read_among d reference t.adoption
          (ap (list_any (λ text. bytes_eq text reference)) (sym are)
          ∙ (sym (has reference) ∙ lacks))),
    )

-- what the look-up of the reference found says whether it is adopted
module _ (s : State) (row : AdoptionRow) (reference : List ℕ) (found : Option (List ℕ))
    (named : reference ≡ row.reference)
    (is : (t : Tables) → (seen_of s).holds t
    → found ≡ licence_for t.adoption row.document reference) (t : Tables)
    (held : (seen_of s).holds t) (clean : HasCleanDisk s) where
  found_there : (u : Tables) → (seen_of s).holds u
      → found ≡ licence_for u.adoption row.document row.reference
  found_there u holds = is u holds ∙ ap (licence_for u.adoption row.document) named

  pub counts_found : (is_new : Bool) → is_new ≡ not (is_some found)
      → adoption_count (applied (Adopted row) t) row.document
      ≡ adoption_count t row.document + (if is_new then 1 else 0)
  counts_found is_new told = go found refl
    where
      go : (o : Option (List ℕ)) → found ≡ o
          → adoption_count (applied (Adopted row) t) row.document
          ≡ adoption_count t row.document + (if is_new then 1 else 0)
      go None e = rw (told ∙ ap (λ o. not (is_some o)) e)
          (adopted_first t row (sym (found_there t held) ∙ e))
      go (Some licence) e =
          let showing = held clean (shown s row.document row.reference found t found_there) in
          rw (told ∙ ap (λ o. not (is_some o)) e)
          (adopted_again t row s.now licence showing.holds (sym (found_there t held) ∙ e)
          ∙ omega arith)

find_rest : {A : Type 0} (p at : A → Bool) → ((y : A) → p y ≡ true → at y ≡ false) → (xs : List A)
    → find p (filter (λ y. not (at y)) xs) ≡ find p xs
find_rest p at apart [] = refl
find_rest {A} p at apart (x ∷ xs) = go (at x) (p x) refl refl (find_rest p at apart xs)
  where
    go : (b c : Bool) → at x ≡ b → p x ≡ c → find p (filter (λ y. not (at y)) xs) ≡ find p xs
        → find p (cond (not b) (x ∷ filter (λ y. not (at y)) xs) (filter (λ y. not (at y)) xs))
        ≡ cond c (Some x) (find p xs)
    go true true e f more = absurd (let clash : true ≡ false = sym e ∙ apart x f in cc)
    go true false e f more = more
    go false true e f more = rw f refl
    go false false e f more = rw f more

-- the licence of another reference
other_licence : (row : AdoptionRow) (t : Tables) (d : ℕ) (r : List ℕ)
    → ((row.document == d) && bytes_eq row.reference r) ≡ false
    → licence_for (applied (Adopted row) t).adoption d r ≡ licence_for t.adoption d r
other_licence row t d r other =
    let at = is_adoption row.document row.reference in
    let without = filter (λ y. not (at y)) t.adoption in
    ap (option_map (λ (row : AdoptionRow). row.licence))
    (passed_by (below_by adoption_order) (is_adoption d r) row without other
    ∙ find_rest (is_adoption d r) at apart_from t.adoption)
  where
    apart_from : (y : AdoptionRow) → is_adoption d r y ≡ true
        → is_adoption row.document row.reference y ≡ false
    apart_from y is = go (is_adoption row.document row.reference y) refl
      where
        go : (b : Bool) → is_adoption row.document row.reference y ≡ b → b ≡ false
        go false e = refl
        go true e =
            let own = and_parts (y.document == row.document) (bytes_eq y.reference row.reference)
            e in
            let its = and_parts (y.document == d) (bytes_eq y.reference r) is in
            let here : row.document ≡ d = sym (numbers_equal y.document row.document own.0)
            ∙ numbers_equal y.document d its.0 in
            let named : row.reference ≡ r = sym (texts_equal y.reference row.reference own.1)
            ∙ texts_equal y.reference r its.1 in
            absurd (let clash : true ≡ false =
            sym (rw (here, named) (rw (same_number d, same_text r) refl)) ∙ other in cc)

-- an adoption in another document
pub kept_elsewhere : (row : AdoptionRow) (kept : Adoptions) (t : Tables)
    → (row.document ≡ kept.document → ⊥) → AreAdopted (Some kept) t
    → AreAdopted (Some kept) (applied (Adopted row) t)
kept_elsewhere row kept t other are = (
  are.0 ∙ sym (adopted_elsewhere t row kept.document other),
  λ r lacks. other_licence row t kept.document r
      (rw (unequal row.document kept.document other) refl) ∙ are.1 r lacks,
)

-- and one in the same document
pub kept_here : (row : AdoptionRow) (kept after : Adoptions) (t : Tables) (is_new : Bool)
    → row.document ≡ kept.document → after.document ≡ kept.document
    → after.count ≡ kept.count + (if is_new then 1 else 0)
    → ((other : List ℕ) → contains_text after.references other
    ≡ (bytes_eq row.reference other || contains_text kept.references other))
    → adoption_count (applied (Adopted row) t) row.document
    ≡ adoption_count t row.document + (if is_new then 1 else 0)
    → AreAdopted (Some kept) t → AreAdopted (Some after) (applied (Adopted row) t)
kept_here row kept after t is_new here same counts has more are =
    rw same (
      counts ∙ (ap (λ n. n + (if is_new then 1 else 0)) (are.0 ∙ ap (adoption_count t) (sym here))
          ∙ (sym more ∙ ap (adoption_count (applied (Adopted row) t)) here)),
      λ r lacks.
          let none = neither (bytes_eq row.reference r) (contains_text kept.references r)
          (sym (has r) ∙ lacks) in
          other_licence row t kept.document r
          (apart (row.document == kept.document) (bytes_eq row.reference r) none.0)
          ∙ are.1 r none.1,
    )
  where
    neither : (a b : Bool) → (a || b) ≡ false → (a ≡ false) × (b ≡ false)
    neither false b is = (refl, is)
    neither true b is = absurd (cc)

    apart : (a b : Bool) → b ≡ false → (a && b) ≡ false
    apart true b is = is
    apart false b is = refl
