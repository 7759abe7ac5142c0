-- Why a commit of a store fails.
use Rattle.std.proofs.Common.{◌≡◌, ◌∙◌, ◌+◌, ◌<◌, ◌^◌, ℕ, Bool, true, false, inl, inr, List, []}
use Rattle.std.proofs.Common.{◌∷◌, ◌++◌, length, map, Err, Ok, Result, refl, sym, subst, ap, arith}
use Rattle.std.specs.Prelude.{IfErr, Some, if◌then◌else◌, slice_get}
use Rattle.std.specs.List.{AllByRecursion}
use Rattle.std.specs.Result.{IsErrAnd}
use Rattle.sqlite_trees.specs.declared.store.Store.{Ghosts}
use Rattle.sqlite_trees.specs.Tree.{Trees}
use Rattle.sqlite_value.specs.Order.{Row}
use Rattle.sqlite_rules.proofs.ListLemmas.{all_has, has_got}
use Rattle.sqlite_schema.specs.declared.schema.Table.{Table}
use Rattle.sqlite.specs.Effect.{Database}
use Rattle.sqlite.specs.Held.{Held, state}
use Rattle.sqlite.specs.State.{State, HasCleanDisk}
use Rattle.desk_model.specs.Keys.{release_below}
use Rattle.desk_model.specs.Lists.{put}
use Rattle.desk_model.specs.Tables.{Tables, applied}
use Rattle.desk_model.specs.declared.command.Change.{Change}
use Rattle.desk_model.specs.declared.command.Change.TheVariants as change
use Rattle.desk_model.specs.declared.command.Fault.{Fault}
use Rattle.desk_access.specs.Follows.{Follows}
use Rattle.desk_access.specs.Seen.{Seen}
use Rattle.desk_sql_layout.specs.Cells.{catalogue_cells, document_cells, release_cells}
use Rattle.desk_sql_layout.specs.Held.{HasRows, known_of, labelled, rows_of, seen_of}
use Rattle.desk_sql_layout.specs.Layout.{desk_schema, catalogue_table, document_table, releases_table}
use Rattle.desk_sql_commit.specs.Committing.{CommitFails}
use Rattle.desk_sql_layout.specs.Causes.{HasCauseIf}
use Rattle.desk_sql_lookup.specs.LookUps.{LooksUpGiven}
use Rattle.desk_sql_write.specs.Taking.{CanStand, HasRoom, IsSmall, rows_in}
use Rattle.desk_tally.specs.Kept.{AreKept}
use Rattle.desk_tally.specs.declared.tallies.Tallies.{Tallies}
use Rattle.desk_store.specs.Causes.{CommitFailsFor}
use Rattle.desk_sql_write.specs.Replacing.{Takes}
use Rattle.desk_store.specs.Counting.{HasCount, known_by, tallied}
use Rattle.desk_sql_cache.specs.Found.{AreFound}
use Rattle.desk_beside.specs.declared.counts.Counts.{Counts}
use Rattle.desk_sql_cache.specs.declared.found.Found.{Found}

-- ---- there is room for the counts

all_behind : {X : Type 0} (P : Row → Type 0) (f : X → Row) (xs : List X) (x : X)
    → AllByRecursion P (map f (xs ++ x ∷ [])) → P (f x)
all_behind P f [] x all = all.0
all_behind P f (y ∷ ys) x all = all_behind P f ys x all.1

all_put : {X : Type 0} (P : Row → Type 0) (f : X → Row) (below : X → X → Bool) (x : X) (xs : List X)
    → AllByRecursion P (map f (put below x xs)) → P (f x)
all_put P f below x [] all = all.0
all_put {X} P f below x (y ∷ ys) all = go (all_put P f below x ys) (below x y) all
  where
    go : (AllByRecursion P (map f (put below x ys)) → P (f x)) → (b : Bool)
        → AllByRecursion P (map f (if b then x ∷ y ∷ ys else y ∷ put below x ys)) → P (f x)
    go more true all = all.0
    go more false all = more all.1

-- the rows of a table that can hold them are small
small_in : (rows : ℕ → List Row) → CanStand rows → (table : Table) (place : ℕ)
    → slice_get desk_schema.tables place ≡ Some table
    → AllByRecursion (AllByRecursion IsSmall) (rows table.tree)
small_in rows stand table place is = all_has
    (λ (t : Table). AllByRecursion (AllByRecursion IsSmall) (rows t.tree)) desk_schema.tables table
    stand.small (has_got desk_schema.tables place table is)

pub has_count : (c : Change) (t : Tables) (counts : Counts) (forms : List (List ℕ))
    → known_of t ≡ known_by counts forms → Follows c t → CanStand (rows_of (applied c t))
    → HasCount c counts
has_count (change.Loaded row rules forms) t counts old known follows stand =
    let small : row.revision < 2 ^ 32 =
    (all_behind (AllByRecursion IsSmall) catalogue_cells t.catalogue row
    (small_in (rows_of (applied (change.Loaded row rules forms) t)) stand catalogue_table 1
    refl)).0 in
    let same : length t.catalogue ≡ counts.revisions = ap (λ k. k.revisions) known in
    omega arith
has_count (change.Imported row packages references) t counts old known follows stand =
    let small : row.number < 2 ^ 32 =
    (all_behind (AllByRecursion IsSmall) document_cells t.document row
    (small_in (rows_of (applied (change.Imported row packages references) t)) stand document_table 3
    refl)).0 in
    let same : length t.document ≡ counts.documents = ap (λ k. k.documents) known in
    omega arith
has_count (change.Opened row) t counts old known follows stand =
    let small : row.place < 2 ^ 32 =
    (all_put (AllByRecursion IsSmall) release_cells release_below row t.releases
    (small_in (rows_of (applied (change.Opened row) t)) stand releases_table 8 refl)).1.0 in
    let same : length t.releases ≡ counts.releases = ap (λ k. k.releases) known in
    let next : row.place ≡ length t.releases + 1 = follows.0 in
    omega arith
has_count (change.Froze release revision rows duties changes) t counts old known follows stand =
    let same : length t.duty ≡ counts.duties = ap (λ k. k.duties) known in
    let few = follows.5 in
    omega arith
has_count (change.Attached row) t counts old known follows stand = tt
has_count (change.Chosen r d p rows) t counts old known follows stand = tt
has_count (change.Moved rows) t counts old known follows stand = tt
has_count (change.Withdrew r rows) t counts old known follows stand = tt
has_count (change.Concluded row) t counts old known follows stand = tt
has_count (change.Adopted row) t counts old known follows stand = tt

-- ---- why it fails

module _ (c : Change) (had : Found) (n : Tallies) (counts : Counts) (forms : List (List ℕ)) where
  abbrev seen_in : State → Seen Trees
  seen_in s = tallied had n (known_by counts forms) (seen_of s)

  -- the counts have no room for it
  pub uncounted : (a : State) (fault : Fault) → ¬ HasCount c counts
      → CommitFailsFor c (seen_in a) a a fault
  uncounted a fault none = record {
    cause = λ clean opened unlimited t holds written follows before after room.
        absurd (none (has_count c t counts forms holds.0 follows after));
  }

  -- a look-up for it failed
  pub unfound : (Given : Tables → Type 0) (a b : State)
      → ((t : Tables) → AreKept n t → Follows c t → Given t) → (fault : Fault)
      → HasCauseIf Given a b fault → CommitFailsFor c (seen_in a) a b fault
  unfound Given a b right fault has = record {
    cause = λ clean opened unlimited t holds written follows before after room. has.cause clean
        opened unlimited t holds.2 written (right t holds.1 follows);
  }

  -- its transaction failed, after look-ups for it
  pub unwritten : {S A : Type 0} (g : Ghosts S)
      (a b d : Held S) {Given : Tables → Type 0} {Is : A → Tables → Type 0} {x : A}
      → LooksUpGiven g Given a b (Ok x) Is → (HasCleanDisk (state g d) → HasCleanDisk (state g b))
      → (is_new : Bool) → ((t : Tables) → AreFound had t → Takes is_new c t) → (fault : Fault)
      → CommitFails is_new c (state g b) (state g d) fault
      → CommitFailsFor c (seen_in (state g a)) (state g a) (state g d) fault
  unwritten g a b d first honest is_new takes fault fails = record {
    cause = λ clean opened unlimited t holds written follows before after room.
        let mid = honest clean in
        let clean_first = first.kept.kept.spared.honest mid in
        let shows = holds.2 clean_first opened in
        let same = first.unchanged mid opened shows.holds.rows.declared in
        let now = sym same.0.now_is in
        let has : HasRows (rows_of t) (state g b).now =
        subst (HasRows (rows_of t)) now shows.holds.rows in
        let more : HasRoom (rows_in c) (labelled (state g b).now) =
        subst (λ (db : Database). HasRoom (rows_in c) (labelled db)) now room in
        elim (fails.cause clean same.0.is_open (first.limit ∙ unlimited) t
        (takes t (holds.3 clean_first)) has before after more) [
          | inl memory ↦ inl memory
          | inr failed ↦ inr (
            failed.0,
            omega (arith, first.kept.kept.spared.outlasts.counts, failed.1),
          )
        ];
  }

pub err_fails : (c : Change) (seen : Seen Trees) (a b : State) {A : Type 0} (r : Result A Fault)
    (fault : Fault) → IsErrAnd r (λ e. e ≡ fault) → CommitFailsFor c seen a b fault
    → IfErr r (CommitFailsFor c seen a b)
err_fails c seen a b (Ok x) fault is fails = absurd is
err_fails c seen a b (Err e) fault is fails = rw is fails
