-- Rows of a query that are read one by one.
use Rattle.std.proofs.Common.{◌≡◌, inl, inr, ℕ, IsTrue, List, [], ◌∷◌, ◌++◌, map, Ok, refl, sym, ap}
use Rattle.std.proofs.Common.{subst, ◌∙◌, Some, None, arith}
use Rattle.std.specs.List.{AllByRecursion}
use Rattle.sqlite_trees.specs.declared.store.Store.{Ghosts}
use Rattle.sqlite_value.specs.Order.{Row}
use Rattle.sqlite_sql.specs.Query.{Query}
use Rattle.sqlite_schema.specs.declared.command.Command.{Command}
use Rattle.sqlite_schema.specs.declared.command.Command.TheVariants.{Select}
use Rattle.sqlite_resolve.specs.declared.compiled.Compiled.{Compiled}
use Rattle.sqlite.specs.Effect.{Database}
use Rattle.sqlite.specs.Clock.{timed}
use Rattle.sqlite.specs.Given.{HasBegun, HasGiven}
use Rattle.sqlite.specs.Held.{Held, state}
use Rattle.sqlite.specs.Listing.{understood, reads_listing, IsSourceOf}
use Rattle.sqlite.specs.State.{State, HasCleanDisk, IsStatement, IsUnchanged, Shown, ShowsRows}
use Rattle.sqlite.specs.State.{Survives, CommitsShowing, Begins as Begun}
use Rattle.sqlite.proofs.Callers.{EndsIn, IsPlain, begins_shown, begun_plain, given_begin}
use Rattle.sqlite.proofs.Callers.{unchanged_then}
use Rattle.desk_model.specs.declared.command.Fault.{Fault}
use Rattle.desk_access.specs.Seen.{Same}
use Rattle.desk_sql_layout.specs.Held.{seen_of}
use Rattle.desk_sql_layout.specs.Desk.{HasDesk}
use Rattle.desk_sql_layout.specs.Causes.{HasCauseIf, IsAsked, IsPlainText, IsRow}
use Rattle.desk_sql_layout.specs.Streamed.{AreRead, CanBeRead, FailsToReadOn, ReadsOn, ShowsRead}
use Rattle.desk_sql_layout.proofs.Calls.{Begins, begins_open, begun}
use Rattle.desk_sql_layout.proofs.Causes.{caused}

-- one more row is read

pub none_read : {T : Type 0} (cells : T → Row) → AreRead cells [] []
none_read cells [] e = refl
none_read cells (x ∷ xs) e = cc

last_mapped : {X Y : Type 0} (f : X → Y) (ys : List Y) (y : Y) (xs : List X)
    → ys ++ y ∷ [] ≡ map f xs
    → (front : List X) × (x : X) × (xs ≡ front ++ x ∷ []) × (ys ≡ map f front) × (y ≡ f x)
last_mapped f [] y [] e = cc
last_mapped f [] y (x ∷ []) e = ([], x, refl, refl, cc)
last_mapped f [] y (x ∷ z ∷ zs) e = cc
last_mapped f (w ∷ ws) y [] e = cc
last_mapped f (w ∷ ws) y (x ∷ xs) e =
    let here : w ≡ f x = cc in
    let more : ws ++ y ∷ [] ≡ map f xs = cc in
    let rest = last_mapped f ws y xs more in
    (x ∷ rest.0, rest.1, ap (λ l. x ∷ l) rest.2, (λ i. here i ∷ rest.3 i), rest.4)

pub read_more : {T : Type 0} (cells : T → Row) (rows : List Row) (row : Row) (found : List T)
    (x : T)
    → AreRead cells rows found → ((y : T) → row ≡ cells y → x ≡ y)
    → AreRead cells (rows ++ row ∷ []) (found ++ x ∷ [])
read_more cells rows row found x read one xs e =
    let last = last_mapped cells rows row xs e in
    (λ i. read last.0 last.3 i ++ one last.1 last.4 i ∷ []) ∙ sym last.2

-- what is shown after a query that left everything as it was

abbrev statement_since : (sql : List ℕ) (params : Row) (a b : State) (c : Compiled) → b.now ≡ a.now
    → IsStatement b sql params c → IsStatement a sql params c
statement_since sql params a b c now it = record {
  is = subst (λ (d : Database). understood d.schema sql ≡ Ok c) now it.is;
  whole = it.whole;
  given = it.given;
  now = it.now;
}

pub shown_since : (sql : List ℕ) (params : Row) (a b c : State) (rows : List Row)
    → IsPlain (understood b.now.schema sql) → IsUnchanged a b → Shown sql params b c rows
    → Shown sql params a c rows
unfolding Shown
shown_since sql params a b c rows plain same h =
    let none = (subst IsPlain h.1.is plain).0 in
    let full = timed params h.0.formats h.1.now in
    let it = subst (ShowsRows b c sql h.0 full rows) none h.2 in
    let now : b.now ≡ a.now = same.0.now_is in (
      h.0,
      statement_since sql params a b h.0 now h.1,
      subst (ShowsRows a c sql h.0 full rows) (sym none) (
        it.0,
        subst (λ (d : Database). IsSourceOf (reads_listing d.schema sql) d it.0) now it.1,
        it.2,
        unchanged_then a b c same it.3,
      ),
    )

module _ {S T : Type 0} (g : Ghosts S) (cells : T → Row) (sql : List ℕ) (params : Row) where
  -- a query of a desk's tables has given rows, which were read
  abbrev pub HasRead : Held S → Held S → List T → Type 0
  HasRead old now found =
      HasCleanDisk (state g now) → HasDesk old.schema
      → (rows : List Row) × HasGiven g sql params now rows × IsUnchanged (state g old) (state g now)
      × AreRead cells rows found

  module _ (old new : Held S) where
    begins_so : HasBegun g sql params old new → Begins sql params (state g old) (state g new)
    begins_so (inl h) = inl h.1
    begins_so (inr h) = inr (_, h.1)

    pub begun_same : IsPlainText sql
        → Survives (state g old) (state g new) (CommitsShowing sql params (state g old))
        → (HasCleanDisk (state g new) → HasBegun g sql params old new)
        → Same (seen_of (state g old)) (seen_of (state g new))
    begun_same plain survives has = begun sql params (state g old) (state g new) plain survives
        (λ clean. begins_so (has clean))

    pub begun_open : (HasCleanDisk (state g new) → HasBegun g sql params old new)
        → HasCleanDisk (state g new) → IsTrue (state g old).is_open
    begun_open has clean = (begins_open sql params (state g old) (state g new)
        (begins_so (has clean))).0

    pub begun_read : IsPlainText sql
        → (HasCleanDisk (state g new) → HasBegun g sql params old new) → HasRead old new []
    begun_read plain has clean schema =
        let first = begun_plain g sql params old new
        (plain.within old.schema schema) (has clean) in
        ([], first.0, first.1, none_read cells)

  module _ (plain : IsPlainText sql) (first old new : Held S) (found : List T)
      (honest : HasCleanDisk (state g new) → HasCleanDisk (state g old))
      (read : HasRead first old found) where
    pub read_on : (x : T) → (HasCleanDisk (state g new)
        → IsUnchanged (state g old) (state g new)
        × ((given : List Row) → HasGiven g sql params old given
        → ReadsOn g cells sql params old new given (Some x)))
        → HasRead first new (found ++ x ∷ [])
    read_on x step clean schema =
        let so_far = read (honest clean) schema in
        let more = step clean in
        let next = more.1 so_far.0 so_far.1 in (
          so_far.0 ++ next.0 ∷ [],
          next.1,
          unchanged_then (state g first) (state g old) (state g new) so_far.2 more.0,
          read_more cells so_far.0 next.0 found x so_far.3 next.2,
        )

    pub read_all : (HasCleanDisk (state g new)
        → IsUnchanged (state g old) (state g new)
        × ((given : List Row) → HasGiven g sql params old given
        → ReadsOn g cells sql params old new given None))
        → HasCleanDisk (state g new) → HasDesk first.schema
        → ShowsRead cells sql params (state g first) (state g new) found
    read_all step clean schema =
        let so_far = read (honest clean) schema in
        let shown = (step clean).1 so_far.0 so_far.1 in
        let same = so_far.2 in
        let is : HasDesk old.schema =
        subst (λ (d : Database). HasDesk d.schema) (sym same.0.now_is) schema in (
          so_far.0,
          shown_since sql params (state g first) (state g old) (state g new) so_far.0
              (plain.within old.schema is) same shown,
          so_far.3,
        )

-- ---- reading further fails

-- the row at this place, of rows that can be read
one_of : {X : Type 0} (f : X → Row) (P : Row → Type 0) (Q : X → Type 0) (front : List Row)
    (row : Row) (tail : List Row) (xs : List X) → (front ++ row ∷ []) ++ tail ≡ map f xs
    → AllByRecursion P ((front ++ row ∷ []) ++ tail) → AllByRecursion Q xs
    → (x : X) × (row ≡ f x) × P row × Q x
one_of f P Q [] row tail [] e all each = cc
one_of f P Q [] row tail (x ∷ xs) e all each = let is : row ≡ f x = cc in (x, is, all.0, each.0)
one_of f P Q (r ∷ front) row tail [] e all each = cc
one_of f P Q (r ∷ front) row tail (x ∷ xs) e all each = let rest : (front ++ row
    ∷ []) ++ tail ≡ map f xs = cc in one_of f P Q front row tail xs rest all.1 each.1

begins_since : (sql : List ℕ) (params : Row) (a b : State) (rows : List Row) → b.now ≡ a.now
    → Begun sql params b rows → Begun sql params a rows
unfolding Begun
begins_since sql params a b rows now h = (
  h.0,
  statement_since sql params a b h.0 now h.1,
  h.2,
  h.3,
  subst (λ (d : Database). IsSourceOf (reads_listing d.schema sql) d h.3) now h.4,
  h.5,
)

no_end : (k : Command) (query : Query) (names : List (List ℕ))
    → k ≡ Select (record { lets = []; body = query }) names → (db : Database) (params : Row)
    → EndsIn k db params
no_end k query names is db params = subst (λ k. EndsIn k db params) (sym is) tt

-- the first rows of an answer to a query of the desk's tables are the beginning of a whole one
whole_answer : (sql : List ℕ) (params : Row) (a b : State) (rows : List Row) → IsAsked sql params
    → HasDesk a.now.schema → IsUnchanged a b → Begun sql params b rows
    → (tail : List Row) × Shown sql params a b (rows ++ tail)
whole_answer sql params a b rows asked has same begins = begins_shown sql params a b rows
    (begins_since sql params a b rows same.0.now_is begins) same
    (λ c db it source.
    let here = asked.within a.now.schema has in
    let e = sym here.is ∙ it.is in
    let is : here.compiled ≡ c = cc in
    no_end c.command here.query here.names
    (subst (λ (k : Compiled). k.command
    ≡ Select (record { lets = []; body = here.query }) here.names) is here.selects) db
    (timed params c.formats it.now))

module _ {S T : Type 0} (g : Ghosts S) (cells : T → Row) (has_days : T → Type 0) (sql : List ℕ)
    (params : Row) (asked : IsAsked sql params) (first old new : Held S) (found : List T) where
  pub read_failed : Same (seen_of (state g first)) (seen_of (state g old))
      → (HasCleanDisk (state g new) → HasCleanDisk (state g old))
      → old.step_limit ≡ first.step_limit → HasRead g cells sql params first old found
      → (fault : Fault)
      → (HasCleanDisk (state g new) → (given : List Row) → HasGiven g sql params old given
      → FailsToReadOn g cells has_days sql params old new given fault)
      → HasCauseIf (CanBeRead cells has_days sql params (state g first) (state g new))
      (state g first) (state g new) fault
  read_failed same honest limit read fault fails = record {
    cause = λ clean opened unlimited t holds written can.
        let was = same.kept.spared.honest (honest clean) in
        let held = (holds was opened).holds in
        let schema = held.rows.declared in
        let so_far = read (honest clean) schema in
        let still : HasDesk old.schema = subst (λ (d : Database). HasDesk d.schema)
        (sym so_far.2.0.now_is) schema in
        elim (fails clean so_far.0 so_far.1) [
          | inl failed ↦ elim (caused sql params (state g old) (state g new) still
              so_far.2.0.is_open (limit ∙ unlimited) asked failed.0 failed.1) [
                | inl memory ↦ inl (failed.2 ∙ memory)
                | inr more ↦ inr (
                  failed.2 ∙ more.0,
                  omega (arith, same.kept.spared.outlasts.counts, more.1),
                )
              ]
          | inr unread ↦
              let unchanged = unchanged_then (state g first) (state g old) (state g new) so_far.2
              unread.2 in
              let whole = whole_answer sql params (state g first) (state g new)
              (so_far.0 ++ unread.0 ∷ []) asked schema unchanged
              (given_begin g sql params new (so_far.0 ++ unread.0 ∷ []) unread.1) in
              let shown = can.reads held ((so_far.0 ++ unread.0 ∷ []) ++ whole.0) whole.1 in
              let one = one_of cells IsRow has_days so_far.0 unread.0 whole.0 shown.0 shown.1
              shown.2 shown.3 in
              inl (unread.3 one.0 one.1 one.2 one.3)
        ];
  }
