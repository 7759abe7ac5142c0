-- Writes, one after another, fail only for a cause if each does.
use Rattle.std.proofs.Common.{◌≡◌, ◌∙◌, ◌⊎◌, inl, inr, ℕ, ◌+◌, ◌-◌, ◌≤◌, List, [], ◌∷◌, ◌++◌}
use Rattle.std.proofs.Common.{None, Ok, Err, Result, refl, sym}
use Rattle.std.proofs.Common.{subst, arith, rules}
use Rattle.std.specs.List.{AllByRecursion}
use Rattle.std.specs.Result.{IsErrAnd}
use Rattle.sqlite_value.specs.Keys.{plain}
use Rattle.sqlite_value.specs.Order.{Row}
use Rattle.sqlite_trees.specs.Tree.{Trees, rowid}
use Rattle.sqlite_schema.specs.declared.schema.Table.{Table}
use Rattle.sqlite_schema.specs.Rules.{agree}
use Rattle.sqlite.specs.State.{State, Survives}
use Rattle.sqlite.proofs.InsideLemmas.{keeps_then}
use Rattle.desk_model.specs.declared.command.Fault.{Fault}
use Rattle.desk_model.specs.declared.command.Fault.TheVariants.{Memory}
use Rattle.desk_sql_layout.specs.Held.{labelled}
use Rattle.desk_sql_layout.specs.Layout.{desk_schema}
use Rattle.desk_sql_layout.proofs.Clean.{clean_before}
use Rattle.desk_sql_write.specs.Taking.{IsSmall, StandsOnce, CanStand, HasRoom, LeavesRoom}
use Rattle.desk_sql_write.specs.Taking.{IsCaused, in_cells}
use Rattle.desk_sql_write.specs.Turning.{Turns}
use Rattle.desk_sql_write.proofs.Inside.{survives_both}
use Rattle.desk_sql_write.proofs.Lists.{count_both}
use Rattle.desk_sql_write.proofs.Rooms.{fewer_left, front_all}

pub room_less : (n many : ℕ) (trees : Trees) → HasRoom (n + many) trees → HasRoom n trees
room_less n many trees room = record {
  few = omega (arith, room.few);
  room = each desk_schema.tables room.room;
}
  where
    each : (tables : List Table) → AllByRecursion
        (λ t. t.key ≡ None → AllByRecursion (λ r. LeavesRoom (n + many) (rowid r)) (trees t.tree))
        tables → AllByRecursion (λ t. t.key ≡ None
        → AllByRecursion (λ r. LeavesRoom n (rowid r)) (trees t.tree)) tables
    each [] all = tt
    each (t ∷ tables) all = (
      (λ none. fewer_left n many (trees t.tree) (all.0 none)),
      each tables all.1,
    )

-- ---- rows between those before and those after

front_once : (xs ys : List Row) (places : List ℕ) → StandsOnce (xs ++ ys) places
    → StandsOnce xs places
front_once xs ys places once key =
    let p = λ (row : Row). agree plain (in_cells places) row (in_cells places) key in
    omega (arith, once key, count_both p xs ys)

front_keys : (xs ys : List Row) (keys : List (List ℕ)) → AllByRecursion (StandsOnce (xs ++ ys)) keys
    → AllByRecursion (StandsOnce xs) keys
front_keys xs ys [] all = tt
front_keys xs ys (k ∷ keys) all = (front_once xs ys k all.0, front_keys xs ys keys all.1)

-- rows are as before, or as after, or have more rows at the end afterwards
abbrev pub IsBetween : List Row → List Row → List Row → Type 0
IsBetween old mid last = (mid ≡ old) ⊎ ((mid ≡ last) ⊎ ((more : List Row) × (last ≡ mid ++ more)))

-- what is true of the rows of each table before and after is true between, if it is true of the
-- first rows wherever it is true of all
between : (P : Table → List Row → Type 0)
    → ((t : Table) (xs ys : List Row) → P t (xs ++ ys) → P t xs) → (old mid last : ℕ → List Row)
    → (tables : List Table)
    → AllByRecursion (λ t. IsBetween (old t.tree) (mid t.tree) (last t.tree)) tables
    → AllByRecursion (λ t. P t (old t.tree)) tables
    → AllByRecursion (λ t. P t (last t.tree)) tables → AllByRecursion (λ t. P t (mid t.tree)) tables
between P front old mid last [] all a b = tt
between P front old mid last (t ∷ tables) all a b = (
  one all.0,
  between P front old mid last tables all.1 a.1 b.1,
)
  where
    one : IsBetween (old t.tree) (mid t.tree) (last t.tree) → P t (mid t.tree)
    one (inl is) = subst (P t) (sym is) a.0
    one (inr (inl is)) = subst (P t) (sym is) b.0
    one (inr (inr (more, is))) = front t (mid t.tree) more (subst (P t) is b.0)

pub can_stand : (old mid last : ℕ → List Row)
    → AllByRecursion (λ t. IsBetween (old t.tree) (mid t.tree) (last t.tree)) desk_schema.tables
    → CanStand old → CanStand last → CanStand mid
can_stand old mid last all before after = record {
  small = between (λ t. AllByRecursion (AllByRecursion IsSmall))
      (λ t. front_all (AllByRecursion IsSmall)) old mid last desk_schema.tables all before.small
      after.small;
  keys = between (λ t rows. AllByRecursion (StandsOnce rows) (t.primary ∷ t.uniques))
      (λ t xs ys. front_keys xs ys (t.primary ∷ t.uniques)) old mid last desk_schema.tables all
      before.keys after.keys;
}

room_within : (j l : ℕ) (trees : Trees) → j ≤ l → HasRoom l trees → HasRoom j trees
room_within j l trees within room = let some : l ≡ j + (l - j) = omega (arith, within) in
    room_less j (l - j) trees (subst (λ m. HasRoom m trees) some room)

none_survives : (s : State) → Survives s s (λ _. ⊥)
none_survives s = search rules

-- the same write, for what shows the rows
pub along : {A B : Type 0} (show : B → A) (before after : A → ℕ → List Row) (many : ℕ) (a b : State)
    (r : Result (Unit {0}) Fault) → Turns before after many a b r
    → Turns (λ x. before (show x)) (λ x. after (show x)) many a b r
along show before after many a b (Ok done) w = record {
  wrote = λ clean inside. let it = w.wrote clean inside in
      record { inside = it.inside; kept = it.kept; change = λ x has. it.change (show x) has };
  cause = λ clean inside. let it = w.cause clean inside in
      record { is_open = it.is_open; room = λ x has n room. it.room (show x) has n room };
  survives = w.survives;
}
along show before after many a b (Err fault) w = record {
  wrote = w.wrote;
  cause = record {
    cause = λ clean inside opened unlimited x has before after room. w.cause.cause
        clean inside opened unlimited (show x) has before after room;
  };
  survives = w.survives;
}

-- the same rows that are added, for what shows the rows before
pub adds_for : {A : Type 0} (show : A → ℕ → List Row) {more : (ℕ → List Row) → ℕ → List Row}
    {many : ℕ} {a b : State} {r : Result (Unit {0}) Fault}
    → Turns (λ rows. rows) more many a b r → Turns show (λ x. more (show x)) many a b r
adds_for show {more} {many} {a} {b} {r} = along show (λ rows. rows) more many a b r

module _ {A : Type 0} where
  -- nothing was written yet
  pub none_turns : (f : A → ℕ → List Row) (s : State) → Turns f f 0 s s (Ok tt)
  none_turns f s = record {
    wrote = λ clean inside. record {
      inside = inside;
      kept = record { was_open = λ is. is; committed = λ is. refl };
      change = λ x has. has;
    };
    cause = λ clean inside. record {
      is_open = λ is. is;
      room = λ x has n room. room_less n 0 (labelled s.now) room;
    };
    survives = none_survives s;
  }

  -- the same rows, said differently
  pub as_turns : (f g h : A → ℕ → List Row) (many : ℕ) (a b : State) (r : Result (Unit {0}) Fault)
      → ((x : A) (tree : ℕ) → g x tree ≡ h x tree) → Turns f g many a b r → Turns f h many a b r
  as_turns f g h many a b r same = subst (λ (k : A → ℕ → List Row). Turns f k many a b r)
      (λ i x tree. same x tree i)

  -- with a count that is no smaller
  pub more_turns : (f g : A → ℕ → List Row) (j l : ℕ) (a b : State) (r : Result (Unit {0}) Fault)
      → j ≤ l → Turns f g j a b r → Turns f g l a b r
  more_turns f g j l a b (Ok done) within w = record {
    wrote = w.wrote;
    cause = λ clean inside.
        let it = w.cause clean inside in
        record {
          is_open = it.is_open;
          room = λ x has n room. it.room x has n
              (room_within (n + j) (n + l) (labelled a.now) (omega (arith, within)) room);
        };
    survives = w.survives;
  }
  more_turns f g j l a b (Err fault) within w = record {
    wrote = w.wrote;
    cause = record {
      cause = λ clean inside opened unlimited x has before after room. w.cause.cause
          clean inside opened unlimited x has before after
          (room_within j l (labelled a.now) within room);
    };
    survives = w.survives;
  }

  -- a write that failed, as one that would have done more
  pub less_turns : (f g h : A → ℕ → List Row) (many : ℕ) (a b : State) (fault : Fault)
      → ((x : A) → CanStand (f x) → CanStand (h x) → CanStand (g x))
      → Turns f g many a b (Err fault) → Turns f h many a b (Err fault)
  less_turns f g h many a b fault between w = record {
    wrote = w.wrote;
    cause = record {
      cause = λ clean inside opened unlimited x has before after room. w.cause.cause
          clean inside opened unlimited x has before (between x before after) room;
    };
    survives = w.survives;
  }

  -- `?` returns a fault
  pub err_turns : (f g : A → ℕ → List Row) (many : ℕ) (a b : State) (r : Result (Unit {0}) Fault)
      (fault : Fault) → IsErrAnd r (λ e. e ≡ fault) → Turns f g many a b (Err fault)
      → Turns f g many a b r
  err_turns f g many a b (Ok done) fault is w = absurd is
  err_turns f g many a b (Err e) fault is w = rw is w

  -- a fault before anything was written
  pub early_turns : (f g : A → ℕ → List Row) (many : ℕ) (s : State) (r : Result (Unit {0}) Fault)
      (fault : Fault) → IsErrAnd r (λ e. e ≡ fault)
      → ((x : A) → CanStand (g x) → IsCaused s s fault) → Turns f g many s s r
  early_turns f g many s r fault is caused = err_turns f g many s s r fault is (record {
    wrote = λ clean inside. record { was_open = λ is. is; committed = λ is. refl };
    cause = record {
      cause = λ clean inside opened unlimited x has before after room. caused x
          after;
    };
    survives = none_survives s;
  })

  pub memory_turns : {f g : A → ℕ → List Row} {many : ℕ} {s : State}
      {r : Result (Unit {0}) Fault} → IsErrAnd r (λ e. e ≡ Memory) → Turns f g many s s r
  memory_turns {f} {g} {many} {s} {r} is = early_turns f g many s r Memory is (λ x after. inl refl)

  -- one write, and then another
  pub then_turns : (f g h : A → ℕ → List Row) (j k : ℕ) (a b c : State)
      (r : Result (Unit {0}) Fault) → ((x : A) → CanStand (f x) → CanStand (h x) → CanStand (g x))
      → Turns f g j a b (Ok tt) → Turns g h k b c r → Turns f h (j + k) a c r
  then_turns f g h j k a b c (Ok done) between v w = record {
    wrote = λ clean inside.
        let first = v.wrote (clean_before b c _ w.survives clean) inside in
        let next = w.wrote clean first.inside in
        record {
          inside = next.inside;
          kept = keeps_then a b c first.kept next.kept;
          change = λ x has. next.change x (first.change x has);
        };
    cause = λ clean inside.
        let was = clean_before b c _ w.survives clean in
        let first = v.wrote was inside in
        let used = v.cause was inside in
        let then = w.cause clean first.inside in
        record {
          is_open = λ is. then.is_open (used.is_open is);
          room = λ x has n room.
              let turned : n + (j + k) ≡ (n + k) + j = omega arith in
              then.room x (first.change x has) n
              (used.room x has (n + k) (subst (λ m. HasRoom m (labelled a.now)) turned room));
        };
    survives = survives_both a b c v.survives w.survives;
  }
  then_turns f g h j k a b c (Err fault) between v w = record {
    wrote = λ clean inside.
        let first = v.wrote (clean_before b c _ w.survives clean) inside in
        keeps_then a b c first.kept (w.wrote clean first.inside);
    cause = record {
      cause = λ clean inside opened unlimited x has before after room.
          let was = clean_before b c _ w.survives clean in
          let first = v.wrote was inside in
          let used = v.cause was inside in
          let turned : j + k ≡ k + j = omega arith in
          let left = used.room x has k (subst (λ m. HasRoom m (labelled a.now)) turned room) in
          elim (w.cause.cause clean first.inside (used.is_open opened)
          (v.survives.limit ∙ unlimited) x (first.change x has) (between x before after) after left) [
            | inl memory ↦ inl memory
            | inr more ↦ inr (more.0, omega (arith, v.survives.counts, more.1))
          ];
    };
    survives = survives_both a b c v.survives w.survives;
  }

  -- a write that adds nothing, and then another
  pub next_turns : (f g h : A → ℕ → List Row) (k : ℕ) (a b c : State) (r : Result (Unit {0}) Fault)
      → ((x : A) → CanStand (f x) → CanStand (h x) → CanStand (g x)) → Turns f g 0 a b (Ok tt)
      → Turns g h k b c r → Turns f h k a c r
  next_turns f g h k a b c r between v w = let same : 0 + k ≡ k = omega arith in
      subst (λ n. Turns f h n a c r) same (then_turns f g h 0 k a b c r between v w)

  -- the first of two writes failed
  pub first_fails : (f g h : A → ℕ → List Row) (j l : ℕ) (a b : State) (r : Result (Unit {0}) Fault)
      (fault : Fault) → IsErrAnd r (λ e. e ≡ fault) → j ≤ l
      → ((x : A) → CanStand (f x) → CanStand (h x) → CanStand (g x))
      → Turns f g j a b (Err fault) → Turns f h l a b r
  first_fails f g h j l a b r fault is within between w = err_turns f h l a b r fault is
      (more_turns f h j l a b (Err fault) within (less_turns f g h j a b fault between w))
