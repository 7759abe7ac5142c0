-- What contracts see of a store, and what a call may do to it.
use Rattle.std.specs.Prelude.{◌≡◌, ◌⊎◌, ℕ, ◌+◌, ◌-◌, ◌^◌, ◌≤◌, min, true, false, Result, Ok, Err}
use Rattle.desk_model.specs.Tables.{Tables, applied}
use Rattle.desk_model.specs.Answers.{is_recorded}
use Rattle.desk_model.specs.declared.command.Change.{Change}
use Rattle.desk_model.specs.declared.command.Answer.{Answer}
use Rattle.desk_model.specs.declared.command.Fault.{Fault}
use Rattle.desk_access.specs.Follows.{Follows}

-- What contracts see of a store. `Left` is what a stop of the program may leave of it.
pub record Seen (Left : Type 0) : Type 1 where
  -- these are its rows, as far as it still shows any
  pub holds : Tables → Type 0
  -- so far its disk has given back what was written
  pub is_honest : Type 0
  -- it shows its rows; a fault of the disk may end that
  pub is_open : Type 0
  -- how many times its disk has failed
  pub faults : ℕ
  -- a stop may leave this
  pub leaves : Left → Type 0

-- the disk failed at least once more; the count stops at the greatest number of 64 bits
abbrev pub MoreFaults : ℕ → ℕ → Type 0
MoreFaults old new = min (old + 1) (2 ^ 64 - 1) ≤ new

module _ {Left : Type 0} where
  -- no fault of the disk is forgotten, and only a fault of the disk closes the store
  pub record Outlasts (old new : Seen Left) : Type 0 where
    pub counts : old.faults ≤ new.faults
    pub closes : new.is_honest → old.is_open → new.is_open ⊎ MoreFaults old.faults new.faults

  -- the rows are as they were, as far as the store still shows any
  pub record Spared (old new : Seen Left) : Type 0 where
    pub honest : new.is_honest → old.is_honest
    pub holds : (t : Tables) → old.holds t → new.holds t
    pub outlasts : Outlasts old new

  -- in addition, a stop leaves nothing that it couldn't leave before
  pub record Kept (old new : Seen Left) : Type 0 where
    pub spared : Spared old new
    pub leaves : new.is_honest → old.is_open → (t : Tables) → old.holds t → (x : Left)
        → new.leaves x → old.leaves x

  -- in addition, the store still shows its rows if it did before
  pub record Same (old new : Seen Left) : Type 0 where
    pub kept : Kept old new
    pub stays : new.is_honest → old.is_open → new.is_open

  -- what a look-up does to a store: nothing, although after a fault of the disk it may no longer
  -- show its rows
  abbrev pub Looked : {A : Type 0} → Seen Left → Seen Left → Result A Fault → Type 0
  Looked old new (Ok x) = Same old new
  Looked old new (Err fault) = Kept old new

  -- true of the rows that the store held, if its disk was honest
  abbrev pub OfRows : (Tables → Type 0) → Seen Left → Seen Left → Type 0
  OfRows Is old new = new.is_honest → (t : Tables) → old.holds t → Is t

  module _ (stands : Left → Tables → Type 0) where
    -- a change that continues the rows is made, and a stop leaves the rows after it and no others
    pub record Made (change : Change) (old new : Seen Left) : Type 0 where
      pub honest : new.is_honest → old.is_honest
      pub outlasts : Outlasts old new
      pub stays : new.is_honest → new.is_open
      pub holds : new.is_honest → (t : Tables) → old.holds t → Follows change t
          → new.holds (applied change t)
      pub leaves : new.is_honest → (t : Tables) → old.holds t → Follows change t → (x : Left)
          → new.leaves x → stands x (applied change t)

    -- the rows are as they were; a stop may leave the change
    pub record Failed (change : Change) (old new : Seen Left) : Type 0 where
      pub spared : Spared old new
      pub leaves : new.is_honest → old.is_open → (t : Tables) → old.holds t → Follows change t
          → (x : Left) → new.leaves x → old.leaves x ⊎ stands x (applied change t)

    -- what writing a change does to a store
    abbrev pub Wrote : Change → Seen Left → Seen Left → Result (Unit {0}) Fault → Type 0
    Wrote change old new (Ok done) = Made change old new
    Wrote change old new (Err fault) = Failed change old new

  -- What a command does to a store, whatever the texts say: if it isn't recorded, the rows are as
  -- they were, and only a fault of the disk closes the store.
  abbrev pub Minds : Seen Left → Seen Left → Result Answer Fault → Type 0
  Minds old new (Ok a) = (new.is_honest → old.is_honest) × (is_recorded a ≡ false → Same old new)
      × Outlasts old new
  Minds old new (Err fault) = Spared old new

  -- What a command does to a store for each i whose tables may be its rows: its answer, and the
  -- tables after it.
  module _ (stands : Left → Tables → Type 0) {I : Type 0} (Is : I → Type 0)
      (before after : I → Tables) (answer : I → Answer) where
    -- an answer is the right one; if the command is recorded, the rows and what a stop leaves are
    -- those after it
    pub record Answered (old new : Seen Left) (a : Answer) : Type 0 where
      pub right : new.is_honest → (i : I) → Is i → old.holds (before i) → a ≡ answer i
      pub stays : new.is_honest → old.is_open → new.is_open
      pub holds : is_recorded a ≡ true → new.is_honest → (i : I) → Is i → old.holds (before i)
          → new.holds (after i)
      pub leaves : is_recorded a ≡ true → new.is_honest → (i : I) → Is i → old.holds (before i)
          → (x : Left) → new.leaves x → stands x (after i)

    -- after a fault a stop leaves what it could leave before, or the tables after the command, if
    -- it was to be recorded
    abbrev pub Faulted : Seen Left → Seen Left → Type 0
    Faulted old new = new.is_honest → old.is_open → (i : I) → Is i → old.holds (before i)
        → (x : Left) → new.leaves x → old.leaves x
        ⊎ ((is_recorded (answer i) ≡ true) × stands x (after i))

    -- what a command does to the store, by its outcome: with an answer it took effect if it is
    -- recorded; after a fault only what a stop leaves may be that of the command
    abbrev pub Decides : Seen Left → Seen Left → Result Answer Fault → Type 0
    Decides old new (Ok a) = Answered old new a
    Decides old new (Err fault) = Faulted old new
