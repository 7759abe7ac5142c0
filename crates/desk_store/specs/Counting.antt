-- What the store keeps beside its tables: how many rows some of them have, the forms of the
-- catalogue in force, the tallies of the releases, and what was found of the rows.
use Rattle.std.specs.Prelude.{◌≡◌, ◌<◌, ◌^◌, ℕ, ◌+◌, Bool, true, false, List, length}
use Rattle.sqlite_trees.specs.Tree.{Trees}
use Rattle.desk_model.specs.declared.command.Change.{Change}
use Rattle.desk_model.specs.declared.command.Change.TheVariants as change
use Rattle.desk_model.specs.Tables.{Tables}
use Rattle.desk_access.specs.Seen.{Seen}
use Rattle.desk_sql_layout.specs.Held.{Known, known_of}
use Rattle.desk_tally.specs.Kept.{AreKept}
use Rattle.desk_tally.specs.declared.tallies.Tallies.{Tallies}
use Rattle.desk_sql_cache.specs.Found.{AreFound}
use Rattle.desk_sql_cache.specs.declared.found.Found.{Found}
use Rattle.desk_beside.specs.declared.counts.Counts.{Counts}

-- what a store knows of its rows: these counts, and the forms of the catalogue in force
abbrev pub known_by : Counts → List (List ℕ) → Known
known_by counts forms = record {
  revisions = counts.revisions;
  documents = counts.documents;
  releases = counts.releases;
  duties = counts.duties;
  forms = forms;
}

-- the counts after a change
abbrev pub counts_after : Change → Counts → Counts
counts_after (change.Loaded row rules forms) c = record c { revisions = c.revisions + 1 }
counts_after (change.Imported row packages references) c = record c { documents = c.documents + 1 }
counts_after (change.Opened row) c = record c { releases = c.releases + 1 }
counts_after (change.Froze release revision rows duties changes) c = record c {
  duties = c.duties
      + length duties;
}
counts_after _ c = c

-- the count to which a change adds has room for it in 32 bits
abbrev pub HasCount : Change → Counts → Type 0
HasCount (change.Loaded row rules forms) c = c.revisions + 1 < 2 ^ 32
HasCount (change.Imported row packages references) c = c.documents + 1 < 2 ^ 32
HasCount (change.Opened row) c = c.releases + 1 < 2 ^ 32
HasCount (change.Froze release revision rows duties changes) c = c.duties + length duties < 2 ^ 32
HasCount _ c = Unit {0}

-- the forms after a change
abbrev pub forms_after : Change → List (List ℕ) → List (List ℕ)
forms_after (change.Loaded row rules forms) old = forms
forms_after _ old = old

-- and after a change that was written or wasn't
abbrev pub forms_noted : Bool → Change → List (List ℕ) → List (List ℕ)
forms_noted true change old = forms_after change old
forms_noted false change old = old

-- What contracts see of a store that knows this of its rows, has these tallies of them, and found
-- this. It was looked up, so it is true of the rows as far as the disk is honest.
abbrev pub tallied : Found → Tallies → Known → Seen Trees → Seen Trees
tallied found tallies k s = record {
  holds = λ t. (known_of t ≡ k) × AreKept tallies t × s.holds t × (s.is_honest → AreFound found t);
  is_honest = s.is_honest;
  is_open = s.is_open;
  faults = s.faults;
  leaves = s.leaves;
}
