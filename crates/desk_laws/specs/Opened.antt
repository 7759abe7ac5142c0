-- A connection to what a stop of the program left.
use Rattle.std.specs.Prelude.{◌≡◌}
use Rattle.sqlite.specs.State.{State, IsLive, Opens}
use Rattle.sqlite_trees.specs.Tree.{Trees}

-- A connection was opened on what was left: it is open, all that it shows is committed, what it
-- shows is a database, and these are its trees. The library says so of each connection that it
-- opens on an image that holds these trees.
pub record IsOpenedOn (s : State) (left : Trees) : Type 0 where
  pub opens : Opens s
  pub live : IsLive s
  pub found : s.committed.trees ≡ left
