-- Why what is at a path can't be used.
use Rattle.std.specs.Prelude.{◌≡◌, ◌&&◌, not, ℕ, Bool, List, nat_eq, codes}
use Rattle.std.specs.List.{starts_with}
use Rattle.std.specs.Str.{bytes_eq}
use Rattle.std.specs.String.{string_bytes}
use Rattle.std.specs.declared.io.Error.{Error}
use Rattle.desk_subcommands.specs.declared.failure.Failure.{Failure}
use Rattle.desk_subcommands.specs.declared.failure.Failure.TheVariants as failure
use Rattle.desk_subcommands.specs.declared.trouble.Trouble.{Trouble}
use Rattle.desk_subcommands.specs.declared.trouble.Trouble.TheVariants as trouble

-- it can't be read, or no memory was left
abbrev pub IsUnread : List ℕ → Failure → Type 0
IsUnread path (failure.Memory error) = Unit {0}
IsUnread path (failure.Read told error) = string_bytes told ≡ path
IsUnread path other = ⊥

-- the same by this error
abbrev pub IsUnreadBy : Error → List ℕ → Failure → Type 0
IsUnreadBy error path (failure.Memory memory) = Unit {0}
IsUnreadBy error path (failure.Read told why) = (string_bytes told ≡ path) × (why ≡ error)
IsUnreadBy error path other = ⊥

-- it is no folder, or no memory was left
abbrev pub IsNoFolder : List ℕ → Failure → Type 0
IsNoFolder path (failure.Memory error) = Unit {0}
IsNoFolder path (failure.NotAFolder told) = string_bytes told ≡ path
IsNoFolder path other = ⊥

-- what is wrong at a path at which a database can't be opened
abbrev pub IsClosed : Trouble → Type 0
IsClosed trouble.Folder = Unit {0}
IsClosed trouble.NoFolder = Unit {0}
IsClosed trouble.ReadOnly = Unit {0}
IsClosed trouble.Unreadable = Unit {0}
IsClosed trouble.CannotOpen = Unit {0}
IsClosed _ = ⊥

-- a path, and not a name with a meaning of its own: a database in memory or a URI (SQLite,
-- "In-Memory Databases" and "Uniform Resource Identifiers", 3)
abbrev pub is_path : List ℕ → Bool
is_path path = not (bytes_eq path (codes ":memory:"))
    && not (starts_with nat_eq path (codes "file:"))
