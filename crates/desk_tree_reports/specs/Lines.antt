-- Rows as lines.
use Rattle.std.specs.Prelude.{ℕ, nat_eq, Bool, true, List, [], ◌++◌, codes, decimal, Option, Some}
use Rattle.std.specs.Prelude.{None, if◌then◌else◌}
use Rattle.desk_base.specs.Terminal.{shown}
use Rattle.desk_tree_problems.specs.declared.row.Kind.{Kind}
use Rattle.desk_tree_problems.specs.declared.row.Row.{Row}
use Rattle.desk_tree_problems.specs.Rows.{kind_number}

-- what is between the path and the message
abbrev pub place : Option ℕ → List ℕ
place None = codes ": "
place (Some line) = codes ":" ++ (decimal line ++ codes ": ")

-- a row as a line: path, number of the line if it has one, and message, with no control characters
abbrev pub row_line : Row → List ℕ
row_line row = shown row.path ++ (place row.line ++ (shown row.message ++ codes "\n"))

-- whether a row of a kind has a line, if only those of one kind may be asked for
abbrev pub has_line : Option Kind → Kind → Bool
has_line None kind = true
has_line (Some other) kind = nat_eq (kind_number kind) (kind_number other)

-- the line of a row, if it has one
abbrev pub line_if : Option Kind → Row → List ℕ
line_if only row = if has_line only row.kind then row_line row else []

-- the line of a row, if that is of a kind
abbrev pub line_of_kind : Kind → Row → List ℕ
line_of_kind kind row = line_if (Some kind) row
