-- What the rows of the program's tables mean.
use Rattle.std.specs.Prelude.{List, [], ◌∷◌, map, Option, Some, None, if◌then◌else◌}
use Rattle.std.specs.Str.{bytes_eq}
use Rattle.clap.specs.Words.{App, Rule, Shape, Text, new_app, with_rule, with_subcommand}
use Rattle.desk_line.specs.Words.{count, flag, number_option, option, optional, optional_number, several, wanted, word, words}
use Rattle.desk_line.specs.declared.arguments.Argument.{Argument}
use Rattle.desk_line.specs.declared.arguments.Form.{Form}
use Rattle.desk_line.specs.declared.arguments.Form.TheVariants.{Word, Words, Preset, Wanted}
use Rattle.desk_line.specs.declared.arguments.Form.TheVariants.{Optional, Several, Flag, Count, Number}
use Rattle.desk_line.specs.declared.arguments.Form.TheVariants.{OptionalNumber}
use Rattle.desk_line.specs.declared.subcommands.Kind.{Kind}
use Rattle.desk_line.specs.declared.subcommands.Subcommand.{Subcommand}

-- an argument with a name, by its form
abbrev pub rule_by : Text → Form → Rule
rule_by name Word = word name
rule_by name Words = words name
rule_by name (Preset long value) = option name long.now value.now
rule_by name (Wanted long) = wanted name long.now
rule_by name (Optional long) = optional name long.now
rule_by name (Several long) = several name long.now
rule_by name (Flag long) = flag name long.now
rule_by name (Count most) = count name most
rule_by name (Number long most) = number_option name long.now most
rule_by name (OptionalNumber long most) = optional_number name long.now most

-- the argument of a row
abbrev pub rule_at : Argument → Rule
rule_at row = rule_by row.name.now row.form

-- a command with more arguments
abbrev pub with_rules : App → List Rule → App
with_rules app [] = app
with_rules app (rule ∷ more) = with_rules (with_rule app rule) more

-- the subcommand of a row
abbrev pub row_app : Subcommand → App
row_app row = with_rules (new_app row.name.now) (map rule_at row.arguments.now)

-- the same, as `clap` keeps it among the subcommands of a command
abbrev pub row_shape : Subcommand → Shape
row_shape row = (row_app row).top

-- a command with more subcommands
abbrev pub with_subcommands : App → List Shape → App
with_subcommands app [] = app
with_subcommands app (shape ∷ more) = with_subcommands (with_subcommand app shape) more

-- which of the rows has a name
abbrev pub kind_named : Text → List Subcommand → Option Kind
kind_named name [] = None
kind_named name (row ∷ more) = if bytes_eq name row.name.now then Some row.kind
    else kind_named name more
