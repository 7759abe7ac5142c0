-- What a command is once all arguments, or all subcommands, of some rows have been added.
use Rattle.std.proofs.Common.{◌≡◌, ◌<◌, ◌+◌, ◌||◌, ◌++◌, true, false, [], ◌∷◌, ℕ, List, Some}
use Rattle.std.proofs.Common.{length, map, take, drop, get_or, add-one, drop-cons, refl, sym, ◌∙◌}
use Rattle.std.proofs.Common.{ap}
use Rattle.std.specs.List.{All}
use Rattle.std.specs.Str.{bytes_eq}
use Rattle.std.proofs.lemmas.List.{map-append, map_more}
use Rattle.std.proofs.lemmas.List.Elements.{All-head, All-tail}
use Rattle.clap.specs.Words.{AddsArg, AddsInTurn, AddsSubcommand, Shape, Text, app_of, new_app, rule_of, shape_of}
use Rattle.clap.specs.declared.builder.arg.Arg.{Arg}
use Rattle.clap.specs.declared.builder.command.Command.{Command}
use Rattle.clap.specs.declared.builder.command.Command.TheViews.{out-Command}
use Rattle.desk_line.specs.Rows.{kind_named, row_app, rule_at, with_rules, with_subcommands}
use Rattle.desk_line.specs.Words.{desk_alone, desk_app}
use Rattle.desk_line.specs.declared.subcommands.Subcommand.{Subcommand}

-- the argument isn't passed on to subcommands
abbrev IsOwn : Arg → Type 0
IsOwn arg = arg.global ≡ false

-- the command has no argument that is passed on to its subcommands
abbrev IsLocal : Command → Type 0
IsLocal command = (out-Command command).has_globals ≡ false

pub rules_added : (args : List Arg) (old new : Command) → AddsInTurn AddsArg old args new
    → All (λ arg. arg.global ≡ false) args
    → app_of new ≡ with_rules (app_of old) (map rule_of args)
rules_added [] old new same local = ap app_of (sym same)
rules_added (arg ∷ more) old new adds local =
    rules_added more adds.0 new adds.2 (All-tail IsOwn arg more local)
    ∙ ap (λ app. with_rules app (map rule_of more)) (adds.1.shape (All-head IsOwn arg more local))

pub arguments_stay_local : (args : List Arg) (old new : Command) → AddsInTurn AddsArg old args new
    → All (λ arg. arg.global ≡ false) args
    → (out-Command old).has_globals ≡ false → (out-Command new).has_globals ≡ false
arguments_stay_local [] old new same local before = ap (λ c. (out-Command c).has_globals) (sym same)
    ∙ before
arguments_stay_local (arg ∷ more) old new adds local before =
    arguments_stay_local more adds.0 new adds.2 (All-tail IsOwn arg more local)
    (adds.1.globals ∙ (ap (λ b. b || arg.global) before ∙ All-head IsOwn arg more local))

pub subcommands_added : (commands : List Command) (old new : Command)
    → AddsInTurn AddsSubcommand old commands new
    → All (λ c. (out-Command c).has_globals ≡ false) commands
    → app_of new ≡ with_subcommands (app_of old) (map shape_of commands)
subcommands_added [] old new same local = ap app_of (sym same)
subcommands_added (c ∷ more) old new adds local =
    subcommands_added more adds.0 new adds.2 (All-tail IsLocal c more local)
    ∙ ap (λ app. with_subcommands app (map shape_of more))
    (adds.1.shape (All-head IsLocal c more local))

pub subcommands_stay_local : (commands : List Command) (old new : Command)
    → AddsInTurn AddsSubcommand old commands new
    → All (λ c. (out-Command c).has_globals ≡ false) commands
    → (out-Command old).has_globals ≡ false → (out-Command new).has_globals ≡ false
subcommands_stay_local [] old new same local before = ap (λ c. (out-Command c).has_globals)
    (sym same) ∙ before
subcommands_stay_local (c ∷ more) old new adds local before =
    subcommands_stay_local more adds.0 new adds.2 (All-tail IsLocal c more local)
    (adds.1.globals ∙ (ap (λ b. b || (out-Command c).has_globals) before
    ∙ All-head IsLocal c more local))

-- one more is made, from the next row
pub made_from_next : {X Y Z : Type 0} (f : X → Z) (g : Y → Z) (made all : List X) (last : X)
    (rows : List Y) (place : ℕ) (row : Y)
    → all ≡ made ++ last ∷ [] → map f made ≡ map g (take place rows) → place < length rows
    → f last ≡ g (get_or rows place row)
    → map f all ≡ map g (take (place + 1) rows)
made_from_next f g made all last rows place row one_more before low same =
    ap (map f) one_more ∙ map-append f made (last ∷ []) ∙ ap (λ zs. zs ++ (f last ∷ [])) before
    ∙ ap (λ z. map g (take place rows) ++ z ∷ []) same ∙ sym (map_more g rows place row low)

-- a command with a row's name and arguments is the one that the row means
pub row_whole : (row : Subcommand) (args : List Arg) (old new : Command)
    → AddsInTurn AddsArg old args new
    → map rule_of args ≡ map rule_at row.arguments.now → All (λ arg. arg.global ≡ false) args
    → app_of old ≡ new_app row.name.now
    → app_of new ≡ row_app row
row_whole row args old new adds same local named =
    rules_added args old new adds local ∙ ap (λ app. with_rules app (map rule_of args)) named
    ∙ ap (with_rules (new_app row.name.now)) same

-- the program's command with the subcommands of all rows is the whole command
pub desk_whole : (commands : List Command) (shapes : List Shape) (old new : Command)
    → AddsInTurn AddsSubcommand old commands new
    → map shape_of commands ≡ shapes → All (λ c. (out-Command c).has_globals ≡ false) commands
    → app_of old ≡ desk_alone
    → with_subcommands desk_alone shapes ≡ desk_app → app_of new ≡ desk_app
desk_whole commands shapes old new adds same local alone whole =
    subcommands_added commands old new adds local
    ∙ ap (λ app. with_subcommands app (map shape_of commands)) alone
    ∙ ap (with_subcommands desk_alone) same ∙ whole

-- either the row at a place has the name, or the rows after it decide
pub named_here : (name : Text) (rows : List Subcommand) (place : ℕ) (row : Subcommand)
    → place < length rows
    → bytes_eq name (get_or rows place row).name.now ≡ true
    → kind_named name (drop place rows) ≡ Some (get_or rows place row).kind
named_here name rows place row low same = rw (drop-cons rows place row, same) refl

pub named_behind : (name : Text) (rows : List Subcommand) (place : ℕ) (row : Subcommand)
    → place < length rows
    → bytes_eq name (get_or rows place row).name.now ≡ false
    → kind_named name (drop place rows) ≡ kind_named name (drop (place + 1) rows)
named_behind name rows place row low other = rw (add-one, drop-cons rows place row, other) refl
