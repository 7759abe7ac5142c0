-- A text that declares a table, whatever else a schema has: it declares the table, or it is refused.
use Rattle.std.proofs.Common.{◌≡◌, ℕ, Bool, true, false, not, List, [], Option, Some, None, Ok, Err}
use Rattle.std.proofs.Common.{refl, sym, subst}
use Rattle.std.specs.Prelude.{◌==◌, ◌&&◌, ◌+◌, if◌then◌else◌, length, is_some, slice_range}
use Rattle.std.specs.Option.{option_or}
use Rattle.sqlite_ast.specs.declared.CreateTable.{CreateTable as Definition}
use Rattle.sqlite_ast.specs.declared.Statement.{Statement}
use Rattle.sqlite_ast.specs.declared.Statement.TheVariants as statement
use Rattle.sqlite_syntax.specs.declared.statement.Parsed.{Parsed}
use Rattle.sqlite_schema.specs.declared.command.Command.{Command}
use Rattle.sqlite_schema.specs.declared.command.Command.TheVariants.{CreateTable, Nothing}
use Rattle.sqlite_schema.specs.declared.command.Returning.{Returning}
use Rattle.sqlite_schema.specs.declared.schema.Schema.{Schema}
use Rattle.sqlite_schema.specs.declared.schema.Table.{Table}
use Rattle.sqlite_schema.specs.Names.{index_named, table_named, view_named}
use Rattle.sqlite_resolve.specs.declared.compiled.Compiled.{Compiled}
use Rattle.sqlite_resolve.specs.declared.error.CompileError.TheVariants.{Exists, Misuse}
use Rattle.sqlite_resolve.specs.declared.error.CompileError.TheVariants.{Unsupported}
use Rattle.sqlite_resolve.specs.Compile.{command, compiled, create_table, creates, first}
use Rattle.sqlite_resolve.specs.Compile.{is_attached, is_reserved, meaning, planned, returning}
use Rattle.sqlite_resolve.specs.Compile.{small, timed, with_command}
use Rattle.sqlite_resolve.specs.Define as define
use Rattle.sqlite_resolve.specs.Lowering.{Checked, and_then}
use Rattle.sqlite_resolve.specs.Scope.{Name}
use Rattle.sqlite.specs.Listing.{if_select, listing_schema, reads_listing, understood}
use Rattle.sqlite.specs.State.{text_of}

-- ---- the command

abbrev IfTable : Checked Command → Type 0
IfTable (Ok k) = k ≡ CreateTable
IfTable (Err e) = Unit {0}

-- a name that is taken is refused
never_kept : (reserved : Bool) (same other : Option ℕ)
    → (if reserved then Err Misuse else (if is_some other then Err Exists
    else (if is_some same then (if false then Ok false else Err Exists) else Ok true)))
    ≡ Ok false → ⊥
never_kept true same other h = absurd (cc)
never_kept false same (Some at) h = absurd (cc)
never_kept false (Some at) None h = absurd (cc)
never_kept false None None h = absurd (cc)

creates_none : (if_missing : Bool) → if_missing ≡ false → (name : Name) (same other : Option ℕ)
    → creates if_missing name same other ≡ Ok false → ⊥
unfolding creates
creates_none if_missing is name same other h = never_kept (is_reserved name) same other
    (subst (λ b. (if is_reserved name then Err Misuse else (if is_some other then Err Exists
    else (if is_some same then (if b then Ok false else Err Exists) else Ok true))) ≡ Ok false) is
    h)

if_declared : (attached : Bool) (r : Checked Bool) → (r ≡ Ok false → ⊥) → (t : Checked Table)
    (fits : Table → Bool)
    → IfTable (if attached then Err Unsupported else and_then r (λ is_new.
    if is_new then and_then t (λ t. if fits t then Ok CreateTable else Err Unsupported)
    else Ok Nothing))
if_declared true r never t fits = tt
if_declared false (Err e) never t fits = tt
if_declared false (Ok false) never t fits = absurd (never refl)
if_declared false (Ok true) never (Err e) fits = tt
if_declared false (Ok true) never (Ok t) fits = go (fits t)
  where
    go : (b : Bool) → IfTable (if b then Ok CreateTable else Err Unsupported)
    go true = refl
    go false = tt

creates_table : (schema : Schema) (formats : List Name) (def : Definition)
    → def.if_missing ≡ false → IfTable (create_table schema formats def)
unfolding create_table
creates_table schema formats def is =
    let same = option_or (table_named schema def.name) (view_named schema def.name) in
    let other = index_named schema def.name in
    if_declared (is_attached schema def.name) (creates def.if_missing def.name same other)
    (creates_none def.if_missing is def.name same other) (define.table formats def)
    (λ t. length t.computed == length t.stamps.places && not def.resolves)

-- ---- the text

module _ (text : List ℕ) where
  -- the text is one CREATE TABLE that doesn't say IF NOT EXISTS
  abbrev IsCreateOf : Parsed → Statement → Type 0
  IsCreateOf p (statement.CreateTable def) =
      (def.if_missing ≡ false) × (slice_range text p.start p.end ≡ text)
  IsCreateOf p _ = ⊥

  abbrev pub Creates : Checked Parsed → Type 0
  Creates (Ok p) = IsCreateOf p p.statement
  Creates (Err e) = ⊥

  pub record IsCreation (c : Compiled) : Type 0 where
    pub command_is : c.command ≡ CreateTable
    pub whole : text_of text c ≡ text
    pub returning : c.returning ≡ None
    pub formats : c.formats ≡ []

  abbrev IfCreation : Checked Compiled → Type 0
  IfCreation (Ok c) = IsCreation c
  IfCreation (Err e) = Unit {0}

  module _ (schema : Schema) (p : Parsed) where
    timed_create : (formats : List Name) (s : Statement) → IsCreateOf p s
        → timed schema formats s ≡ []
    unfolding timed
    timed_create formats (statement.CreateTable def) is = refl
    timed_create formats _ is = absurd is

    returning_create : (base : ℕ) (s : Statement) → IsCreateOf p s
        → returning schema base s ≡ Ok None
    unfolding returning
    returning_create base (statement.CreateTable def) is = refl
    returning_create base _ is = absurd is

    command_create : (formats : List Name) (base : ℕ) (s : Statement) → IsCreateOf p s
        → IfTable (command schema formats base s)
    unfolding command
    command_create formats base (statement.CreateTable def) is =
        creates_table schema formats def is.0
    command_create formats base _ is = absurd is

    whole_create : (s : Statement) → IsCreateOf p s → slice_range text p.start p.end ≡ text
    whole_create (statement.CreateTable def) is = is.1
    whole_create _ is = absurd is

    abbrev by_command : List Name → Checked (Option Returning) → Checked Command
        → Checked Compiled
    by_command formats shown c = and_then {A = List Name × (Command × Option Returning)}
        {B = Compiled} (and_then {A = Command × Option Returning}
        {B = List Name × (Command × Option Returning)} (and_then {A = Option Returning}
        {B = Command × Option Returning} shown (λ shown. and_then {A = Command}
        {B = Command × Option Returning} c (λ c. Ok (c, shown)))) (λ found. Ok (formats, found)))
        (λ plan. Ok (with_command p plan))

    if_created : (c : Checked Command) → IfTable c → slice_range text p.start p.end ≡ text
        → IfCreation (by_command [] (Ok None) c)
    if_created (Ok k) is whole = record {
      command_is = is;
      whole = whole;
      returning = refl;
      formats = refl;
    }
    if_created (Err e) is whole = tt

    planned_create : IsCreateOf p p.statement
        → IfCreation (and_then (planned schema p) (λ plan. Ok (with_command p plan)))
    unfolding planned meaning
    planned_create is =
        let formats = timed schema p.formats p.statement in
        let base = small p.names + small formats in
        let c = command schema p.formats base p.statement in
        subst IfCreation
        (sym (λ i. by_command (timed_create p.formats p.statement is i)
        (returning_create base p.statement is i) c))
        (if_created c (command_create p.formats base p.statement is)
        (whole_create p.statement is))

  module _ (creates : Creates (first text)) where
    compiled_create : (schema : Schema) → IfCreation (compiled schema text)
    unfolding compiled
    compiled_create schema = by (first text) creates
      where
        by : (r : Checked Parsed) → Creates r
            → IfCreation (and_then r (λ p. and_then (planned schema p)
            (λ plan. Ok (with_command p plan))))
        by (Ok p) is = planned_create schema p is
        by (Err e) is = absurd is

    listed_none : (r : Checked Compiled) → IfCreation r → (c : Compiled) → if_select r ≡ Ok c → ⊥
    listed_none (Ok c) is other h = absurd (let no = rw is.command_is at h in cc)
    listed_none (Err e) is other h = absurd (cc)

    -- what is run of it creates a table
    pub creation : (schema : Schema) (c : Compiled) → understood schema text ≡ Ok c → IsCreation c
    unfolding understood
    creation schema c is = by (reads_listing schema text) is
      where
        by : (b : Bool) → (if b then if_select (compiled listing_schema text)
            else compiled schema text) ≡ Ok c → IsCreation c
        by true h = absurd (listed_none (compiled listing_schema text)
            (compiled_create listing_schema) c h)
        by false h = subst IfCreation h (compiled_create schema)
