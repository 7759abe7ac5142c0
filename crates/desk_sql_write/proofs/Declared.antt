-- Declaring tables one after another.
use Rattle.std.proofs.Common.{◌≡◌, ◌∙◌, inl, inr, ℕ, suc, ◌+◌, ◌*◌, ◌^◌, ◌<◌, ◌≤◌, true}
use Rattle.std.proofs.Common.{false, not, length, codes, Option, IsTrue, IfErr, refl, arith, List}
use Rattle.std.proofs.Common.{[], ◌∷◌, ◌++◌, map, None, Some, drop, slice_get, Ok, Err, Result, sym}
use Rattle.std.proofs.Common.{ap, subst, add-one, drop-cons}
use Rattle.std.specs.Prelude.{nat_lt, IsUtf8}
use Rattle.std.proofs.lemmas.Str.{IsUtf8-from_ascii}
use Rattle.std.specs.List.{AllByRecursion}
use Rattle.std.proofs.lemmas.Bool.Decides.{nat_tests}
use Rattle.sqlite_value.specs.declared.value.Value.TheVariants.{Text}
use Rattle.sqlite_schema.specs.declared.schema.Index.{Index}
use Rattle.sqlite_schema.specs.Rules.{table_reals, index_reals}
use Rattle.sqlite_resolve.specs.Compile.{table_defined_by}
use Rattle.std.specs.Result.{IsErrAnd}
use Rattle.sqlite_rules.specs.Lists.{Has}
use Rattle.sqlite_rules.proofs.ListLemmas.{test_has}
use Rattle.sqlite_catalog.specs.declared.error.Refusal.{Refusal}
use Rattle.sqlite_catalog.specs.declared.error.Refusal.TheVariants.{Invalid, NameTaken, BadName}
use Rattle.sqlite_catalog.specs.declared.error.Refusal.TheVariants.{TooBig, BadKey, BadText}
use Rattle.sqlite_catalog.specs.declared.error.Refusal.TheVariants.{Violates}
use Rattle.sqlite_catalog.specs.Calls.{RefusesTable}
use Rattle.sqlite_catalog.specs.Listing.{is_fit, is_formed}
use Rattle.sqlite_schema.specs.declared.schema.Table.{Table}
use Rattle.sqlite_schema.specs.declared.schema.Schema.{Schema}
use Rattle.sqlite_schema.specs.declared.command.Command.TheVariants.{CreateTable}
use Rattle.sqlite_catalog.specs.Change.{created, next_tree, is_used, is_reserved, automatics, KeepsRows}
use Rattle.sqlite_trees.specs.Tree.{Trees}
use Rattle.sqlite.specs.Effect.{Database, IsDatabase}
use Rattle.sqlite.specs.declared.error.Error.{Error}
use Rattle.sqlite.specs.declared.run.Mode.{Mode}
use Rattle.sqlite.specs.Listing.{understood}
use Rattle.sqlite.specs.Does.{Tally, Does, MakesTable, MakesSequence, lacks_sequence}
use Rattle.sqlite.specs.State.{State, Writes, Executes, ExecutesInside, Survives, HasCleanDisk, mode_of}
use Rattle.sqlite.proofs.Callers.{runs_as, statement_of}
use Rattle.sqlite.proofs.InsideLemmas.{keeps_then}
use Rattle.desk_model.specs.declared.command.Fault.{Fault}
use Rattle.std.proofs.lemmas.Option.{slice_get_within, get_or_from_slice_get}
use Rattle.desk_sql_write.specs.Declaring.{Declares, IsTaken, AreDeclared, DeclareFails}
use Rattle.desk_sql_write.specs.Declaring.{schema_after, IsBare, Left, Went}
use Rattle.desk_sql_write.specs.Taking.{IsCaused, RanInto}
use Rattle.desk_sql_write.proofs.Causes.{first_caused}
use Rattle.desk_sql_write.proofs.Failing.{caused}
use Rattle.desk_sql_write.proofs.Storable.{no_reals}
use Rattle.desk_sql_layout.specs.Faults.{fault_by}
use Rattle.desk_sql_write.specs.Written.{Ran}
use Rattle.desk_sql_layout.proofs.Steps.{same_value, went}
use Rattle.desk_sql_layout.proofs.Clean.{clean_before}
use Rattle.desk_base.proofs.Texts.{are_ascii}

pub creates : (text : List ℕ) (table : Table) (schema : Schema) (old new : State) (count : ℕ)
    → Declares text table schema → old.now.schema ≡ schema → Executes text [] old new (Ok count)
    → (new.now.schema ≡ created schema table) × (new.now.trees (next_tree schema) ≡ [])
    × KeepsRows schema.tables old.now.trees new.now.trees × IsDatabase new.now
creates text table schema old new count d has ran =
    let first_run = runs_as text [] old new schema has CreateTable d.is_create d.plain count ran in
    let w = subst (λ t. Writes old new None CreateTable t [] count) d.whole first_run in
    let all = went w.changed in
    let first = went all.1 in
    let made = first.1 in
    let both : Ok made.table ≡ Ok table = sym made.defined ∙ d.defines in
    let same : made.table ≡ table = cc in
    let after : first.0.schema ≡ created schema table = made.is ∙ ap (λ s. created s made.table) has
    ∙ ap (created schema) same in
    let bare : lacks_sequence first.0.schema ≡ false = ap lacks_sequence after ∙ d.counts in
    let now : new.now ≡ first.0 = ap (λ (p : Tally × Database). p.1) (same_value all.2)
    ∙ same_value (rw bare at first.2) in (
      ap (λ (d : Database). d.schema) now ∙ after,
      ap (λ (d : Database). d.trees (next_tree schema)) now
          ∙ subst (λ s. first.0.trees (next_tree s) ≡ []) has made.empty,
      subst (λ (d : Database). KeepsRows schema.tables old.now.trees d.trees) (sym now)
          (subst (λ (s : Schema). KeepsRows s.tables old.now.trees first.0.trees) has made.others),
      w.sound,
    )

still_empty : (tables : List Table) (old new : Trees) (last : Table) → KeepsRows tables old new
    → AllByRecursion (λ t. old t.tree ≡ []) tables → new last.tree ≡ []
    → AllByRecursion (λ t. new t.tree ≡ []) (tables ++ last ∷ [])
still_empty [] old new last kept empty none = (none, tt)
still_empty (t ∷ ts) old new last kept empty none = (
  kept.0 ∙ empty.0,
  still_empty ts old new last kept.1 empty.1 none,
)

bare_after : (text : List ℕ) (table : Table) (schema : Schema) (old new : State) (count : ℕ)
    → Declares text table schema → IsBare schema old.now → Executes text [] old new (Ok count)
    → IsBare (created schema table) new.now
bare_after text table schema old new count d bare ran =
    let all = creates text table schema old new count d bare.declared ran in
    record {
      declared = all.0;
      empty = still_empty schema.tables old.now.trees new.now.trees
          (record table { tree = next_tree schema }) all.2 bare.empty all.1;
      sound = all.3;
    }

-- one more table is declared
pub left_after : (text : List ℕ) (rest : List (List ℕ)) (final : Schema) (old new : State)
    (count : ℕ) → Executes text [] old new (Ok count) → Left (text ∷ rest) final old.now
    → Left rest final new.now
left_after text rest final old new count ran l = go l.tables l.are_texts l.declared l.final_is
  where
    go : (ds : List (List ℕ × Table)) → map (λ (d : List ℕ × Table). d.0) ds ≡ text ∷ rest
        → AreDeclared ds l.schema → schema_after l.schema ds ≡ final → Left rest final new.now
    go [] are declared is = absurd (cc)
    go (d ∷ ds) are declared is =
        let same : d.0 ≡ text = cc in
        let others : map (λ (d : List ℕ × Table). d.0) ds ≡ rest = cc in
        record {
          tables = ds;
          schema = created l.schema d.1;
          are_texts = others;
          declared = declared.1.1;
          bare = bare_after d.0 d.1 l.schema old new count declared.0 l.bare
              (subst (λ t. Executes t [] old new (Ok count)) (sym same) ran);
          final_is = is;
        }

-- all are declared
pub all_declared : (final : Schema) (db : Database) → Left [] final db → IsBare final db
all_declared final db l = go l.tables l.are_texts l.final_is
  where
    go : (ds : List (List ℕ × Table)) → map (λ (d : List ℕ × Table). d.0) ds ≡ []
        → schema_after l.schema ds ≡ final → IsBare final db
    go [] are is = subst (λ s. IsBare s db) is l.bare
    go (d ∷ ds) are is = absurd (cc)

drop_at : (xs : List (List ℕ)) (k : ℕ) (x : List ℕ) → slice_get xs k ≡ Some x
    → drop k xs ≡ x ∷ drop (k + 1) xs
drop_at xs k x is =
    rw (add-one k) (drop-cons xs k x (slice_get_within xs k x is)
    ∙ ap (λ (y : List ℕ). y ∷ drop (suc k) xs) (get_or_from_slice_get xs k x x is))

-- one more of the texts was run
pub went_on : (texts : List (List ℕ)) (k : ℕ) (text : List ℕ) (a b c : State)
    (fault : Result (Unit {0}) Fault) → slice_get texts k ≡ Some text → (done : Unit {0})
    → fault ≡ Ok done
    → Went texts (drop k texts) a b → Ran text [] b c fault → HasCleanDisk c
    → Went texts (drop (k + 1) texts) a c
went_on texts k text a b c (Ok d) at done is before ran clean =
    let it = ran clean before.inside in
    record {
      inside = it.1.1.mode;
      is_open = λ was. it.1.1.is_open;
      kept = keeps_then a b c before.kept
          (record { was_open = λ is. it.1.1.was_open; committed = λ is. it.1.1.committed_is });
      left = λ final l. left_after text (drop (k + 1) texts) final b c it.0 it.1.0
          (subst (λ (ts : List (List ℕ)). Left ts final b.now) (drop_at texts k text at)
          (before.left final l));
    }
went_on texts k text a b c (Err fault) at done is before ran clean = absurd (cc)

-- ---- a text that can be accepted is never refused

module _ (text : List ℕ) (table : Table) (schema : Schema) (d : Declares text table schema)
    (t : IsTaken text table schema) where
  one : (other : Table) → table_defined_by text ≡ Ok other → other ≡ table
  one other is = let both : Ok other ≡ Ok table = sym is ∙ d.defines in cc

  low : (m n : ℕ) → nat_lt m n ≡ true → n ≤ m → ⊥
  low m n below high = let less : m < n = grind (arith, nat_tests) in omega (arith, less, high)

  never : (why : Refusal) → RefusesTable schema text why → ⊥
  never (Invalid e) refused = absurd (let no = sym d.defines ∙ refused in cc)
  never NameTaken (other, is, inl used) = absurd (let no = sym t.unused
      ∙ subst (λ (o : Table). is_used schema o.name ≡ true) (one other is) used in cc)
  never NameTaken (other, is, inr (index, has, used)) =
      let there = subst (λ (o : Table). Has (automatics o 0 0 o.uniques) index) (one other is)
      has in
      let free : not (is_used schema index.name) ≡ true =
      test_has (λ (i : Index). not (is_used schema i.name)) (automatics table 0 0 table.uniques)
      index t.alone there in
      absurd (let no = rw used at free in cc)
  never BadName (other, is, inl wrong) = wrong
      (subst (λ (o : Table). IsUtf8 o.name) (sym (one other is))
      (IsUtf8-from_ascii table.name (are_ascii table.name t.named)))
  never BadName (other, is, inr reserved) = absurd (let no = sym t.own
      ∙ subst (λ (o : Table). is_reserved o.name ≡ true) (one other is) reserved.0 in cc)
  never TooBig (other, is, inl many) = low (next_tree schema + length table.uniques) 65536 t.few
      (subst (λ (o : Table). 65536 ≤ next_tree schema + length o.uniques) (one other is) many)
  never TooBig (
    other,
    is,
    inr (inl reals),
  ) = absurd (omega (
    arith,
    t.plain,
    subst (λ (o : Table). 2 ^ 64 ≤ table_reals o) (one other is) reals,
  ))
  never TooBig (other, is, inr (inr (key, has, reals))) =
      let some : 2 ^ 64 ≤ index_reals (table_reals table) key =
      subst (λ (o : Table). 2 ^ 64 ≤ index_reals (table_reals o) key) (one other is) reals in
      absurd (omega (arith, subst (λ n. 2 ^ 64 ≤ index_reals n key) t.plain some, no_reals key))
  never BadKey (other, is, wrong) = absurd (let no = sym t.formed
      ∙ subst (λ (o : Table). is_formed o ≡ false) (one other is) wrong in cc)
  never BadText (other, is, wrong) = absurd (let no = sym t.listed
      ∙ subst (λ (o : Table). is_fit (Text (codes "table")) (Text o.name) (Text o.name) (Text text)
      ≡ false) (one other is) wrong in cc)
  never (Violates rule) refused = refused

  no_table : (db : Database) → db.schema ≡ schema → (stop : Option Error)
      → MakesTable text db (Err stop) → ⊥
  no_table db has None (other, is, long) = low (2 * length table.name + length text + 200) (10 ^ 9)
      t.small (subst (λ (o : Table). 10 ^ 9 ≤ 2 * length o.name + length text + 200) (one other is)
      long)
  no_table db has (Some e) (inl (wrong, told)) = wrong
      (IsUtf8-from_ascii text (are_ascii text t.written))
  no_table db has (Some e) (inr (why, refused, told)) = never why
      (subst (λ s. RefusesTable s text why) has refused)

  no_sequence : (db after : Database) → db.schema ≡ schema → MakesTable text db (Ok after)
      → (stop : Option Error) → MakesSequence after (Err stop) → ⊥
  no_sequence db after has made stop refused =
      let now : after.schema ≡ created schema table = made.is ∙ ap (λ s. created s made.table) has
      ∙ ap (created schema) (one made.table made.defined) in
      let bare : lacks_sequence after.schema ≡ false = ap lacks_sequence now ∙ d.counts in
      absurd (let no = rw bare at refused in cc)

  never_declared : (limit : Option ℕ) (mode : Mode) (db : Database) → db.schema ≡ schema
      → (stop : Option Error) → Does limit mode [] db (statement_of text (understood schema text))
      None CreateTable (Err stop) → ⊥
  never_declared limit mode db has stop did = go
      (subst (λ s. Does limit mode [] db s None CreateTable (Err stop)) d.whole did)
    where
      go : Does limit mode [] db text None CreateTable (Err stop) → ⊥
      go (inl (s, inl (s2, made, told), told2)) = no_table db has s2 made
      go (inl (s, inr (after, made, refused), told2)) = no_sequence db after has made s refused
      go (inr (after, made, gives)) = absurd (let no = gives in cc)

-- one of the texts fails only for a cause
next_fails : (text : List ℕ) (rest : List (List ℕ)) (final : Schema) (b c : State) (e : Error)
    → Left (text ∷ rest) final b.now → IsTrue b.is_open → ExecutesInside 0 text [] b c (Err e)
    → IsCaused b c (fault_by e)
next_fails text rest final b c e l opened ran = go l.tables l.are_texts l.declared
  where
    go : (ds : List (List ℕ × Table)) → map (λ (d : List ℕ × Table). d.0) ds ≡ text ∷ rest
        → AreDeclared ds l.schema → IsCaused b c (fault_by e)
    go [] are declared = absurd (cc)
    go (d ∷ ds) are declared =
        let same : d.0 ≡ text = cc in
        let here = declared.0 in
        let taken = declared.1.0 in
        caused l.schema d.0 [] b c l.bare.declared opened here.plain taken.fits CreateTable
        here.is_create refl (never_declared d.0 d.1 l.schema here taken b.step_limit (mode_of b)
        b.now l.bare.declared) e
        (subst (λ t. ExecutesInside 0 t [] b c (Err e)) (sym same) ran)

pub declare_fails : (texts : List (List ℕ)) (k : ℕ) (text : List ℕ) (a b c : State) (fault : Fault)
    → slice_get texts k ≡ Some text
    → (HasCleanDisk b → IsTrue a.in_transaction → Went texts (drop k texts) a b)
    → Survives a b (λ _. ⊥) → Survives b c (λ _. ⊥) → RanInto text [] b c fault
    → DeclareFails texts a c fault
declare_fails texts k text a b c fault at went s t into = record {
  cause = λ clean inside opened unlimited final left.
      let before = went (clean_before b c _ t clean) inside in
      let l = subst (λ (ts : List (List ℕ)). Left ts final b.now) (drop_at texts k text at)
      (before.left final left) in
      let it = into clean before.inside in
      first_caused a b c fault s (subst (IsCaused b c) (sym it.1)
      (next_fails text (drop (k + 1) texts) final b c it.0 l (before.is_open opened) it.2));
}

pub err_declares : (texts : List (List ℕ)) (a c : State) (r : Result (Unit {0}) Fault)
    (fault : Fault) → IsErrAnd r (λ e. e ≡ fault) → DeclareFails texts a c fault
    → IfErr r (DeclareFails texts a c)
err_declares texts a c (Ok done) fault is fails = absurd is
err_declares texts a c (Err e) fault is fails = rw is fails
