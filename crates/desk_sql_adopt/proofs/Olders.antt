-- What a database is to a migration, and which version it gives if it holds a desk's tables in an
-- older one.
use Rattle.std.proofs.Common.{◌≡◌, ◌≢◌, ◌∙◌, ℕ, ℤ, pos, negsuc, Bool, true, false, List, [], ◌∷◌, map}
use Rattle.std.proofs.Common.{codes, slice_get, Option, Some, None, Ok, Err, Result, inr, refl, sym}
use Rattle.std.proofs.Common.{ap, arith, subst, subst₂, IsPermutation}
use Rattle.std.specs.Prelude.{◌==◌, option_and_then, option_map, unwrap_or}
use Rattle.std.specs.Bool.{Decides}
use Rattle.std.specs.List.{AllByRecursion}
use Rattle.std.proofs.lemmas.Bool.Decides.{nat_tests}
use Rattle.std.proofs.lemmas.Int.{ints}
use Rattle.std.proofs.lemmas.List.Sorted.{IsPermutation-map, IsPermutation-trans}
use Rattle.sqlite_value.specs.declared.value.Value.TheVariants.{Null}
use Rattle.sqlite_value.specs.Order.{Row, column}
use Rattle.sqlite_trees.proofs.ListLemmas.{filter_all, map-map}
use Rattle.sqlite_sql.specs.Term.{col}
use Rattle.sqlite_sql.specs.Query.{Output, output}
use Rattle.sqlite_schema.specs.declared.command.Command.TheVariants.{Select}
use Rattle.sqlite_schema.specs.declared.schema.Schema.{Schema}
use Rattle.sqlite_schema.specs.declared.schema.Table.{Table}
use Rattle.sqlite_resolve.specs.declared.compiled.Compiled.{Compiled}
use Rattle.sqlite_resolve.specs.declared.error.CompileError.{CompileError}
use Rattle.sqlite_resolve.specs.Compile.{compiled, first}
use Rattle.sqlite_rules.specs.Lists.{Has}
use Rattle.sqlite_rules.proofs.ListLemmas.{has_got, some_from}
use Rattle.sqlite.specs.Effect.{Reads}
use Rattle.sqlite.specs.Listing.{misses_table, reads_listing, understood}
use Rattle.sqlite.specs.State.{State, Shown}
use Rattle.sqlite.proofs.Callers.{IsPlain, command_of, one_permutation, reads_as}
use Rattle.desk_sql_layout.specs.Desk.{HasTable, found_as, tree_in, tree_named}
use Rattle.desk_sql_layout.specs.Layout.{desk_schema, meta_table}
use Rattle.desk_sql_layout.specs.Stored.{AreStored}
use Rattle.desk_sql_layout.proofs.Declared.{name_is}
use Rattle.desk_sql_layout.proofs.OneQuery as one
use Rattle.desk_sql_layout.proofs.OneQuery.{compiled_same, meant}
use Rattle.desk_sql_layout.proofs.Queries.{query_on, env, selected}
use Rattle.desk_sql_layout.proofs.Selecting.{IsMeant, understood_as}
use Rattle.desk_sql_adopt.specs.Older.{HasOlder, HasOlderRows, IsOlderContent, declares}
use Rattle.desk_sql_adopt.specs.Older.{version_number}
use Rattle.desk_sql_adopt.specs.Version.{TellsVersion, has_version, is_meta, version_text}
use Rattle.desk_sql_adopt.specs.declared.older.OlderVersion.{OlderVersion}
use Rattle.desk_sql_adopt.specs.declared.older.OlderVersion.TheVariants.{One, Two}
use Rattle.desk_sql_adopt.specs.declared.older.OlderContent.{OlderContent}
use Rattle.desk_sql_adopt.specs.declared.older.OlderContent.TheVariants.{Older, Untold, OtherVersion, Other}
use Rattle.desk_sql_adopt.proofs.DeskColumns.{meta_found, meta_there}
use Rattle.desk_sql_adopt.proofs.Texts.{version_from, version_meant}

-- the tree by which a table of a desk is found
pub tree_of : (schema : Schema) (t : Table) → Has desk_schema.tables t → (it : HasTable schema t)
    → tree_in schema t.tree ≡ it.tree
unfolding tree_in
tree_of schema t there it =
    ap (tree_named schema) (name_is t there)
    ∙ ap (λ at. unwrap_or (option_map (λ (t : Table). t.tree)
    (option_and_then (slice_get schema.tables) at)) 0) it.named
    ∙ ap (λ o. unwrap_or (option_map (λ (t : Table). t.tree) o) 0) it.listed

-- each older version has a table `meta`
meta_in : (version : OlderVersion) (schema : Schema) → HasOlder version schema
    → HasTable schema meta_table
unfolding HasOlder
meta_in One schema has = has.each.0
meta_in Two schema has = has.each.0

pub older_has_version : (version : OlderVersion) (schema : Schema) → HasOlder version schema
    → has_version schema ≡ true
older_has_version version schema has =
    let it = meta_in version schema has in
    some_from is_meta schema.tables (found_as meta_table it.tree it.not_null)
    (has_got schema.tables it.place (found_as meta_table it.tree it.not_null) it.listed)
    (meta_found it.tree it.not_null)

-- ---- which version is given

never_missing : (r : Result Compiled CompileError) (tree : ℕ)
    → IsMeant r version_text 0 tree [] (col 1 0 ∷ []) [] (codes "version" ∷ [])
    → misses_table r ≡ false
never_missing (Ok c) tree it = refl
never_missing (Err e) tree it = absurd it.suits

module _ (schema : Schema) (it : HasTable schema meta_table) where
  abbrev this : Table
  this = found_as meta_table it.tree it.not_null

  abbrev here : Result Compiled CompileError
  here = meant this (first version_text)

  there : one.Has schema it.place this
  there = record { named = it.named; listed = it.listed; found = it.own; low = it.stored }

  compiled_here : compiled schema version_text ≡ here
  compiled_here = compiled_same schema it.place this there version_text
      (version_from it.tree it.not_null)

  found : misses_table here ≡ false
  found = never_missing here it.tree (version_meant it.tree it.not_null)

  known : understood schema version_text ≡ here
  known = understood_as schema version_text here compiled_here found

  selects : command_of (understood schema version_text)
      ≡ Select (record { lets = []; body = query_on it.tree [] (col 1 0 ∷ []) [] })
      (codes "version" ∷ [])
  selects = ap command_of known ∙ (version_meant it.tree it.not_null).is

  plain : IsPlain (understood schema version_text)
  plain = subst IsPlain (sym known) (version_meant it.tree it.not_null).plain

  unlisted : reads_listing schema version_text ≡ false
  unlisted = ap misses_table compiled_here ∙ found

pub each : {X : Type 0} (xs : List X) → AllByRecursion (λ x. true ≡ true) xs
each [] = tt
each (x ∷ xs) = (refl, each xs)

shown_rows : (old new : State) (rows wanted : List Row) (it : HasTable old.now.schema meta_table)
    → AreStored meta_table wanted (old.now.trees it.tree) → Shown version_text [] old new rows
    → IsPermutation wanted rows
shown_rows old new rows wanted it stored shown =
    let schema = old.now.schema in
    let q = query_on it.tree [] (col 1 0 ∷ []) [] in
    let out = λ (r : Row). output q (env [] r) in
    let meta = old.now.trees it.tree in
    let reads : Reads (Select (record { lets = []; body = q })
    (codes "version" ∷ [])) old.now [] rows =
    subst (λ c. Reads c old.now [] rows) (selects schema it)
    (reads_as version_text [] old new schema refl (command_of (understood schema version_text)) refl
    (plain schema it) (unlisted schema it) rows shown) in
    let sel = selected it.tree [] (col 1 0 ∷ []) [] old.now.trees [] rows (reads.answer Null) in
    let outs : IsPermutation (map out meta) sel.ordered =
    subst (λ l. IsPermutation (map out l) sel.ordered)
    (filter_all (λ (r : Row). true) meta (each meta)) sel.same in
    let firsts : IsPermutation (map (λ (r : Row). column r 0 ∷ []) meta) rows =
    subst₂ (λ xs ys. IsPermutation xs ys) (map-map (λ (o : Output). o.1) out meta)
    (sym sel.shown) (IsPermutation-map (λ (o : Output). o.1) _ _ outs) in
    IsPermutation-trans wanted (map (λ (r : Row). column r 0 ∷ []) meta) rows stored.same firsts

-- the rows of the table `meta`
meta_rows : (version : OlderVersion) (all : ℕ → List Row) (old : State)
    (has : HasOlderRows version all old.now)
    → AreStored meta_table (all 0) (old.now.trees (meta_in version old.now.schema has.declared).tree)
meta_rows version all old has = subst (λ n. AreStored meta_table (all 0) (old.now.trees n))
    (tree_of old.now.schema meta_table meta_there (meta_in version old.now.schema has.declared))
    (by version has)
  where
    by : (v : OlderVersion) → HasOlderRows v all old.now
        → AreStored meta_table (all 0) (old.now.trees (tree_in old.now.schema 0))
    by One has = has.stored.0
    by Two has = has.stored.0

pub version_shown : (version : OlderVersion) (all : ℕ → List Row) (row : Row) (old new : State)
    (rows : List Row) → all 0 ≡ row ∷ [] → HasOlderRows version all old.now
    → Shown version_text [] old new rows → rows ≡ row ∷ []
version_shown version all row old new rows one has shown =
    one_permutation row rows (subst (λ l. IsPermutation l rows) one
    (shown_rows old new rows (all 0) (meta_in version old.now.schema has.declared)
    (meta_rows version all old has) shown))

-- ---- what it is taken for

pub decides_each : (schema : Schema) (first second : Bool) → Decides first (HasOlder One schema)
    → Decides second (HasOlder Two schema) → (version : OlderVersion)
    → Decides (declares first second version) (HasOlder version schema)
decides_each schema first second one two One = one
decides_each schema first second one two Two = two

module _ (s : State) (has : OlderVersion → Bool)
    (decides : (version : OlderVersion) → Decides (has version) (HasOlder version s.now.schema))
    (content : OlderContent) where
  -- the version that is given, if it is an older one
  numbered : (version : OlderVersion) → (has version ≡ true → content ≡ Older version)
      → (has version ≡ false → content ≡ Other)
      → TellsVersion (Some (pos (version_number version))) s → IsOlderContent s content
  numbered version older bare tells = go (has version) refl
    where
      go : (b : Bool) → has version ≡ b → IsOlderContent s content
      go true is = subst (IsOlderContent s) (sym (older is)) (tells, (decides version).0 is)
      go false is = subst (IsOlderContent s) (sym (bare is))
          (inr (version, tells, λ there. absurd (let no = sym is ∙ (decides version).1 there in cc)))

  module _ (versioned : has_version s.now.schema ≡ true) where
    other_number : (n : ℤ) → n ≢ pos 1 → n ≢ pos 2 → content ≡ OtherVersion n
        → TellsVersion (Some n) s → IsOlderContent s content
    other_number n not_one not_two is tells = subst (IsOlderContent s) (sym is)
        (tells, not_one, not_two, versioned)

    pub older_is : (told : Option ℤ) → (told ≡ None → content ≡ Untold)
        → ((version : OlderVersion) → told ≡ Some (pos (version_number version))
        → has version ≡ true → content ≡ Older version)
        → ((version : OlderVersion) → told ≡ Some (pos (version_number version))
        → has version ≡ false → content ≡ Other)
        → ((n : ℤ) → told ≡ Some n → n ≢ pos 1 → n ≢ pos 2 → content ≡ OtherVersion n)
        → TellsVersion told s → IsOlderContent s content
    older_is None untold older bare other tells = subst (IsOlderContent s) (sym (untold refl))
        (tells, versioned)
    older_is (Some (negsuc k)) untold older bare other tells =
        let no : (m : ℕ) → negsuc k ≢ pos m = λ m same. absurd (cc) in
        other_number (negsuc k) (no 1) (no 2) (other (negsuc k) refl (no 1) (no 2)) tells
    older_is (Some (pos k)) untold older bare other tells = go (k == 1) (k == 2) refl refl
      where
        at : (version : OlderVersion) → k ≡ version_number version → IsOlderContent s content
        at version same =
            let told = ap (λ m. Some (pos m)) same in
            numbered version (λ is. older version told is) (λ is. bare version told is)
            (subst (λ m. TellsVersion (Some (pos m)) s) same tells)

        differs : (m : ℕ) → (k == m) ≡ false → pos k ≢ pos m
        differs m not same = let no : k ≡ m = grind (arith, ints, same) in
            absurd (grind (arith, nat_tests))

        go : (one two : Bool) → (k == 1) ≡ one → (k == 2) ≡ two → IsOlderContent s content
        go true two is_one is_two = at One (grind (arith, nat_tests))
        go false true is_one is_two = at Two (grind (arith, nat_tests))
        go false false is_one is_two = other_number (pos k) (differs 1 is_one) (differs 2 is_two)
            (other (pos k) refl (differs 1 is_one) (differs 2 is_two)) tells
