-- What a change writes is what it does to the tables, apart from the order of their rows, and it
-- fails as these writes do.
use Rattle.std.proofs.Common.{◌≡◌, ℕ, Bool, true, false, not, cond, if◌then◌else◌, find, List, []}
use Rattle.std.proofs.Common.{◌∷◌, ◌++◌, drop, filter, get_or, map, length, ◌+◌, ◌∙◌, Option, Some}
use Rattle.std.proofs.Common.{None, Ok, Err, Result, refl, sym, ap, subst, arith}
use Rattle.std.specs.Prelude.{◌==◌}
use Rattle.std.proofs.lemmas.Bool.Decides.{nat_tests}
use Rattle.std.specs.Option.{option_map}
use Rattle.std.specs.List.{AllByRecursion}
use Rattle.std.specs.List.Sorted.{IsPermutation}
use Rattle.std.proofs.lemmas.List.Sorted.{IsPermutation-refl, IsPermutation-sym, IsPermutation-cons}
use Rattle.std.proofs.lemmas.List.Sorted.{IsPermutation-middle, IsPermutation-trans}
use Rattle.std.proofs.lemmas.List.Sorted.{IsPermutation-map}
use Rattle.std.proofs.lemmas.List.{append-nil}
use Rattle.std.proofs.lemmas.List.Elements.{filter-append}
use Rattle.sqlite_value.specs.Order.{Row}
use Rattle.std.proofs.lemmas.List.{map-append}
use Rattle.sqlite_trees.proofs.ListLemmas.{all-permutation, IsPermutation-filter}
use Rattle.sqlite_trees.proofs.ListLemmas.{IsPermutation-same}
use Rattle.sqlite_schema.specs.declared.schema.Table.{Table}
use Rattle.sqlite.specs.Effect.{Database}
use Rattle.sqlite.specs.State.{State}
use Rattle.desk_model.specs.Lists.{put, put_all, updated}
use Rattle.desk_model.specs.Keys.{below_by, release_below, attached_order, choice_order}
use Rattle.desk_model.specs.Keys.{frozen_order, change_below, conclusion_order, adoption_order}
use Rattle.desk_model.specs.Keys.{is_release, is_conclusion, is_adoption}
use Rattle.desk_model.specs.Tables.{Tables, applied, is_other_choice, is_choice_elsewhere}
use Rattle.desk_model.specs.Tables.{with_release_state, withdrawn_release, moved_by}
use Rattle.desk_model.specs.declared.row.CatalogueRow.{CatalogueRow}
use Rattle.desk_model.specs.declared.row.RuleRow.{RuleRow}
use Rattle.desk_model.specs.declared.row.DocumentRow.{DocumentRow}
use Rattle.desk_model.specs.declared.row.PackageRow.{PackageRow}
use Rattle.desk_model.specs.declared.row.ExtractedRow.{ExtractedRow}
use Rattle.desk_model.specs.declared.row.ConclusionRow.{ConclusionRow}
use Rattle.desk_model.specs.declared.row.AdoptionRow.{AdoptionRow}
use Rattle.desk_model.specs.declared.row.ReleaseRow.{ReleaseRow}
use Rattle.desk_model.specs.declared.row.AttachedRow.{AttachedRow}
use Rattle.desk_model.specs.declared.row.ChoiceRow.{ChoiceRow}
use Rattle.desk_model.specs.declared.row.FrozenRow.{FrozenRow}
use Rattle.desk_model.specs.declared.row.DutyRow.{DutyRow}
use Rattle.desk_model.specs.declared.row.ChangeRow.{ChangeRow}
use Rattle.desk_model.specs.declared.state.ReleaseState.TheVariants.{Frozen}
use Rattle.desk_model.specs.declared.command.Change.{Change}
use Rattle.desk_model.specs.declared.command.Change.TheVariants.{Loaded, Imported, Opened, Attached}
use Rattle.desk_model.specs.declared.command.Change.TheVariants.{Chosen, Froze, Moved, Withdrew}
use Rattle.desk_model.specs.declared.command.Change.TheVariants.{Concluded, Adopted}
use Rattle.desk_model.specs.declared.command.Fault.{Fault}
use Rattle.desk_model.specs.Moves.{is_waiver}
use Rattle.desk_sql_layout.specs.Layout.{desk_schema, catalogue_table, rule_table, conclusion_table}
use Rattle.desk_sql_layout.specs.Layout.{adoption_table, releases_table, attached_table}
use Rattle.desk_sql_layout.specs.Layout.{choice_table, frozen_table}
use Rattle.desk_sql_layout.specs.Stored.{AreStored}
use Rattle.desk_sql_layout.specs.Cells.{catalogue_cells, rule_cells, document_cells, reading_cells}
use Rattle.desk_sql_layout.specs.Cells.{package_cells, extracted_cells, duty_cells, release_cells}
use Rattle.desk_sql_layout.specs.Cells.{attached_cells, choice_cells, frozen_cells, change_cells}
use Rattle.desk_sql_layout.specs.Cells.{conclusion_cells, adoption_cells, waiver_cells}
use Rattle.desk_sql_layout.specs.Held.{HasRows, labelled, rows_of}
use Rattle.desk_sql_layout.proofs.Writes.{stored_as}
use Rattle.desk_sql_write.specs.Replacing.{Taking, rows_before, rows_after}
use Rattle.desk_sql_write.specs.Taking.{IsSmall, StandsOnce, CanStand, FailsOnlyAs, FailsOnlyFor}
use Rattle.desk_sql_write.specs.Turning.{Adds, Turns, with_rows, with_steps, with_raised}
use Rattle.desk_sql_write.specs.Turning.{with_document, with_parts}
use Rattle.desk_sql_write.specs.Written.{Writes, WritesAs}
use Rattle.desk_sql_write.proofs.Going.{along}
use Rattle.desk_sql_write.proofs.Lists.{none_out}
use Rattle.desk_sql_write.proofs.Puts.{once_permuted}

-- each table has the same rows, in some order
abbrev pub AreSame : (ℕ → List Row) → (ℕ → List Row) → Type 0
AreSame rows other = AllByRecursion (λ t. IsPermutation (rows t.tree) (other t.tree))
    desk_schema.tables

permuted : (rows other : ℕ → List Row) (db : Database) → AreSame rows other → HasRows other db
    → HasRows rows db
permuted rows other db same has = record {
  declared = has.declared;
  stored = each desk_schema.tables same has.stored;
  sound = has.sound;
}
  where
    each : (tables : List Table) → AllByRecursion (λ t. IsPermutation (rows t.tree) (other t.tree))
        tables → AllByRecursion (λ t. AreStored t (other t.tree) (labelled db t.tree)) tables
        → AllByRecursion (λ t. AreStored t (rows t.tree) (labelled db t.tree)) tables
    each [] a b = tt
    each (t ∷ tables) a b = (
      stored_as t (other t.tree) (rows t.tree) (labelled db t.tree) a.0 b.0,
      each tables a.1 b.1,
    )

permuted_stand : (rows other : ℕ → List Row) → AreSame rows other → CanStand rows → CanStand other
permuted_stand rows other same can = record {
  small = small desk_schema.tables same can.small;
  keys = keys desk_schema.tables same can.keys;
}
  where
    small : (tables : List Table)
        → AllByRecursion (λ t. IsPermutation (rows t.tree) (other t.tree)) tables
        → AllByRecursion (λ t. AllByRecursion (AllByRecursion IsSmall) (rows t.tree)) tables
        → AllByRecursion (λ t. AllByRecursion (AllByRecursion IsSmall) (other t.tree)) tables
    small [] a b = tt
    small (t ∷ tables) a b = (
      all-permutation (AllByRecursion IsSmall) (rows t.tree) (other t.tree) a.0 b.0,
      small tables a.1 b.1,
    )

    once : (xs ys : List Row) (places : List (List ℕ)) → IsPermutation xs ys
        → AllByRecursion (StandsOnce xs) places → AllByRecursion (StandsOnce ys) places
    once xs ys [] same all = tt
    once xs ys (p ∷ places) same all = (
      once_permuted xs ys p same all.0,
      once xs ys places same all.1,
    )

    keys : (tables : List Table) → AllByRecursion (λ t. IsPermutation (rows t.tree) (other t.tree))
        tables → AllByRecursion (λ t. AllByRecursion (StandsOnce (rows t.tree))
        (t.primary ∷ t.uniques)) tables
        → AllByRecursion (λ t. AllByRecursion (StandsOnce (other t.tree)) (t.primary ∷ t.uniques))
        tables
    keys [] a b = tt
    keys (t ∷ tables) a b = (
      once (rows t.tree) (other t.tree) (t.primary ∷ t.uniques) a.0 b.0,
      keys tables a.1 b.1,
    )

-- a change is written by what does the same to the tables
abbrev IsWritten : (Tables → ℕ → List Row) → ℕ → Change → Type 1
IsWritten after many change = (old new : State) (r : Result (Unit {0}) Fault)
    → Turns rows_of after many old new r
    → Writes rows_of (applied change) old new r
    × FailsOnlyFor rows_of (applied change) many old new r

-- what does the same to the tables that something shows writes the change of them
pub written_from : {A : Type 0} (show : A → Tables) (after : A → ℕ → List Row) (many : ℕ)
    (change : Change)
    → ((a : A) → AreSame (rows_of (applied change (show a))) (after a))
    → (old new : State) (r : Result (Unit {0}) Fault)
    → Turns (λ a. rows_of (show a)) after many old new r
    → WritesAs (λ a. rows_of (show a)) (λ a. rows_of (applied change (show a))) old new r
    × FailsOnlyAs (λ a. rows_of (show a)) (λ a. rows_of (applied change (show a))) many old new r
written_from show after many change same old new (Ok done) turns = (
  λ clean inside.
      let it = turns.wrote clean inside in
      record {
        inside = it.inside;
        kept = it.kept;
        change = λ a has.
            permuted (rows_of (applied change (show a))) (after a) new.now (same a)
            (it.change a has);
      },
  turns.cause,
)
written_from show after many change same old new (Err fault) turns = (
  turns.wrote,
  record {
    cause = λ clean inside opened unlimited a has before last room.
        turns.cause.cause clean inside opened unlimited a has before
        (permuted_stand (rows_of (applied change (show a))) (after a) (same a) last) room;
  },
)

written : (after : Tables → ℕ → List Row) (many : ℕ) (change : Change)
    → ((t : Tables) → AreSame (rows_of (applied change t)) (after t)) → IsWritten after many change
written = written_from (λ t. t)

-- ---- the tables of a change

abbrev is_in : ℕ → List ℕ → Bool
is_in tree [] = false
is_in tree (t ∷ trees) = if tree == t then true else is_in tree trees

true_of : (P : ℕ → Type 0) (tree : ℕ) (trees : List ℕ) → AllByRecursion P trees
    → is_in tree trees ≡ true → P tree
true_of P tree [] all is = absurd (cc)
true_of P tree (t ∷ trees) all is = go (true_of P tree trees all.1) (tree == t) refl is
  where
    go : (is_in tree trees ≡ true → P tree) → (b : Bool) → (tree == t) ≡ b
        → cond b true (is_in tree trees) ≡ true → P tree
    go later true same is = let one : tree ≡ t = grind (arith, nat_tests) in
        subst P (sym one) all.0
    go later false same is = later is

-- the rows of the tables but for some
abbrev rows_but : List ℕ → List Table → (ℕ → List Row) → List (List Row)
rows_but trees tables rows = map (λ t. if is_in t.tree trees then [] else rows t.tree) tables

-- these tables have the same rows in some order, and the others have the same rows
same_but : (trees : List ℕ) (rows other : ℕ → List Row)
    → AllByRecursion (λ tree. IsPermutation (rows tree) (other tree)) trees
    → rows_but trees desk_schema.tables rows ≡ rows_but trees desk_schema.tables other
    → AreSame rows other
same_but trees rows other some rest = each desk_schema.tables rest
  where
    one : (t : Table) (b : Bool) → is_in t.tree trees ≡ b
        → cond b [] (rows t.tree) ≡ cond b [] (other t.tree)
        → IsPermutation (rows t.tree) (other t.tree)
    one t true is same = true_of (λ tree. IsPermutation (rows tree) (other tree)) t.tree trees
        some is
    one t false is same = IsPermutation-same _ _ same

    each : (tables : List Table) → rows_but trees tables rows ≡ rows_but trees tables other
        → AllByRecursion (λ t. IsPermutation (rows t.tree) (other t.tree)) tables
    each [] rest = tt
    each (t ∷ tables) rest = (
      one t (is_in t.tree trees) refl (ap (λ l. get_or l 0 []) rest),
      each tables (ap (drop 1) rest),
    )

written_but : {after : Tables → ℕ → List Row} {many : ℕ} (change : Change) (trees : List ℕ)
    → ((t : Tables)
    → AllByRecursion (λ tree. IsPermutation (rows_of (applied change t) tree) (after t tree)) trees)
    → ((t : Tables) → rows_but trees desk_schema.tables (rows_of (applied change t))
    ≡ rows_but trees desk_schema.tables (after t)) → IsWritten after many change
written_but {after} {many} change trees some rest = written after many change
    (λ t. same_but trees (rows_of (applied change t)) (after t) (some t) (rest t))

-- ---- a row in its place is a row after the others, in another order

added : {X : Type 0} (cells : X → Row) (xs ys : List X)
    → IsPermutation (map cells (xs ++ ys)) (map cells xs ++ map cells ys)
added cells xs ys = IsPermutation-same _ _ (map-append cells xs ys)

waivers_added : (all changes : List ChangeRow)
    → IsPermutation (map waiver_cells (filter is_waiver (all ++ changes)))
    (map waiver_cells (filter is_waiver all) ++ map waiver_cells (filter is_waiver changes))
waivers_added all changes = IsPermutation-same _ _
    (ap (map waiver_cells) (filter-append is_waiver all changes)
    ∙ map-append waiver_cells (filter is_waiver all) (filter is_waiver changes))

behind : {X : Type 0} (x : X) (xs : List X) → IsPermutation (x ∷ xs) (xs ++ x ∷ [])
behind x xs = IsPermutation-sym _ _
    (subst (λ l. IsPermutation (xs ++ x ∷ []) (x ∷ l)) (append-nil xs)
    (IsPermutation-middle xs x []))

put_in : {X : Type 0} (below : X → X → Bool) (x : X) (xs : List X)
    → IsPermutation (put below x xs) (x ∷ xs)
put_in below x [] = IsPermutation-refl _
put_in {X} below x (y ∷ ys) = go (put_in below x ys) (below x y)
  where
    go : IsPermutation (put below x ys) (x ∷ ys) → (b : Bool)
        → IsPermutation (cond b (x ∷ y ∷ ys) (y ∷ put below x ys)) (x ∷ y ∷ ys)
    go more true = IsPermutation-refl _
    go more false = IsPermutation-trans _ _ _ (IsPermutation-cons y _ _ more)
        (IsPermutation-middle (y ∷ []) x ys)

put_all_in : {X : Type 0} (below : X → X → Bool) (xs ys : List X)
    → IsPermutation (put_all below xs ys) (ys ++ xs)
put_all_in below [] ys = IsPermutation-same _ _ (sym (append-nil ys))
put_all_in below (x ∷ xs) ys =
    IsPermutation-trans _ _ _ (put_in below x (put_all below xs ys))
    (IsPermutation-trans _ _ _ (IsPermutation-cons x _ _ (put_all_in below xs ys))
    (IsPermutation-sym _ _ (IsPermutation-middle ys x xs)))

placed : {X : Type 0} (cells : X → Row) (below : X → X → Bool) (x : X) (xs : List X)
    → IsPermutation (map cells (put below x xs)) (map cells xs ++ cells x ∷ [])
placed cells below x xs = IsPermutation-trans _ _ _
    (IsPermutation-map cells _ _ (IsPermutation-trans _ _ _ (put_in below x xs) (behind x xs)))
    (added cells xs (x ∷ []))

all_placed : {X : Type 0} (cells : X → Row) (below : X → X → Bool) (xs ys : List X)
    → IsPermutation (map cells (put_all below xs ys)) (map cells ys ++ map cells xs)
all_placed cells below xs ys = IsPermutation-trans _ _ _
    (IsPermutation-map cells _ _ (put_all_in below xs ys)) (added cells ys xs)

waivers_placed : (changes all : List ChangeRow)
    → IsPermutation (map waiver_cells (filter is_waiver (put_all change_below changes all)))
    (map waiver_cells (filter is_waiver all) ++ map waiver_cells (filter is_waiver changes))
waivers_placed changes all =
    IsPermutation-trans _ _ _ (IsPermutation-map waiver_cells _ _
    (IsPermutation-filter is_waiver _ _ (put_all_in change_below changes all)))
    (waivers_added all changes)

-- ---- the changes

pub loaded : (row : CatalogueRow) (rules : List RuleRow) (forms : List (List ℕ))
    → IsWritten (λ t. with_rows rule_table.tree (map rule_cells rules)
    (with_rows catalogue_table.tree (catalogue_cells row ∷ []) (rows_of t))) (1 + length rules)
    (Loaded row rules forms)
loaded row rules forms = written_but (Loaded row rules forms) (1 ∷ 2 ∷ [])
    (λ t. (added catalogue_cells t.catalogue (row ∷ []), (added rule_cells t.rule rules, tt)))
    (λ t. refl)

pub imported : (row : DocumentRow) (packages : List PackageRow) (references : List ExtractedRow)
    → IsWritten (λ t. with_parts packages references (with_document row (rows_of t)))
    (2 + (length packages + length references)) (Imported row packages references)
imported row packages references = written_but (Imported row packages references)
    (4 ∷ 6 ∷ 8 ∷ 27 ∷ [])
    (λ t. (
      added document_cells t.document (row ∷ []),
      (
        added package_cells t.packages packages,
        (
          added extracted_cells t.extracted references,
          (added reading_cells t.document (row ∷ []), tt),
        ),
      ),
    )) (λ t. refl)

pub opened : (row : ReleaseRow)
    → IsWritten (λ t. with_rows releases_table.tree (release_cells row ∷ []) (rows_of t)) (1)
    (Opened row)
opened row = written_but (Opened row) (14 ∷ [])
    (λ t. (placed release_cells release_below row t.releases, tt)) (λ t. refl)

pub attached : (row : AttachedRow)
    → IsWritten (λ t. with_rows attached_table.tree (attached_cells row ∷ []) (rows_of t)) (1)
    (Attached row)
attached row = written_but (Attached row) (17 ∷ [])
    (λ t. (placed attached_cells (below_by attached_order) row t.attached, tt)) (λ t. refl)

pub chosen : (release : List ℕ) (document : ℕ) (package_id : List ℕ) (rows : List ChoiceRow)
    → IsWritten (λ t. with_rows choice_table.tree (map choice_cells rows)
    (rows_of (record t { choice = filter (is_other_choice release document package_id) t.choice })))
    (length rows) (Chosen release document package_id rows)
chosen release document package_id rows = written_but (Chosen release document package_id rows)
    (19 ∷ [])
    (λ t. (
      all_placed choice_cells (below_by choice_order) rows
          (filter (is_other_choice release document package_id) t.choice),
      tt,
    )) (λ t. refl)

pub froze : (release : List ℕ) (revision : ℕ) (frozen : List FrozenRow) (duties : List DutyRow)
    (changes : List ChangeRow) → IsWritten
    (λ t. with_raised duties changes
    (with_rows frozen_table.tree (map frozen_cells frozen)
    (rows_of (record t {
      releases = updated (is_release release)
          (with_release_state Frozen revision) t.releases;
    })))) (length frozen + (length duties + (length changes + length changes)))
    (Froze release revision frozen duties changes)
froze release revision frozen duties changes = written_but
    (Froze release revision frozen duties changes) (21 ∷ 23 ∷ 25 ∷ 28 ∷ [])
    (λ t. (
      all_placed frozen_cells (below_by frozen_order) frozen t.frozen,
      (
        added duty_cells t.duty duties,
        (added change_cells t.changes changes, (waivers_added t.changes changes, tt)),
      ),
    )) (λ t. refl)

pub moved : (changes : List ChangeRow)
    → IsWritten (λ t. with_steps changes (rows_of (record t { duty = moved_by changes t.duty })))
    (length changes + length changes) (Moved changes)
moved changes = written_but (Moved changes) (25 ∷ 28 ∷ [])
    (λ t. (
      all_placed change_cells change_below changes t.changes,
      (waivers_placed changes t.changes, tt),
    )) (λ t. refl)

pub withdrew : (release : List ℕ) (changes : List ChangeRow)
    → IsWritten (λ t. with_steps changes
    (rows_of (record t {
      releases = updated (is_release release) withdrawn_release t.releases;
      choice = filter (is_choice_elsewhere release) t.choice;
      duty = moved_by changes t.duty;
    }))) (length changes + length changes) (Withdrew release changes)
withdrew release changes = written_but (Withdrew release changes) (25 ∷ 28 ∷ [])
    (λ t. (
      all_placed change_cells change_below changes t.changes,
      (waivers_placed changes t.changes, tt),
    )) (λ t. refl)

pub concluded : (row : ConclusionRow)
    → IsWritten (λ t. with_rows conclusion_table.tree (conclusion_cells row ∷ [])
    (rows_of (record t {
      conclusion = filter
          (λ other. not (is_conclusion row.document row.package_id other)) t.conclusion;
    }))) (1) (Concluded row)
concluded row = written_but (Concluded row) (10 ∷ [])
    (λ t. (
      placed conclusion_cells (below_by conclusion_order) row
          (filter (λ other. not (is_conclusion row.document row.package_id other)) t.conclusion),
      tt,
    )) (λ t. refl)

-- an adoption after the others
adoption_placed : (row : AdoptionRow) (t : Tables)
    → AreSame (rows_of (record t { adoption = put (below_by adoption_order) row t.adoption }))
    (with_rows adoption_table.tree (adoption_cells row ∷ []) (rows_of t))
adoption_placed row t = same_but (12 ∷ [])
    (rows_of (record t { adoption = put (below_by adoption_order) row t.adoption }))
    (with_rows adoption_table.tree (adoption_cells row ∷ []) (rows_of t))
    (placed adoption_cells (below_by adoption_order) row t.adoption, tt) refl

pub adopted : (row : AdoptionRow)
    → IsWritten (λ t. with_rows adoption_table.tree (adoption_cells row ∷ [])
    (rows_of (record t {
      adoption = filter
          (λ other. not (is_adoption row.document row.reference other)) t.adoption;
    }))) (1) (Adopted row)
adopted row =
    let dropped = λ (t : Tables).
    record t {
      adoption = filter (λ other. not (is_adoption row.document row.reference other))
          t.adoption;
    } in
    written (λ t. with_rows adoption_table.tree (adoption_cells row ∷ []) (rows_of (dropped t))) (1)
    (Adopted row) (λ t. adoption_placed row (dropped t))

-- ---- an adoption of a reference that wasn't adopted

none_found : (o : Option AdoptionRow) → option_map (λ (row : AdoptionRow). row.licence) o ≡ None
    → o ≡ None
none_found None is = refl
none_found (Some row) is = absurd (cc)

-- it adds a row and drops none
module _ (row : AdoptionRow) (is_new : Bool) (new : is_new ≡ true) where
  same_rows : (a : Taking is_new (Adopted row)) → AreSame (rows_of (applied (Adopted row) a.tables))
      (with_rows adoption_table.tree (adoption_cells row ∷ []) (rows_of a.tables))
  same_rows a =
      let t = a.tables in
      let none = none_found (find (is_adoption row.document row.reference) t.adoption)
      (a.takes new) in
      subst (λ l. AreSame (rows_of (record t { adoption = put (below_by adoption_order) row l }))
      (with_rows adoption_table.tree (adoption_cells row ∷ []) (rows_of t)))
      (sym (none_out (is_adoption row.document row.reference) t.adoption none))
      (adoption_placed row t)

  pub adopted_first : (old now : State) (r : Result (Unit {0}) Fault)
      → Adds (with_rows adoption_table.tree (adoption_cells row ∷ [])) 1 old now r
      → WritesAs (rows_before is_new (Adopted row)) (rows_after is_new (Adopted row)) old now r
      × FailsOnlyAs (rows_before is_new (Adopted row)) (rows_after is_new (Adopted row)) 1 old now r
  adopted_first old now r adds =
      let before = rows_before is_new (Adopted row) in
      let more = with_rows adoption_table.tree (adoption_cells row ∷ []) in
      written_from (λ (a : Taking is_new (Adopted row)). a.tables) (λ a. more (before a)) 1
      (Adopted row) same_rows
      old now r (along before (λ rows. rows) more 1 old now r adds)
