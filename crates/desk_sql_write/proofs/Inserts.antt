-- What each INSERT adds to its table, and why it fails.
use Rattle.std.proofs.Common.{◌≡◌, ◌≢◌, ℕ, ℤ, zero, suc, pos, negsuc, ◌+◌, ◌<◌, ◌≤◌, true, List}
use Rattle.std.proofs.Common.{[], ◌∷◌, drop, map}
use Rattle.std.proofs.Common.{flat_map, length, codes, Option, Some, None, IfErr, Result, refl, sym}
use Rattle.std.proofs.Common.{subst, arith}
use Rattle.std.specs.Prelude.{◌/◌, ◌&&◌, nat_le, nat_lt, slice_get}
use Rattle.std.proofs.lemmas.Bool.Decides.{nat_tests}
use Rattle.std.specs.List.{AllByRecursion}
use Rattle.std.proofs.lemmas.List.{length-map}
use Rattle.sqlite_value.specs.declared.value.Value.TheVariants.{Null, Int, Real, Text, Blob}
use Rattle.sqlite_value.specs.Order.{Row, column}
use Rattle.sqlite_trees.specs.Tree.{Trees}
use Rattle.sqlite_trees.specs.View.{is_int}
use Rattle.sqlite_sql.specs.Term.{Term, lit, col}
use Rattle.sqlite_schema.specs.declared.schema.Table.{Table}
use Rattle.sqlite_schema.specs.declared.schema.Constraint.TheVariants.{Datatype, NotNull}
use Rattle.sqlite_schema.specs.declared.command.Command.TheVariants.{Insert}
use Rattle.sqlite_schema.specs.declared.command.Source.TheVariants.{Values}
use Rattle.sqlite_schema.specs.Rules.{passes, table_reals}
use Rattle.sqlite_typing.specs.Types.{accepts_terms}
use Rattle.sqlite_rules.specs.declared.error.Rowids.TheVariants.{Chosen}
use Rattle.sqlite_rules.specs.Cast.{cast_all, cast_row}
use Rattle.sqlite_rules.specs.Edit.{id_in, next_rowid, with_rowid}
use Rattle.sqlite_rules.proofs.TableLemmas.{int_is}
use Rattle.sqlite_tied.specs.Compute.{everything}
use Rattle.sqlite.specs.Effect.{value_rows}
use Rattle.sqlite.specs.State.{State, Survives}
use Rattle.desk_model.specs.declared.command.Fault.{Fault}
use Rattle.desk_model.specs.declared.row.AdoptionRow.{AdoptionRow}
use Rattle.desk_model.specs.declared.row.AttachedRow.{AttachedRow}
use Rattle.desk_model.specs.declared.row.CatalogueRow.{CatalogueRow}
use Rattle.desk_model.specs.declared.row.ChangeRow.{ChangeRow}
use Rattle.desk_model.specs.declared.row.ChoiceRow.{ChoiceRow}
use Rattle.desk_model.specs.declared.row.ConclusionRow.{ConclusionRow}
use Rattle.desk_model.specs.declared.row.DocumentRow.{DocumentRow}
use Rattle.desk_model.specs.declared.row.DutyRow.{DutyRow}
use Rattle.desk_model.specs.declared.row.ExtractedRow.{ExtractedRow}
use Rattle.desk_model.specs.declared.row.FrozenRow.{FrozenRow}
use Rattle.desk_model.specs.declared.row.PackageRow.{PackageRow}
use Rattle.desk_model.specs.declared.row.ReleaseRow.{ReleaseRow}
use Rattle.desk_model.specs.declared.row.RuleRow.{RuleRow}
use Rattle.desk_sql_layout.specs.Layout as d
use Rattle.desk_sql_layout.specs.Stored.{cells}
use Rattle.desk_sql_layout.specs.Cells.{number, catalogue_cells, rule_cells}
use Rattle.desk_sql_layout.specs.Cells.{document_cells, reading_cells, package_cells}
use Rattle.desk_sql_layout.specs.Cells.{extracted_cells, conclusion_cells, adoption_cells}
use Rattle.desk_sql_layout.specs.Cells.{release_cells, attached_cells, choice_cells, frozen_cells}
use Rattle.desk_sql_layout.specs.Cells.{duty_cells, change_cells, waiver_cells}
use Rattle.desk_sql_layout.proofs.Selecting.{as_declared}
use Rattle.desk_sql_layout.proofs.Writing.{IsWrite}
use Rattle.desk_sql_layout.proofs.Casts.{cast_null, cast_int, cast_text}
use Rattle.desk_sql_write.specs.Taking.{IsSmall, RanInto}
use Rattle.desk_sql_write.specs.Turning.{Adds, with_rows}
use Rattle.desk_sql_write.specs.Written.{Ran}
use Rattle.desk_sql_write.proofs.Inserting.{inserted_adds}
use Rattle.desk_sql_write.proofs.Lists.{eight}
use Rattle.desk_sql_write.proofs.Puts.{AreShown, IsFirst, IsNumber, Make, Suits, as_stored}
use Rattle.desk_sql_write.proofs.Storable.{IsLight, all_light, int_light, null_light}

-- a text adds rows to the table with this tree, at most this many
abbrev pub AreAdded : List ℕ → Row → ℕ → List Row → ℕ → Type 1
AreAdded text params tree rows many = (old new : State) (r : Result (Unit {0}) Fault)
    → Ran text params old new r → IfErr r (RanInto text params old new) → Survives old new (λ _. ⊥)
    → Adds (with_rows tree rows) many old new r

-- a text adds a row
abbrev pub IsAdded : List ℕ → ℕ → Row → Type 1
IsAdded text tree cells = AreAdded text cells tree (cells ∷ []) 1

abbrev columns_from : ℕ → ℕ → List Term
columns_from at zero = []
columns_from at (suc n) = col 0 at ∷ columns_from (at + 1) n

-- what a row is made of, from the first of this many parameters: NULL gives the rowid, or the first
-- parameter does, and NULL is in its place
abbrev terms_of : Option ℕ → ℕ → ℕ → List Term
terms_of None at n = lit Null ∷ columns_from at n
terms_of (Some key) at zero = []
terms_of (Some key) at (suc n) = col 0 at ∷ lit Null ∷ columns_from (at + 1) n

abbrev eight_terms : Option ℕ → ℕ → List Term
eight_terms key n = flat_map (λ at. terms_of key at n)
    (0 ∷ n ∷ (n + n) ∷ (n + n + n) ∷ (n + n + n + n) ∷ (n + n + n + n + n) ∷ (n + n + n + n + n + n)
    ∷ (n + n + n + n + n + n + n) ∷ [])

-- a text inserts one row, or eight, of this table at this place, which has so many columns
abbrev InsertsOne : List ℕ → Table → ℕ → ℕ → Type 0
InsertsOne text this place width =
    IsWrite text width this.tree
    (λ at_place at. Insert at_place (Values (terms_of this.key 0 width) (width + 1)))

abbrev InsertsEight : List ℕ → Table → ℕ → ℕ → ℕ → Type 0
InsertsEight text this place width count =
    IsWrite text count this.tree
    (λ at_place at. Insert at_place (Values (eight_terms this.key width) (width + 1)))

abbrev source_of : Option ℕ → Row → Row
source_of None cells = Null ∷ cells
source_of (Some key) [] = []
source_of (Some key) (number ∷ cells) = number ∷ Null ∷ cells

-- the first cell is a number, if it is the rowid
abbrev StartsWhole : Option ℕ → Row → Type 0
StartsWhole None cs = Unit {0}
StartsWhole (Some at) cs = is_int (column cs 0) ≡ true

number_of : (key : Option ℕ) (cs : Row) → AllByRecursion IsSmall cs → StartsWhole key cs
    → IsNumber key cs
number_of None cs small whole = tt
number_of (Some at) [] small whole = absurd (cc)
number_of (Some at) (Null ∷ cs) small whole = absurd (cc)
number_of (Some at) (Int (pos n) ∷ cs) small whole = (n, cs, refl, small.0)
number_of (Some at) (Int (negsuc n) ∷ cs) small whole = absurd small.0
number_of (Some at) (Real x ∷ cs) small whole = absurd (cc)
number_of (Some at) (Text t ∷ cs) small whole = absurd (cc)
number_of (Some at) (Blob b ∷ cs) small whole = absurd (cc)

light_stored : (key : Option ℕ) (id : ℤ) (cs : Row) → AllByRecursion IsSmall cs
    → AllByRecursion IsLight (as_stored key id cs)
light_stored None id cs small = (int_light id, all_light cs small)
light_stored (Some at) id [] small = tt
light_stored (Some at) id (c ∷ cs) small =
    let all = all_light (c ∷ cs) small in (all.0, (null_light, all.1))

length_stored : (key : Option ℕ) (id : ℤ) (cs : Row) → 0 < length cs
    → length (as_stored key id cs) ≡ length cs + 1
length_stored None id cs some = omega arith
length_stored (Some at) id [] some = absurd (omega (arith, some))
length_stored (Some at) id (c ∷ cs) some = omega arith

-- the columns leave these cells as they are
abbrev StayCast : Table → Row → Type 0
StayCast this row = cast_all this.columns (drop 1 row) ≡ drop 1 row

-- so a row is stored as its source says
made_of : (this : Table) (key : Option ℕ) (cs : Row) → StartsWhole key cs
    → StayCast this (as_stored key (pos 0) cs) → (stored : List Row)
    → with_rowid Chosen stored (cast_row (as_declared this) (source_of key cs))
    ≡ as_stored key (next_rowid stored) cs
made_of this None cs whole stay stored = rw (cast_null, stay) refl
made_of this (Some at) [] whole stay stored = absurd (cc)
made_of this (Some at) (c ∷ cs) whole stay stored =
    subst (λ v. with_rowid Chosen stored (cast_row (as_declared this) (v ∷ Null ∷ cs))
    ≡ v ∷ Null ∷ cs) (sym (int_is c whole))
    (rw (cast_int (id_in c), stay) refl)

-- the table takes these cells from the parameters, and in each of its columns
abbrev IsTaken : Table → ℕ → Row → Type 0
IsTaken this width cs = (accepts_terms (terms_of this.key 0 width) cs ≡ true)
    × ((trees : Trees) (id : ℤ)
    → (passes Datatype d.desk_schema trees (as_declared this) (as_stored this.key id cs) ≡ true)
    × (passes NotNull d.desk_schema trees (as_declared this) (as_stored this.key id cs) ≡ true))

-- a table takes rows with these cells, for so many columns, by INSERT
pub record Takes (this : Table) {X : Type 0} (cells_of : X → Row) (place width : ℕ) : Type 0 where
  listed : slice_get d.desk_schema.tables place ≡ Some (as_declared this)
  pub reals : table_reals (as_declared this) ≡ 0
  first : IsFirst this.name this.tree this.columns this.key this.primary this.uniques this.orders
      this.key
  narrow : (nat_lt 0 width && nat_le width 8) ≡ true
  counted : (x : X) → length (cells_of x) ≡ width
  whole : (x : X) → StartsWhole this.key (cells_of x)
  stay : (x : X) → StayCast this (as_stored this.key (pos 0) (cells_of x))
  taken : (x : X) → IsTaken this width (cells_of x)
  shown : (x : X) (id : ℤ) → cells (as_declared this) (as_stored this.key id (cells_of x))
      ≡ cells_of x

-- what a text gives for these rows
record Gives (this : Table) {X : Type 0} (cells_of : X → Row) (terms : List Term)
    (width count : ℕ) (rows : List X) : Type 0 where
  accepted : accepts_terms terms (flat_map cells_of rows) ≡ true
  given : value_rows (flat_map cells_of rows) (width + 1) (length terms / (width + 1)) terms
      ≡ map (λ x. source_of this.key (cells_of x)) rows
  counted : length (flat_map cells_of rows) ≡ count

module _ {this : Table} {X : Type 0} {cells_of : X → Row} {place width : ℕ}
    (takes : Takes this cells_of place width) where
  abbrev pub Suiting : Trees → Row → Type 0
  Suiting = Suits this.name this.tree this.columns this.key this.primary this.uniques this.orders

  suit : (trees : Trees) (x : X) → AllByRecursion IsSmall (cells_of x)
      → Suiting trees (cells_of x)
  suit trees x small =
      let cs = cells_of x in
      let bounds : (0 < length cs) × (length cs ≤ 8) =
      subst (λ n. (0 < n) × (n ≤ 8)) (sym (takes.counted x)) (within width takes.narrow) in
      record {
        number = number_of this.key cs small (takes.whole x);
        right = λ id.
            let size = length_stored this.key id cs bounds.0 in
            let typed = (takes.taken x).1 trees id in
            record {
              typed = typed.0;
              present = typed.1;
              light = light_stored this.key id cs small;
              some = omega (arith, size, bounds.0);
              few = omega (arith, size, bounds.1);
            };
      }
    where
      within : (n : ℕ) → (nat_lt 0 n && nat_le n 8) ≡ true → (0 < n) × (n ≤ 8)
      within n e = grind (arith, nat_tests)

  pub suit_each : (trees : Trees) (rows : List X)
      → AllByRecursion (AllByRecursion IsSmall) (map cells_of rows)
      → AllByRecursion (Suiting trees) (map cells_of rows)
  suit_each trees [] small = tt
  suit_each trees (x ∷ rows) small = (suit trees x small.0, suit_each trees rows small.1)

  make_each : (rows : List X)
      → Make this.name this.tree this.columns this.key this.primary this.uniques this.orders
      (map (λ x. source_of this.key (cells_of x)) rows) (map cells_of rows)
  make_each [] = tt
  make_each (x ∷ rows) =
      (made_of this this.key (cells_of x) (takes.whole x) (takes.stay x), make_each rows)

  shown_each : (rows : List X)
      → AreShown this.name this.tree this.columns this.key this.primary this.uniques this.orders
      (map cells_of rows)
  shown_each [] = tt
  shown_each (x ∷ rows) = (takes.shown x, shown_each rows)

  added : (text : List ℕ) (terms : List Term) (count : ℕ)
      → IsWrite text count this.tree (λ at_place at. Insert at_place (Values terms (width + 1)))
      → (rows : List X)
      → Gives this cells_of terms width count rows
      → AreAdded text (flat_map cells_of rows) this.tree (map cells_of rows) (length rows)
  added text terms count reads rows gives old new r ran into survives =
      let it = inserted_adds this.name this.tree this.columns this.key this.primary this.uniques
      this.orders place takes.listed text (flat_map cells_of rows) terms (width + 1)
      (subst (λ n. IsWrite text n this.tree
      (λ at_place at. Insert at_place (Values terms (width + 1)))) (sym gives.counted)
      reads) gives.accepted (map (λ x. source_of this.key (cells_of x)) rows) (map cells_of rows)
      gives.given takes.reals takes.first (make_each rows) (shown_each rows)
      (λ trees. suit_each trees rows) old new r ran into survives in
      subst (λ n. Adds (with_rows this.tree (map cells_of rows)) n old new r)
      (length-map rows cells_of) it

  one_added : (text : List ℕ) → InsertsOne text this place width → (row : X)
      → Gives this cells_of (terms_of this.key 0 width) width width (row ∷ [])
      → AreAdded text (flat_map cells_of (row ∷ [])) this.tree (map cells_of (row ∷ [])) 1
  one_added text reads row = added text (terms_of this.key 0 width) width reads (row ∷ [])

  -- eight rows by one text
  eight_added : (text : List ℕ) (count : ℕ) → InsertsEight text this place width count
      → ((a b c e f g h i : X)
      → Gives this cells_of (eight_terms this.key width) width count
      (a ∷ b ∷ c ∷ e ∷ f ∷ g ∷ h ∷ i ∷ []))
      → (rows : List X) → length rows ≡ 8
      → AreAdded text (flat_map cells_of rows) this.tree (map cells_of rows) (length rows)
  eight_added text count reads gives rows is =
      let terms = eight_terms this.key width in
      added text terms count reads rows
      (eight (Gives this cells_of terms width count) gives rows is)

-- ---- catalogue

abbrev pub add_revision_text : List ℕ
add_revision_text = codes "INSERT INTO catalogue VALUES (?1, ?2)"

add_revision_reads : InsertsOne add_revision_text d.catalogue_table 1 2
unfolding everything
add_revision_reads = record {
  from = λ at not_null. (refl, refl, refl, refl, tt);
  is = λ place at not_null. record { is = refl; plain = (refl, refl); suits = (refl, refl) };
}

revisions : Takes d.catalogue_table catalogue_cells 1 2
revisions = search cast_null

pub revision_added : (row : CatalogueRow) → IsAdded add_revision_text 1 (catalogue_cells row)
revision_added row = one_added revisions add_revision_text add_revision_reads row assumption

-- ---- rule

abbrev pub add_rule_text : List ℕ
add_rule_text = codes "INSERT INTO rule VALUES (?1, ?2, ?3, ?4, ?5)"

add_rule_reads : InsertsOne add_rule_text d.rule_table 2 5
unfolding everything
add_rule_reads = record {
  from = λ at not_null. (refl, refl, refl, refl, tt);
  is = λ place at not_null. record { is = refl; plain = (refl, refl); suits = (refl, refl) };
}

rules : Takes d.rule_table rule_cells 2 5
rules = search cast_int

pub rule_added : (row : RuleRow) → IsAdded add_rule_text 2 (rule_cells row)
rule_added row = one_added rules add_rule_text add_rule_reads row assumption

-- ---- document

abbrev pub add_document_text : List ℕ
add_document_text = codes "INSERT INTO document VALUES (?1, ?2, ?3)"

add_document_reads : InsertsOne add_document_text d.document_table 3 3
unfolding everything
add_document_reads = record {
  from = λ at not_null. (refl, refl, refl, refl, tt);
  is = λ place at not_null. record { is = refl; plain = (refl, refl); suits = (refl, refl) };
}

documents : Takes d.document_table document_cells 3 3
documents = search cast_null

pub document_added : (row : DocumentRow) → IsAdded add_document_text 4 (document_cells row)
document_added row = one_added documents add_document_text add_document_reads row assumption

-- ---- reading

abbrev pub add_reading_text : List ℕ
add_reading_text = codes "INSERT INTO reading VALUES (?1, ?2)"

add_reading_reads : InsertsOne add_reading_text d.reading_table 14 2
unfolding everything
add_reading_reads = record {
  from = λ at not_null. (refl, refl, refl, refl, tt);
  is = λ place at not_null. record { is = refl; plain = (refl, refl); suits = (refl, refl) };
}

readings : Takes d.reading_table reading_cells 14 2
readings = search (cast_null, cast_int)

pub reading_added : (row : DocumentRow) → IsAdded add_reading_text 27 (reading_cells row)
reading_added row = one_added readings add_reading_text add_reading_reads row assumption

-- ---- package

abbrev pub add_package_text : List ℕ
add_package_text = codes "INSERT INTO package VALUES (?1, ?2, ?3, ?4, ?5, ?6, ?7)"

add_package_reads : InsertsOne add_package_text d.package_table 4 7
unfolding everything
add_package_reads = record {
  from = λ at not_null. (refl, refl, refl, refl, tt);
  is = λ place at not_null. record { is = refl; plain = (refl, refl); suits = (refl, refl) };
}

package_taken : (row : PackageRow) → IsTaken d.package_table 7 (package_cells row)
package_taken row = go row.version row.concluded row.copyright
  where
    go : (a b c : Option (List ℕ)) → IsTaken d.package_table 7
        (package_cells (record row { version = a; concluded = b; copyright = c }))
    go None None None = assumption
    go None None (Some u) = assumption
    go None (Some t) None = assumption
    go None (Some t) (Some u) = assumption
    go (Some s) None None = assumption
    go (Some s) None (Some u) = assumption
    go (Some s) (Some t) None = assumption
    go (Some s) (Some t) (Some u) = assumption

packages : Takes d.package_table package_cells 4 7
packages = search (package_taken, cast_int, cast_text)

pub package_added : (row : PackageRow) → IsAdded add_package_text 6 (package_cells row)
package_added row =
    one_added packages add_package_text add_package_reads row (assumption (package_taken row).0)

-- ---- extracted

abbrev pub add_reference_text : List ℕ
add_reference_text = codes "INSERT INTO extracted VALUES (?1, ?2, ?3)"

add_reference_reads : InsertsOne add_reference_text d.extracted_table 5 3
unfolding everything
add_reference_reads = record {
  from = λ at not_null. (refl, refl, refl, refl, tt);
  is = λ place at not_null. record { is = refl; plain = (refl, refl); suits = (refl, refl) };
}

reference_taken : (row : ExtractedRow) → IsTaken d.extracted_table 3 (extracted_cells row)
reference_taken row = go row.body
  where
    go : (a : Option (List ℕ)) → IsTaken d.extracted_table 3
        (extracted_cells (record row { body = a }))
    go None = assumption
    go (Some s) = assumption

references : Takes d.extracted_table extracted_cells 5 3
references = search (reference_taken, cast_int, cast_text)

pub reference_added : (row : ExtractedRow) → IsAdded add_reference_text 8 (extracted_cells row)
reference_added row =
    one_added references add_reference_text add_reference_reads row
    (assumption (reference_taken row).0)

-- ---- conclusion

abbrev pub add_conclusion_text : List ℕ
add_conclusion_text = codes "INSERT INTO conclusion VALUES (?1, ?2, ?3)"

add_conclusion_reads : InsertsOne add_conclusion_text d.conclusion_table 6 3
unfolding everything
add_conclusion_reads = record {
  from = λ at not_null. (refl, refl, refl, refl, tt);
  is = λ place at not_null. record { is = refl; plain = (refl, refl); suits = (refl, refl) };
}

conclusions : Takes d.conclusion_table conclusion_cells 6 3
conclusions = search cast_int

pub conclusion_added : (row : ConclusionRow) → IsAdded add_conclusion_text 10 (conclusion_cells row)
conclusion_added row = one_added conclusions add_conclusion_text add_conclusion_reads row assumption

-- ---- adoption

abbrev pub add_adoption_text : List ℕ
add_adoption_text = codes "INSERT INTO adoption VALUES (?1, ?2, ?3)"

add_adoption_reads : InsertsOne add_adoption_text d.adoption_table 7 3
unfolding everything
add_adoption_reads = record {
  from = λ at not_null. (refl, refl, refl, refl, tt);
  is = λ place at not_null. record { is = refl; plain = (refl, refl); suits = (refl, refl) };
}

adoptions : Takes d.adoption_table adoption_cells 7 3
adoptions = search cast_int

pub adoption_added : (row : AdoptionRow) → IsAdded add_adoption_text 12 (adoption_cells row)
adoption_added row = one_added adoptions add_adoption_text add_adoption_reads row assumption

-- ---- releases

abbrev pub add_release_text : List ℕ
add_release_text = codes "INSERT INTO releases VALUES (?1, ?2, ?3, ?4, ?5)"

add_release_reads : InsertsOne add_release_text d.releases_table 8 5
unfolding everything
add_release_reads = record {
  from = λ at not_null. (refl, refl, refl, refl, tt);
  is = λ place at not_null. record { is = refl; plain = (refl, refl); suits = (refl, refl) };
}

pub releases : Takes d.releases_table release_cells 8 5
releases = search cast_int

pub release_added : (row : ReleaseRow) → IsAdded add_release_text 14 (release_cells row)
release_added row = one_added releases add_release_text add_release_reads row assumption

-- ---- attached

abbrev pub add_attached_text : List ℕ
add_attached_text = codes "INSERT INTO attached VALUES (?1, ?2)"

add_attached_reads : InsertsOne add_attached_text d.attached_table 9 2
unfolding everything
add_attached_reads = record {
  from = λ at not_null. (refl, refl, refl, refl, tt);
  is = λ place at not_null. record { is = refl; plain = (refl, refl); suits = (refl, refl) };
}

attached : Takes d.attached_table attached_cells 9 2
attached = search cast_int

pub attached_added : (row : AttachedRow) → IsAdded add_attached_text 17 (attached_cells row)
attached_added row = one_added attached add_attached_text add_attached_reads row assumption

-- ---- choice

abbrev pub add_choice_text : List ℕ
add_choice_text = codes "INSERT INTO choice VALUES (?1, ?2, ?3, ?4)"

add_choice_reads : InsertsOne add_choice_text d.choice_table 10 4
unfolding everything
add_choice_reads = record {
  from = λ at not_null. (refl, refl, refl, refl, tt);
  is = λ place at not_null. record { is = refl; plain = (refl, refl); suits = (refl, refl) };
}

choices : Takes d.choice_table choice_cells 10 4
choices = search cast_int

pub choice_added : (row : ChoiceRow) → IsAdded add_choice_text 19 (choice_cells row)
choice_added row = one_added choices add_choice_text add_choice_reads row assumption

-- ---- frozen

abbrev pub add_frozen_text : List ℕ
add_frozen_text = codes "INSERT INTO frozen VALUES (?1, ?2, ?3, ?4, ?5)"

add_frozen_reads : InsertsOne add_frozen_text d.frozen_table 11 5
unfolding everything
add_frozen_reads = record {
  from = λ at not_null. (refl, refl, refl, refl, tt);
  is = λ place at not_null. record { is = refl; plain = (refl, refl); suits = (refl, refl) };
}

frozen_terms : Takes d.frozen_table frozen_cells 11 5
frozen_terms = search cast_int

pub frozen_added : (row : FrozenRow) → IsAdded add_frozen_text 21 (frozen_cells row)
frozen_added row = one_added frozen_terms add_frozen_text add_frozen_reads row assumption

-- ---- eight frozen terms

abbrev pub add_eight_frozen_text : List ℕ
add_eight_frozen_text = codes
    "INSERT INTO frozen VALUES (?, ?, ?, ?, ?), (?, ?, ?, ?, ?), (?, ?, ?, ?, ?), (?, ?, ?, ?, ?), (?, ?, ?, ?, ?), (?, ?, ?, ?, ?), (?, ?, ?, ?, ?), (?, ?, ?, ?, ?)"

add_eight_frozen_reads : InsertsEight add_eight_frozen_text d.frozen_table 11 5 40
unfolding everything
add_eight_frozen_reads = record {
  from = λ at not_null. (refl, refl, refl, refl, tt);
  is = λ place at not_null. record { is = refl; plain = (refl, refl); suits = (refl, refl) };
}

pub frozen_terms_added : (rows : List FrozenRow) → length rows ≡ 8
    → AreAdded add_eight_frozen_text (flat_map frozen_cells rows) 21 (map frozen_cells rows)
    (length rows)
frozen_terms_added = eight_added frozen_terms add_eight_frozen_text 40 add_eight_frozen_reads
    (λ a b c e f g h i. assumption)

-- ---- duty

abbrev pub add_duty_text : List ℕ
add_duty_text = codes "INSERT INTO duty VALUES (?1, ?2, ?3, ?4, ?5, ?6, ?7, ?8)"

add_duty_reads : InsertsOne add_duty_text d.duty_table 12 8
unfolding everything
add_duty_reads = record {
  from = λ at not_null. (refl, refl, refl, refl, tt);
  is = λ place at not_null. record { is = refl; plain = (refl, refl); suits = (refl, refl) };
}

pub duties : Takes d.duty_table duty_cells 12 8
duties = search (cast_null, cast_int)

pub duty_added : (row : DutyRow) → IsAdded add_duty_text 23 (duty_cells row)
duty_added row = one_added duties add_duty_text add_duty_reads row assumption

-- ---- eight duties

abbrev pub add_eight_duties_text : List ℕ
add_eight_duties_text = codes
    "INSERT INTO duty VALUES (?, ?, ?, ?, ?, ?, ?, ?), (?, ?, ?, ?, ?, ?, ?, ?), (?, ?, ?, ?, ?, ?, ?, ?), (?, ?, ?, ?, ?, ?, ?, ?), (?, ?, ?, ?, ?, ?, ?, ?), (?, ?, ?, ?, ?, ?, ?, ?), (?, ?, ?, ?, ?, ?, ?, ?), (?, ?, ?, ?, ?, ?, ?, ?)"

add_eight_duties_reads : InsertsEight add_eight_duties_text d.duty_table 12 8 64
unfolding everything
add_eight_duties_reads = record {
  from = λ at not_null. (refl, refl, refl, refl, tt);
  is = λ place at not_null. record { is = refl; plain = (refl, refl); suits = (refl, refl) };
}

pub duties_added : (rows : List DutyRow) → length rows ≡ 8
    → AreAdded add_eight_duties_text (flat_map duty_cells rows) 23 (map duty_cells rows)
    (length rows)
duties_added = eight_added duties add_eight_duties_text 64 add_eight_duties_reads
    (λ a b c e f g h i. assumption)

-- ---- change

abbrev pub add_change_text : List ℕ
add_change_text = codes "INSERT INTO change VALUES (?1, ?2, ?3, ?4, ?5)"

add_change_reads : InsertsOne add_change_text d.change_table 13 5
unfolding everything
add_change_reads = record {
  from = λ at not_null. (refl, refl, refl, refl, tt);
  is = λ place at not_null. record { is = refl; plain = (refl, refl); suits = (refl, refl) };
}

changes : Takes d.change_table change_cells 13 5
changes = search cast_int

pub change_added : (row : ChangeRow) → IsAdded add_change_text 25 (change_cells row)
change_added row = one_added changes add_change_text add_change_reads row assumption

-- ---- eight changes

abbrev pub add_eight_changes_text : List ℕ
add_eight_changes_text = codes
    "INSERT INTO change VALUES (?, ?, ?, ?, ?), (?, ?, ?, ?, ?), (?, ?, ?, ?, ?), (?, ?, ?, ?, ?), (?, ?, ?, ?, ?), (?, ?, ?, ?, ?), (?, ?, ?, ?, ?), (?, ?, ?, ?, ?)"

add_eight_changes_reads : InsertsEight add_eight_changes_text d.change_table 13 5 40
unfolding everything
add_eight_changes_reads = record {
  from = λ at not_null. (refl, refl, refl, refl, tt);
  is = λ place at not_null. record { is = refl; plain = (refl, refl); suits = (refl, refl) };
}

pub changes_added : (rows : List ChangeRow) → length rows ≡ 8
    → AreAdded add_eight_changes_text (flat_map change_cells rows) 25 (map change_cells rows)
    (length rows)
changes_added = eight_added changes add_eight_changes_text 40 add_eight_changes_reads
    (λ a b c e f g h i. assumption)

-- ---- waiver

abbrev pub add_waiver_text : List ℕ
add_waiver_text = codes "INSERT INTO waiver VALUES (?1, ?2, ?3)"

add_waiver_reads : InsertsOne add_waiver_text d.waiver_table 15 3
unfolding everything
add_waiver_reads = record {
  from = λ at not_null. (refl, refl, refl, refl, tt);
  is = λ place at not_null. record { is = refl; plain = (refl, refl); suits = (refl, refl) };
}

-- a change that has a last day
abbrev Waiving : Type 0
Waiving = (row : ChangeRow) × (row.last_day ≢ None)

waiver_taken : (x : Waiving) → IsTaken d.waiver_table 3 (waiver_cells x.0)
waiver_taken x = go x.0.last_day x.1
  where
    go : (a : Option (List ℕ)) → a ≢ None → IsTaken d.waiver_table 3
        (waiver_cells (record (x.0) { last_day = a }))
    go None some = absurd (some refl)
    go (Some s) some = assumption

waivers : Takes d.waiver_table {X = Waiving} (λ x. waiver_cells x.0) 15 3
waivers = search (waiver_taken, cast_int, cast_text)

pub waiver_added : (row : ChangeRow) (some : row.last_day ≢ None)
    → IsAdded add_waiver_text 28 (waiver_cells row)
waiver_added row some =
    one_added waivers add_waiver_text add_waiver_reads (row, some)
    (assumption (waiver_taken (row, some)).0)
