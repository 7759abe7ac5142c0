-- What an adoption relies on is true of the tables of a recorded history.
use Rattle.std.proofs.Common.{◌≡◌, ◌<◌, ◌≤◌, ◌^◌, ℕ, zero, suc, ◌+◌, ℤ, pos, negsuc, Bool, true}
use Rattle.std.proofs.Common.{false, List, [], ◌∷◌, length, map, find, Option, Some, refl, sym}
use Rattle.std.proofs.Common.{subst, arith, ap, ◌∙◌}
use Rattle.std.specs.Prelude.{IfSome, is_some}
use Rattle.std.specs.List.{AllByRecursion, list_all, range_with_len}
use Rattle.std.specs.Option.{option_map}
use Rattle.std.specs.Result.{result_ok}
use Rattle.std.proofs.lemmas.Bool.{and_parts}
use Rattle.std.proofs.lemmas.List.{length-map}
use Rattle.std.proofs.lemmas.List.Sorted.{IsPermutation-sym}
use Rattle.sqlite_trees.proofs.ListLemmas.{all-permutation}
use Rattle.sqlite_value.specs.Order.{Row}
use Rattle.sqlite.specs.Effect.{Database}
use Rattle.desk_model.specs.Readings.{Readings}
use Rattle.desk_model.specs.Tables.{Tables, tables}
use Rattle.desk_model.specs.declared.row.CatalogueRow.{CatalogueRow}
use Rattle.desk_model.specs.declared.row.ReleaseRow.{ReleaseRow}
use Rattle.desk_snapshot.specs.Conditions.{numbers_to}
use Rattle.desk_snapshot.specs.Reports.{Meets}
use Rattle.desk_snapshot.specs.Tables.{snapshot_of, catalogue_stored, document_stored, duty_stored, release_stored}
use Rattle.desk_snapshot.specs.declared.fault.AuditFault.{AuditFault}
use Rattle.desk_snapshot.specs.declared.fault.AuditFault.TheVariants.{BadRevision, BadChoice}
use Rattle.desk_sql_layout.specs.Cells.{catalogue_cells, document_cells, release_cells, duty_cells}
use Rattle.desk_sql_layout.specs.Held.{AreNumbered, Holds}
use Rattle.desk_sql_layout.specs.Causes.{AreWritten, IsRow}
use Rattle.desk_beside.specs.Beside.{AreFew, CanKeep, HasNumbers, IsSmallDuty, IsSmallRelease, body_of}
use Rattle.desk_beside.proofs.Natural.{is_counted}
use Rattle.desk_model.specs.Keys.{is_revision}
use Rattle.desk_model.specs.declared.row.DutyRow.{DutyRow}
use Rattle.desk_snapshot.specs.declared.snapshot.Snapshot.{Snapshot}
use Rattle.desk_sql_scan.specs.Parts.{AreRowsOf}
use Rattle.desk_tally.specs.Kept.{are_countable}
use Rattle.desk_tally.proofs.Countable.{countable}
use Rattle.desk_store.specs.Causes.{AreRecorded}

-- ---- few enough rows

abbrev IsSmall : ℕ → Type 0
IsSmall n = n < 2 ^ 32

-- the numbers n, n + 1 and so on, each of 32 bits
numbered_few : (n : ℕ) (ns : List ℕ) → n ≤ 2 ^ 32 → AreNumbered n ns → AllByRecursion IsSmall ns
    → n + length ns ≤ 2 ^ 32
numbered_few n [] low are all = omega (arith, low)
numbered_few n (m ∷ ms) low are all =
    let next : n + 1 ≤ 2 ^ 32 = omega (arith, are.0, all.0) in
    let more = numbered_few (n + 1) ms next are.1 all.1 in omega (arith, more)

small_keys : {X : Type 0} (cells : X → Row) (key : X → ℕ)
    → ((x : X) → IsRow (cells x) → IsSmall (key x)) → (xs : List X)
    → AllByRecursion IsRow (map cells xs) → AllByRecursion IsSmall (map key xs)
small_keys cells key small [] all = tt
small_keys cells key small (x ∷ xs) all = (small x all.0, small_keys cells key small xs all.1)

few : {X : Type 0} (cells : X → Row) (key : X → ℕ) → ((x : X) → IsRow (cells x) → IsSmall (key x))
    → (xs : List X) → AreNumbered 1 (map key xs) → AllByRecursion IsRow (map cells xs)
    → length xs < 2 ^ 32
few cells key small xs are all = let it =
    numbered_few 1 (map key xs) (omega arith) are (small_keys cells key small xs all) in
    omega (arith, it, length-map xs key)

-- a place, a number of 32 bits
abbrev IsSmallPlace : ℤ → Type 0
IsSmallPlace (pos n) = n < 2 ^ 32
IsSmallPlace (negsuc n) = ⊥

range_few : (n k : ℕ) → n ≤ 2 ^ 32 → AllByRecursion IsSmallPlace (map pos (range_with_len n k))
    → n + k ≤ 2 ^ 32
range_few n zero low all = omega (arith, low)
range_few n (suc k) low all =
    let here : n < 2 ^ 32 = all.0 in
    let more = range_few (n + 1) k (omega (arith, here)) all.1 in omega (arith, more)

small_places : (rows : List ReleaseRow) → AllByRecursion IsRow (map release_cells rows)
    → AllByRecursion IsSmallPlace (map (λ row. row.place) (map release_stored rows))
small_places [] all = tt
small_places (x ∷ xs) all = (all.0.1.0, small_places xs all.1)

-- ---- the catalogue in force is read

found_reads : (w : Readings) (n : ℕ) (rows : List CatalogueRow)
    → list_all (λ row. is_some (result_ok (w.catalogue row.body))) (map catalogue_stored rows)
    ≡ true
    → IfSome (option_map (λ row. row.body) (find (is_revision n) rows))
    (λ text. is_some (result_ok (w.catalogue text)) ≡ true)
found_reads w n [] all = tt
found_reads w n (row ∷ rows) all =
    let both = and_parts (is_some (result_ok (w.catalogue row.body)))
    (list_all (λ row. is_some (result_ok (w.catalogue row.body))) (map catalogue_stored rows))
    all in
    go both.0 (found_reads w n rows both.1) (is_revision n row) refl
  where
    go : is_some (result_ok (w.catalogue row.body)) ≡ true
        → IfSome (option_map (λ row. row.body) (find (is_revision n) rows))
        (λ text. is_some (result_ok (w.catalogue text)) ≡ true) → (b : Bool) → is_revision n row ≡ b
        → IfSome (option_map (λ row. row.body) (find (is_revision n) (row ∷ rows)))
        (λ text. is_some (result_ok (w.catalogue text)) ≡ true)
    go reads more true is = rw is reads
    go reads more false is = rw is more

-- ---- the numbers of releases and duties

small_releases : (rows : List ReleaseRow) → AllByRecursion IsRow (map release_cells rows)
    → AllByRecursion IsSmallRelease rows
small_releases [] all = tt
small_releases (x ∷ xs) all = (all.0.1.0, small_releases xs all.1)

small_duties : (rows : List DutyRow) → AllByRecursion IsRow (map duty_cells rows)
    → AllByRecursion IsSmallDuty rows
small_duties [] all = tt
small_duties (x ∷ xs) all = ((all.0.0, all.0.1.1.0), small_duties xs all.1)

-- ---- no number is below 0

all_mapped : {X Y : Type 0} (f : X → Y) (p : Y → Bool) → ((x : X) → p (f x) ≡ true)
    → (xs : List X) → list_all p (map f xs) ≡ true
all_mapped f p each [] = refl
all_mapped f p each (x ∷ xs) = rw (each x) (all_mapped f p each xs)

pub has_numbers : (s : Snapshot) (t : Tables) → AreRowsOf s t → HasNumbers s
has_numbers s t it =
    subst HasNumbers (sym it.rows)
    (record {
      conclusions = all_mapped _ _ (λ x. is_counted x.document) t.conclusion;
      adoptions = all_mapped _ _ (λ x. is_counted x.document) t.adoption;
      revisions = all_mapped _ _ (λ x. is_counted x.revision) t.releases;
      attached = all_mapped _ _ (λ x. is_counted x.document) t.attached;
      frozen = all_mapped _ _ (λ x. is_counted x.document) t.frozen;
    })

-- a list of a snapshot is as long as that of the tables
as_long : {X Y : Type 0} (f : X → Y) (xs : List X) (ys : List Y) → ys ≡ map f xs
    → length xs < 2 ^ 32 → length ys < 2 ^ 32
as_long f xs ys is few = omega (arith, few, ap length is ∙ length-map xs f)

module _ (t : Tables) (recorded : AreRecorded t)
    (sound : (f : AuditFault) → Meets recorded.w (snapshot_of (tables recorded.w recorded.h))
    f) where
  met : (f : AuditFault) → Meets recorded.w (snapshot_of t) f
  met f = subst (λ u. Meets recorded.w (snapshot_of u) f) (sym recorded.is) (sound f)

  few_releases : AllByRecursion IsRow (map release_cells t.releases) → length t.releases < 2 ^ 32
  few_releases all =
      let places = met BadChoice in
      let count = length (map release_stored t.releases) in
      let numbers : AllByRecursion IsSmallPlace (numbers_to count) =
      all-permutation IsSmallPlace (map (λ row. row.place) (map release_stored t.releases))
      (numbers_to count) (IsPermutation-sym _ _ places.places) (small_places t.releases all) in
      let it = range_few 1 count (omega arith) numbers in
      omega (arith, it, length-map t.releases release_stored)

  pub are_few : (db : Database) → Holds t db → AreWritten t → (s : Snapshot) → AreRowsOf s t
      → AreFew s
  are_few db holds written s it = record {
    revisions = as_long catalogue_stored t.catalogue s.catalogue
        (ap (λ (s : Snapshot). s.catalogue) it.rows)
        (few catalogue_cells (λ row. row.revision) (λ row is. is.0) t.catalogue
        holds.orderly.revisions (written.cells 1));
    documents = as_long document_stored t.document s.document
        (ap (λ (s : Snapshot). s.document) it.rows)
        (few document_cells (λ row. row.number) (λ row is. is.0) t.document
        holds.orderly.documents (written.cells 4));
    releases = as_long release_stored t.releases s.releases
        (ap (λ (s : Snapshot). s.releases) it.rows) (few_releases (written.cells 14));
    duties = as_long duty_stored t.duty s.duty (ap (λ (s : Snapshot). s.duty) it.rows)
        (few duty_cells (λ row. row.number) (λ row is. is.0) t.duty holds.orderly.duties
        (written.cells 23));
  }

  can_count : are_countable t.releases t.duty ≡ true
  can_count = subst (λ (u : Tables). are_countable u.releases u.duty ≡ true) (sym recorded.is)
      (countable recorded.w recorded.h recorded.history)

  pub can_keep : AreWritten t → CanKeep recorded.w t
  can_keep written =
      let revisions = met BadRevision in
      record {
        releases = small_releases t.releases (written.cells 14);
        duties = small_duties t.duty (written.cells 23);
        countable = can_count;
        catalogue = found_reads recorded.w (length t.catalogue) t.catalogue revisions.read;
      }
