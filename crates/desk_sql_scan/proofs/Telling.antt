-- What a query for all rows of a table shows, of the database and of the tables that it holds.
use Rattle.std.proofs.Common.{◌≡◌, ℕ, List, [], map, refl, sym, subst, Ok, Err, Result, IfOk}
use Rattle.std.specs.List.{AllByRecursion}
use Rattle.std.proofs.lemmas.Result.{IfErr-weaker}
use Rattle.sqlite_value.specs.Order.{Row}
use Rattle.sqlite.specs.Effect.{Database, Reads}
use Rattle.sqlite.specs.Listing.{understood}
use Rattle.sqlite.specs.State.{State, HasCleanDisk, Shown}
use Rattle.sqlite.proofs.Callers.{command_of, reads_as, unchanged_then}
use Rattle.sqlite.proofs.StateLemmas.{survives_then}
use Rattle.desk_sql_layout.specs.Held.{Holds}
use Rattle.desk_sql_layout.specs.Desk.{HasDesk}
use Rattle.desk_model.specs.Tables.{Tables}
use Rattle.desk_model.specs.declared.command.Fault.{Fault}
use Rattle.desk_sql_layout.specs.Causes.{AreWritten, IsAsked}
use Rattle.desk_sql_layout.proofs.Causes.{plain_text}
use Rattle.desk_sql_layout.proofs.Clean.{clean_before}
use Rattle.desk_sql_adopt.specs.Reading.{Asks}
use Rattle.desk_sql_scan.specs.Asked.{HasAsked}
use Rattle.desk_sql_scan.specs.Causes.{AreCells, ScanFailsFor, ScanFailsIf}
use Rattle.desk_sql_scan.specs.Cells.{columns_of}
use Rattle.desk_sql_scan.specs.Scanning.{Lists, Scans}
use Rattle.desk_sql_scan.specs.declared.source.Source.{Ghosts}
use Rattle.desk_sql_scan.specs.Scans.{IsRead, IsShown}

module _ (text : List ℕ) (asks : Asks text) (asked : IsAsked text []) {A : Type 0} (width : ℕ)
    (cells_of : A → Row) (old new : State) where
  -- in whatever schema that has the desk's tables
  pub shown_reads : HasDesk old.now.schema → (rows : List Row) → Shown text [] old new rows
      → Reads (command_of (understood old.now.schema text)) old.now [] rows
  shown_reads desk = reads_as text [] old new old.now.schema refl
      (command_of (understood old.now.schema text)) refl
      ((plain_text asked).within old.now.schema desk)
      (asked.within old.now.schema desk).unlisted

  pub told : (r : Result (List A) Fault) → HasAsked old new r
      → (HasCleanDisk new → IfOk r (λ rows. IsShown text width cells_of rows old new))
      → (Raw : List A → Database → Type 0) (Is : List A → Tables → Type 0)
      → ((rows : List A) (db : Database) → HasDesk db.schema → (shown : List Row)
      → Reads (command_of (understood db.schema text)) db [] shown
      → map (columns_of width) shown ≡ map cells_of rows → Raw rows db)
      → ((rows : List A) (db : Database) → HasDesk db.schema → (shown : List Row)
      → Reads (command_of (understood db.schema text)) db [] shown
      → map (columns_of width) shown ≡ map cells_of rows
      → (t : Tables) → Holds t db → Is rows t)
      → IfOk r (λ rows. IsRead (Raw rows) (Is rows) old new)
  told (Err e) stayed it Raw Is raw found = tt
  told (Ok rows) stayed it Raw Is raw found = record {
    survives = stayed.0;
    same = stayed.1;
    raw = λ clean desk. let o = it clean in
        raw rows old.now desk o.0 (shown_reads desk o.0 o.1) o.2;
    found = λ clean t holds. let o = it clean in
        found rows old.now holds.rows.declared o.0 (shown_reads holds.rows.declared o.0 o.1) o.2
        t holds;
  }

-- the outcome when a query's rows are read
module _ (text : List ℕ) (asks : Asks text) (asked : IsAsked text []) {A : Type 0} (width : ℕ)
    (cells_of : A → Row) {S : Type 0} (g : Ghosts S) (old new : S) (r : Result (List A) Fault)
    (it : Lists g text width cells_of old new r) where
  abbrev before : State
  before = g.shows old

  abbrev Given : Type 0
  Given = (rows : List Row) → Shown text [] before (g.shows new) rows
      → AllByRecursion (AreCells cells_of) rows

  pub scan_told : (Raw : List A → Database → Type 0) (Is : List A → Tables → Type 0)
      → ((rows : List A) (db : Database) → HasDesk db.schema → (shown : List Row)
      → Reads (command_of (understood db.schema text)) db [] shown
      → map (columns_of width) shown ≡ map cells_of rows → Raw rows db)
      → ((rows : List A) (db : Database) → HasDesk db.schema → (shown : List Row)
      → Reads (command_of (understood db.schema text)) db [] shown
      → map (columns_of width) shown ≡ map cells_of rows
      → (t : Tables) → Holds t db → Is rows t)
      → ((db : Database) → HasDesk db.schema → (shown : List Row)
      → Reads (command_of (understood db.schema text)) db [] shown → (t : Tables) → Holds t db
      → AreWritten t → AllByRecursion (AreCells cells_of) shown) → Scans g old new r Raw Is
  scan_told Raw Is raw found all = record {
    ok = told text asks asked width cells_of before (g.shows new) r (it.asked asks) it.shown Raw Is
        raw found;
    asked = it.asked asks;
    ready = it.ready;
    same_reference = it.same_reference;
    cause = IfErr-weaker r (ScanFailsIf Given before (g.shows new))
        (ScanFailsFor before (g.shows new)) (λ fault has. record {
          cause = λ clean opened unlimited t holds written any.
              has.cause clean opened unlimited t holds written (λ rows shown.
              all before.now holds.rows.declared rows (shown_reads text asks asked width cells_of
              before (g.shows new) holds.rows.declared rows shown) t holds written);
        }) (it.cause asks asked);
  }

-- one reading after another
pub then_read : (R S : Database → Type 0) (P Q : Tables → Type 0) (a b c : State) → IsRead R P a b
    → IsRead S Q b c → IsRead (λ db. R db × S db) (λ t. P t × Q t) a c
then_read R S P Q a b c one two =
    let before : HasCleanDisk c → HasCleanDisk b = clean_before b c (λ _. ⊥) two.survives in
    let now : (clean : HasCleanDisk c) → b.now ≡ a.now =
    λ clean. (one.same (before clean)).0.now_is in
    record {
      survives = survives_then a b c (λ _. ⊥) (λ _. ⊥) (λ _. ⊥) (λ _ db none. none)
          (λ _ db none. none) one.survives two.survives;
      same = λ clean. unchanged_then a b c (one.same (before clean)) (two.same clean);
      raw = λ clean has. (
        one.raw (before clean) has,
        subst S (now clean) (two.raw clean (subst (λ (db : Database). HasDesk db.schema) (sym (now clean)) has)),
      );
      found = λ clean t holds. (
        one.found (before clean) t holds,
        two.found clean t (subst (Holds t) (sym (now clean)) holds),
      );
    }
