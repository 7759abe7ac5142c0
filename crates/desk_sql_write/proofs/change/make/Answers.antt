use Rattle.std.proofs.Common.{[]}
use Rattle.desk_sql_layout.specs.Held.{rows_of}
use Rattle.desk_sql_write.proofs.Applied.{loaded, imported, opened, attached, chosen, froze, moved}
use Rattle.desk_sql_write.proofs.Applied.{withdrew, concluded, adopted}
use Rattle.desk_sql_write.proofs.Going.{adds_for}
use Rattle.desk_sql_write.proofs.change.make.Goals as goal

-- the forms are in no table, so any will do
pub returns-in-Loaded-clause-wrote : goal.returns-in-Loaded-clause-wrote
returns-in-Loaded-clause-wrote g c =
    rw c.in-Loaded.is (loaded c.in-Loaded.catalogue c.in-Loaded.rules [] _ _ _ (adds_for rows_of
    (rw c.as_slice.ensures at c.load.ensures.adds))).0

pub returns-in-Loaded-clause-cause : goal.returns-in-Loaded-clause-cause
returns-in-Loaded-clause-cause g c told =
    rw c.in-Loaded.is (loaded c.in-Loaded.catalogue c.in-Loaded.rules [] _ _ _ (adds_for rows_of
    (rw c.as_slice.ensures at c.load.ensures.adds))).1

pub returns-in-Imported-clause-wrote : goal.returns-in-Imported-clause-wrote
returns-in-Imported-clause-wrote g c =
    rw c.in-Imported.is (imported c.in-Imported.document c.in-Imported.packages
    c.in-Imported.references _ _ _ (adds_for rows_of (rw (
      c.as_slice-in-Imported.ensures,
      c.as_slice-in-Imported-2.ensures,
    ) at c.import.ensures.adds))).0

pub returns-in-Imported-clause-cause : goal.returns-in-Imported-clause-cause
returns-in-Imported-clause-cause g c told =
    rw c.in-Imported.is (imported c.in-Imported.document c.in-Imported.packages
    c.in-Imported.references _ _ _ (adds_for rows_of (rw (
      c.as_slice-in-Imported.ensures,
      c.as_slice-in-Imported-2.ensures,
    ) at c.import.ensures.adds))).1

pub returns-in-Opened-clause-wrote : goal.returns-in-Opened-clause-wrote
returns-in-Opened-clause-wrote g c =
    rw c.in-Opened.is (opened c.in-Opened.row _ _ _ (adds_for rows_of
    c.add_release.ensures.adds)).0

pub returns-in-Opened-clause-cause : goal.returns-in-Opened-clause-cause
returns-in-Opened-clause-cause g c told =
    rw c.in-Opened.is (opened c.in-Opened.row _ _ _ (adds_for rows_of
    c.add_release.ensures.adds)).1

pub returns-in-Attached-clause-wrote : goal.returns-in-Attached-clause-wrote
returns-in-Attached-clause-wrote g c =
    rw c.in-Attached.is (attached c.in-Attached.row _ _ _ (adds_for rows_of
    c.add_attached.ensures.adds)).0

pub returns-in-Attached-clause-cause : goal.returns-in-Attached-clause-cause
returns-in-Attached-clause-cause g c told =
    rw c.in-Attached.is (attached c.in-Attached.row _ _ _ (adds_for rows_of
    c.add_attached.ensures.adds)).1

pub returns-in-Chosen-clause-wrote : goal.returns-in-Chosen-clause-wrote
returns-in-Chosen-clause-wrote g c =
    rw c.in-Chosen.is (chosen c.in-Chosen.release c.in-Chosen.document c.in-Chosen.package_id
    c.in-Chosen.rows _ _ _ (rw c.as_slice-in-Chosen.ensures at c.choose.ensures.makes)).0

pub returns-in-Chosen-clause-cause : goal.returns-in-Chosen-clause-cause
returns-in-Chosen-clause-cause g c told =
    rw c.in-Chosen.is (chosen c.in-Chosen.release c.in-Chosen.document c.in-Chosen.package_id
    c.in-Chosen.rows _ _ _ (rw c.as_slice-in-Chosen.ensures at c.choose.ensures.makes)).1

pub returns-in_ok-small_revision-in-Froze-clause-wrote : goal.returns-in_ok-small_revision-in-Froze-clause-wrote
returns-in_ok-small_revision-in-Froze-clause-wrote g c =
    rw c.in-Froze.is (froze c.in-Froze.release c.in-Froze.revision c.in-Froze.frozen
    c.in-Froze.duties c.in-Froze.changes _ _ _ (rw (
      c.as_slice-in-Froze.ensures,
      c.as_slice-in-Froze-2.ensures,
      c.as_slice-in-Froze-3.ensures,
      c.in_ok-small_revision-in-Froze.ensures.value,
    ) at c.freeze.ensures.makes)).0

pub returns-in_ok-small_revision-in-Froze-clause-cause : goal.returns-in_ok-small_revision-in-Froze-clause-cause
returns-in_ok-small_revision-in-Froze-clause-cause g c told =
    rw c.in-Froze.is (froze c.in-Froze.release c.in-Froze.revision c.in-Froze.frozen
    c.in-Froze.duties c.in-Froze.changes _ _ _ (rw (
      c.as_slice-in-Froze.ensures,
      c.as_slice-in-Froze-2.ensures,
      c.as_slice-in-Froze-3.ensures,
      c.in_ok-small_revision-in-Froze.ensures.value,
    ) at c.freeze.ensures.makes)).1

pub returns-in-Moved-clause-wrote : goal.returns-in-Moved-clause-wrote
returns-in-Moved-clause-wrote g c =
    rw c.in-Moved.is (moved c.in-Moved.changes _ _ _ (rw c.as_slice-in-Moved.ensures at
    c.move_duties.ensures.makes)).0

pub returns-in-Moved-clause-cause : goal.returns-in-Moved-clause-cause
returns-in-Moved-clause-cause g c told =
    rw c.in-Moved.is (moved c.in-Moved.changes _ _ _ (rw c.as_slice-in-Moved.ensures at
    c.move_duties.ensures.makes)).1

pub returns-in-Withdrew-clause-wrote : goal.returns-in-Withdrew-clause-wrote
returns-in-Withdrew-clause-wrote g c =
    rw c.in-Withdrew.is (withdrew c.in-Withdrew.release c.in-Withdrew.changes _ _ _ (rw
    c.as_slice-in-Withdrew.ensures at c.withdraw.ensures.makes)).0

pub returns-in-Withdrew-clause-cause : goal.returns-in-Withdrew-clause-cause
returns-in-Withdrew-clause-cause g c told =
    rw c.in-Withdrew.is (withdrew c.in-Withdrew.release c.in-Withdrew.changes _ _ _ (rw
    c.as_slice-in-Withdrew.ensures at c.withdraw.ensures.makes)).1

pub returns-in-Concluded-clause-wrote : goal.returns-in-Concluded-clause-wrote
returns-in-Concluded-clause-wrote g c =
    rw c.in-Concluded.is (concluded c.in-Concluded.row _ _ _ c.conclude.ensures.makes).0

pub returns-in-Concluded-clause-cause : goal.returns-in-Concluded-clause-cause
returns-in-Concluded-clause-cause g c told =
    rw c.in-Concluded.is (concluded c.in-Concluded.row _ _ _ c.conclude.ensures.makes).1

pub returns-in-Adopted-clause-wrote : goal.returns-in-Adopted-clause-wrote
returns-in-Adopted-clause-wrote g c =
    rw c.in-Adopted.is (adopted c.in-Adopted.row _ _ _ c.adopt.ensures.makes).0

pub returns-in-Adopted-clause-cause : goal.returns-in-Adopted-clause-cause
returns-in-Adopted-clause-cause g c told =
    rw c.in-Adopted.is (adopted c.in-Adopted.row _ _ _ c.adopt.ensures.makes).1

pub returns-in_err-small_revision-in-Froze-clause-cause : goal.returns-in_err-small_revision-in-Froze-clause-cause
returns-in_err-small_revision-in-Froze-clause-cause g c told = absurd
    (c.in_err-small_revision-in-Froze.ensures.large (rw c.in-Froze.is at told))
