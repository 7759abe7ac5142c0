-- The tables that a snapshot shows.
use Rattle.std.specs.Prelude.{◌≡◌, List, length, map, flat_map}
use Rattle.std.specs.Result.{result_ok}
use Rattle.desk_history.specs.Laws.{Rises}
use Rattle.desk_model.specs.History.{rule_row, rules_in}
use Rattle.desk_model.specs.Keys.{below_by}
use Rattle.desk_model.specs.Readings.{Readings}
use Rattle.desk_model.specs.Tables.{Tables}
use Rattle.desk_model.specs.declared.row.CatalogueRow.{CatalogueRow}
use Rattle.desk_model.specs.declared.row.RuleRow.{RuleRow}
use Rattle.desk_snapshot.specs.Orders.{change_order, waiver_order}
use Rattle.desk_snapshot.specs.Tables.{snapshot_of}
use Rattle.desk_snapshot.specs.declared.snapshot.Snapshot.{Snapshot}
use Rattle.desk_beside.specs.Beside.{forms_by}

-- changes, and last days of waivers, are in the order of their tables' keys, and no key comes twice
pub record HaveOwnSteps (s : Snapshot) : Type 0 where
  pub changes : Rises (below_by change_order) s.changes
  pub waivers : Rises (below_by waiver_order) s.waiver

-- the rules that a reading gives a revision
abbrev pub rules_read : Readings → CatalogueRow → List RuleRow
rules_read w row = map (rule_row row.revision) (rules_in (result_ok (w.catalogue row.body)))

-- These tables have the rows of a snapshot. What no row has, the forms of the catalogue in force and
-- where one code of a rule ends, is as a reading gives it.
pub record AreShown (w : Readings) (s : Snapshot) (t : Tables) : Type 0 where
  pub rows : snapshot_of t ≡ s
  pub rules : t.rule ≡ flat_map (rules_read w) t.catalogue
  pub forms : t.forms ≡ forms_by w t (length t.catalogue)
