-- The duties that are asked for, and the line of each: its row in the table, its package's name,
-- its title and its days.
use Rattle.std.specs.Prelude.{ℕ, ℤ, pos, ◌&&◌, ◌||◌, not, Bool, true, List, [], ◌∷◌, Option}
use Rattle.std.specs.Prelude.{find, filter, map, reverse, option_and_then}
use Rattle.std.specs.Cmp.{IsTotalOrder}
use Rattle.std.specs.Cmp.Lexicographic.{slice_cmp}
use Rattle.std.specs.Option.{option_copied, option_map_or}
use Rattle.std.specs.Ordering.{nat_cmp, int_cmp, on, then_cmp}
use Rattle.std.specs.Str.{bytes_eq}
use Rattle.std.specs.declared.cmp.Ordering.{Ordering}
use Rattle.std.proofs.lemmas.Cmp.{int_cmp_total, nat_list_cmp_total, on_total, then_total}
use Rattle.desk_model.specs.Names.{duty_state_name}
use Rattle.desk_model.specs.declared.state.DutyState.TheVariants as duty
use Rattle.desk_model.specs.Moves.{is_over}
use Rattle.desk_snapshot.specs.Changes.{last_day_at}
use Rattle.desk_snapshot.specs.Rows.{is_change_at, is_change_of, is_package}
use Rattle.desk_snapshot.specs.declared.rows.StoredChange.{StoredChange}
use Rattle.desk_snapshot.specs.declared.rows.StoredDuty.{StoredDuty}
use Rattle.desk_snapshot.specs.declared.snapshot.Snapshot.{Snapshot}
use Rattle.desk_lists.specs.Titles.{title_among, titles_in_force}
use Rattle.desk_lists.specs.declared.lines.DutyFilter.{DutyFilter}
use Rattle.desk_lists.specs.declared.lines.DutyLine.{DutyLine}
use Rattle.desk_lists.specs.declared.titles.Title.{Title}

-- a text is the one asked for, if any is
abbrev pub is_asked : Option (List ℕ) → List ℕ → Bool
is_asked asked text = option_map_or (λ wanted. bytes_eq text wanted) asked true

-- the name of a package in a document; empty if the table lacks it
abbrev pub package_name : Snapshot → ℤ → List ℕ → List ℕ
package_name snapshot document id = option_map_or (λ row. row.name)
    (find (is_package document id) snapshot.packages) []

-- the day of a duty's first step
abbrev pub raising_day : Snapshot → ℤ → List ℕ
raising_day snapshot number = option_map_or (λ row. row.day)
    (find (is_change_at number (pos 1)) snapshot.changes) []

-- the last of a duty's changes in the table, which is in the order of steps
abbrev pub last_change : Snapshot → ℤ → Option StoredChange
last_change snapshot number = find (is_change_of number) (reverse snapshot.changes)

-- the day of a duty's last change, since when it is in its state; empty if it has none
abbrev pub changing_day : Snapshot → ℤ → List ℕ
changing_day snapshot number = option_map_or (λ row. row.day) (last_change snapshot number) []

-- the last day of a duty's last change, if that is a waiver that ends
abbrev pub waiver_end : Snapshot → ℤ → Option (List ℕ)
waiver_end snapshot number = option_and_then (last_day_at snapshot) (last_change snapshot number)

-- a waived duty whose waiver has a last day before a day
abbrev pub is_past : Snapshot → List ℕ → StoredDuty → Bool
is_past snapshot day row = bytes_eq row.state (duty_state_name duty.Waived)
    && is_over day (waiver_end snapshot row.number)

-- past by the day that is asked for, if one is
abbrev pub is_past_if_asked : Snapshot → Option (List ℕ) → StoredDuty → Bool
is_past_if_asked snapshot asked row = option_map_or (λ day. is_past snapshot day row) asked true

-- a duty that passes each filter that is given: its release, its code, open, past
abbrev pub is_wanted : Snapshot → DutyFilter → StoredDuty → Bool
is_wanted snapshot wanted row =
    is_asked (option_copied wanted.release) row.release
    && (is_asked (option_copied wanted.code) row.code
    && ((not wanted.still_open || bytes_eq row.state (duty_state_name duty.IsOpen))
    && is_past_if_asked snapshot (option_copied wanted.past) row))

-- the texts of a duty's line
abbrev pub line_texts : Snapshot → List Title → StoredDuty → List (List ℕ)
line_texts snapshot titles row =
    row.release ∷ row.package_id ∷ package_name snapshot row.document row.package_id ∷ row.rule
    ∷ row.code ∷ title_among row.code titles
    ∷ row.state ∷ raising_day snapshot row.number ∷ changing_day snapshot row.number ∷ []

-- the line of a duty's row, with what other tables and the catalogue say of it
abbrev pub duty_line : Snapshot → List Title → StoredDuty → DutyLine
duty_line snapshot titles row = record {
  number = row.number;
  release = row.release;
  document = row.document;
  package_id = row.package_id;
  package_name = package_name snapshot row.document row.package_id;
  rule = row.rule;
  code = row.code;
  title = title_among row.code titles;
  state = row.state;
  raised = raising_day snapshot row.number;
  changed = changing_day snapshot row.number;
  last_day = waiver_end snapshot row.number;
}

-- the lines of the duties that are asked for, in the table's order
abbrev pub lines_wanted : Snapshot → DutyFilter → List DutyLine
lines_wanted snapshot wanted = map (duty_line snapshot (titles_in_force snapshot))
    (filter (is_wanted snapshot wanted) snapshot.duty)

-- by the day of raising, and by number if two were raised on the same day
abbrev pub raising_order : DutyLine → DutyLine → Ordering
raising_order = then_cmp (on (λ line. line.raised) (slice_cmp nat_cmp))
    (on (λ line. line.number) int_cmp)

-- it is a total order, as sorting needs
pub raising_total : IsTotalOrder raising_order
raising_total = then_total (on_total (λ line. line.raised) nat_list_cmp_total)
    (on_total (λ line. line.number) int_cmp_total)
