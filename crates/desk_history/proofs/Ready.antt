-- The duties that keep a release back, from tables.
use Rattle.std.proofs.Common.{◌≡◌, ℕ, Bool, List, map, Option, sym, ap, ◌∙◌}
use Rattle.std.specs.Prelude.{filter, ◌&&◌}
use Rattle.desk_model.specs.Readings.{Readings}
use Rattle.desk_model.specs.Keys.{is_duty_of}
use Rattle.desk_model.specs.Raised.{raised, numbered}
use Rattle.desk_model.specs.Moves.{duties, duty_row, end_after, moves, place}
use Rattle.desk_model.specs.Queries.{unready_duties}
use Rattle.desk_model.specs.Ready.{keeps_back}
use Rattle.desk_model.specs.Tables.{tables}
use Rattle.desk_model.specs.declared.row.DutyRow.{DutyRow}
use Rattle.desk_model.specs.declared.row.Owed.{Owed}
use Rattle.desk_model.specs.declared.command.Command.{Command}
use Rattle.desk_history.specs.FromTables.{end_found, unready_found}
use Rattle.desk_history.proofs.Rows.{filter-map}
use Rattle.desk_history.proofs.Withdrawing.{Found, end-found, filter-filter, filter_found}

-- a duty of the release keeps it back
abbrev pub holds_back : Readings → List Command → List ℕ → Option (List ℕ) → DutyRow → Bool
holds_back w h r day row = is_duty_of r row
    && keeps_back day row.state (end_after (moves w h row.number))

pub unready-once : (w : Readings) (h : List Command) (r : List ℕ) (day : Option (List ℕ))
    → unready_duties w h r day ≡ filter (holds_back w h r day) (duties w h)
unready-once w h r day = filter-filter
    (λ (row : DutyRow). keeps_back day row.state (end_after (moves w h row.number))) (is_duty_of r)
    (duties w h)

pub unready-found : (w : Readings) (h : List Command) (r : List ℕ) (day : Option (List ℕ))
    → unready_found (tables w h) r day ≡ unready_duties w h r day
unready-found w h r day =
    let row : ℕ × Owed → DutyRow = λ d. duty_row (place w h d.0) d in
    let found : DutyRow → Bool = λ row. is_duty_of r row
    && keeps_back day row.state (end_found (tables w h) row.number) in
    filter-filter
    (λ (row : DutyRow). keeps_back day row.state (end_found (tables w h) row.number))
    (is_duty_of r) (duties w h)
    ∙ (filter-map found row (numbered w h)
    ∙ (ap (map row) (filter_found (λ d. found (row d)) (λ d. holds_back w h r day (row d)) 1
    (raised w h) (λ d e. ap (λ end. is_duty_of r (row d) && keeps_back day (place w h d.0) end)
    (end-found w h d e)))
    ∙ (sym (filter-map (holds_back w h r day) row (numbered w h))
    ∙ sym (unready-once w h r day))))
