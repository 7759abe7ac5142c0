use Rattle.std.proofs.Common.{◌≡◌, map, Err, Ok}
use Rattle.desk_sql_layout.specs.Cells.{reading_cells}
use Rattle.desk_sql_layout.specs.Shown.{name_cells}
use Rattle.desk_sql_lookup.proofs.LookUps.{fails_too, looks_then, then_tells}
use Rattle.desk_sql_lookup.proofs.heads.select_both.Goals as goal

pub returns-in_err-readings : goal.returns-in_err-readings
returns-in_err-readings g c =
    let fault = c.in_err-readings.field-0.0 in
    let both = looks_then g.S.Store c.args.conn.now c.select_names.new.conn
    c.select_readings.new.conn (λ t. Unit {0}) c.in_ok-names.ensures (Err fault)
    c.in_err-readings.ensures (λ readings t. readings.items ≡ map reading_cells t.document)
    (λ readings t names is. is) in
    fails_too g.S.Store c.args.conn.now c.select_readings.new.conn
    c.from_residual-in_err-readings.result fault c.from_residual-in_err-readings.ensures.1 _
    (λ t. Unit {0}) both

pub returns : goal.returns
returns g c =
    let names = c.in_ok-names.names in
    let both = looks_then g.S.Store c.args.conn.now c.select_names.new.conn
    c.select_readings.new.conn (λ t. Unit {0}) c.in_ok-names.ensures (Ok c.in_ok-readings.readings)
    c.in_ok-readings.ensures
    (λ readings t. (names.items ≡ map name_cells t.document)
    × (readings.items ≡ map reading_cells t.document)) (λ readings t first is. (first, is)) in
    then_tells g.S.Store c.args.conn.now c.select_readings.new.conn both (λ t. Unit {0})
    (Ok (names, c.in_ok-readings.readings))
    (λ both t. (both.0.items ≡ map name_cells t.document)
    × (both.1.items ≡ map reading_cells t.document))
    both.found tt
