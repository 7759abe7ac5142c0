use Rattle.std.proofs.Common.{◌≡◌, filter, length, map, Err, Ok}
use Rattle.desk_model.specs.Keys.{is_change_of}
use Rattle.desk_model.specs.Tables.{Tables}
use Rattle.desk_sql_layout.specs.Cells.{change_cells}
use Rattle.desk_sql_layout.specs.Shown.{ending_cells}
use Rattle.desk_sql_lookup.specs.Waivers.{AreSteps, waivers_in}
use Rattle.desk_sql_lookup.proofs.LookUps.{fails_too, looks_then, then_tells}
use Rattle.desk_sql_lookup.proofs.changes.select_both.Goals as goal

pub returns-in_err-waivers : goal.returns-in_err-waivers
returns-in_err-waivers g c =
    let fault = c.in_err-waivers.field-0.0 in
    let both = looks_then g.S.Store c.args.conn.now c.select_changes_of.new.conn
    c.select_waivers_of.new.conn (λ t. Unit {0}) c.in_ok-changes.ensures (Err fault)
    c.in_err-waivers.ensures
    (λ ends t. length t.duty ≡ c.args.duties
    → ends.items ≡ map ending_cells (waivers_in (filter (is_change_of c.args.duty) t.changes)))
    (λ ends t changes is. is) in
    fails_too g.S.Store c.args.conn.now c.select_waivers_of.new.conn
    c.from_residual-in_err-waivers.result fault c.from_residual-in_err-waivers.ensures.1 _
    (λ t. Unit {0}) both

pub returns : goal.returns
returns g c =
    let own = λ (t : Tables). filter (is_change_of c.args.duty) t.changes in
    let changes = c.in_ok-changes.changes in
    let both = looks_then g.S.Store c.args.conn.now c.select_changes_of.new.conn
    c.select_waivers_of.new.conn (λ t. Unit {0}) c.in_ok-changes.ensures
    (Ok c.in_ok-waivers.waivers) c.in_ok-waivers.ensures
    (λ ends t. length t.duty ≡ c.args.duties
    → (changes.items ≡ map change_cells (own t)) × AreSteps (own t)
    × (ends.items ≡ map ending_cells (waivers_in (own t))))
    (λ ends t first is count. let rows = first count in (rows.0, rows.1, is count)) in
    then_tells g.S.Store c.args.conn.now c.select_waivers_of.new.conn both (λ t. Unit {0})
    (Ok (changes, c.in_ok-waivers.waivers))
    (λ both t. length t.duty ≡ c.args.duties
    → (both.0.items ≡ map change_cells (own t)) × AreSteps (own t)
    × (both.1.items ≡ map ending_cells (waivers_in (own t))))
    both.found tt
