use Rattle.std.proofs.Common.{◌≡◌, ◌+◌, filter, length, map, min}
use Rattle.desk_model.specs.Keys.{is_change_of}
use Rattle.desk_sql_layout.specs.Shown.{ending_cells}
use Rattle.desk_sql_lookup.specs.Waivers.{waivers_in}
use Rattle.desk_sql_lookup.proofs.Among.{changes_among}
use Rattle.desk_sql_lookup.proofs.ChangeQueries.{waivers_of_finds}
use Rattle.desk_sql_lookup.proofs.Ending.{waivers_shown}
use Rattle.desk_sql_layout.proofs.Finding.{finds_more}
use Rattle.desk_sql_lookup.proofs.LookUps.{query_finds}
use Rattle.desk_sql_lookup.proofs.changes.select_waivers_of.Goals as goal

pub returns : goal.returns
returns g c =
    query_finds g.S.Store c.args.conn.now c.query.new.conn
    (let n = min c.args.duty (c.args.duties + 1) in
    finds_more (waivers_of_finds n).finds
    {More = λ t rows. length t.duty ≡ c.args.duties
    → rows ≡ map ending_cells (waivers_in (filter (is_change_of c.args.duty) t.changes))}
    (λ t rows orderly is count.
    waivers_shown (is_change_of n) (is_change_of c.args.duty) rows t.changes
    (changes_among c.args.duty c.args.duties t orderly count) is))
    c.query.result (rw c.among.ensures at c.query.ensures)
