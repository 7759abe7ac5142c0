use Rattle.std.proofs.Common.{◌≡◌, ◌∙◌, ◌+◌, ap, filter, length, map, min, subst}
use Rattle.desk_sql_layout.specs.Cells.{change_cells}
use Rattle.desk_model.specs.Keys.{is_change_of}
use Rattle.desk_sql_lookup.specs.Waivers.{AreSteps}
use Rattle.desk_sql_lookup.proofs.Among.{changes_among}
use Rattle.desk_sql_lookup.proofs.ChangeQueries.{changes_of_apart, changes_of_finds}
use Rattle.desk_sql_lookup.proofs.Ending.{are_steps}
use Rattle.desk_sql_layout.proofs.Finding.{finds_both, finds_more}
use Rattle.desk_sql_lookup.proofs.LookUps.{query_finds}
use Rattle.desk_sql_lookup.proofs.changes.select_changes_of.Goals as goal

pub returns : goal.returns
returns g c =
    query_finds g.S.Store c.args.conn.now c.query.new.conn
    (let n = min c.args.duty (c.args.duties + 1) in
    finds_more (finds_both (changes_of_finds n).finds (changes_of_apart n))
    {More = λ t rows. length t.duty ≡ c.args.duties
    → (rows ≡ map change_cells (filter (is_change_of c.args.duty) t.changes))
    × AreSteps (filter (is_change_of c.args.duty) t.changes)} (λ t rows orderly is count.
    let same = changes_among c.args.duty c.args.duties t orderly count in
    (is.0 ∙ ap (map change_cells) same, subst AreSteps same (are_steps n t.changes is.1))))
    c.query.result (rw c.among.ensures at c.query.ensures)
