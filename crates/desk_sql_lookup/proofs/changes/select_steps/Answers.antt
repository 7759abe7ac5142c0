use Rattle.std.proofs.Common.{◌∙◌, ◌+◌, ap, length, min}
use Rattle.desk_sql_lookup.proofs.Among.{changes_among}
use Rattle.desk_sql_lookup.proofs.ChangeQueries.{steps_finds}
use Rattle.desk_sql_layout.proofs.Finding.{finds_more}
use Rattle.desk_sql_lookup.proofs.LookUps.{query_finds}
use Rattle.desk_sql_lookup.proofs.changes.select_steps.Goals as goal

pub returns : goal.returns
returns g c =
    query_finds g.S.Store c.args.conn.now c.query.new.conn
    (finds_more (steps_finds (min c.args.duty (c.args.duties + 1)))
    (λ t rows orderly is count. is
    ∙ ap length (changes_among c.args.duty c.args.duties t orderly count)))
    c.query.result (rw c.among.ensures at c.query.ensures)
