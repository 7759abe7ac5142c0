use Rattle.std.proofs.Common.{◌≡◌, filter, map, true}
use Rattle.desk_sql_layout.specs.Cells.{rule_cells}
use Rattle.desk_sql_layout.proofs.Finding.{finds_more}
use Rattle.desk_sql_lookup.proofs.OfficeQueries.{rule_finds}
use Rattle.desk_sql_lookup.specs.Rules.{are_words}
use Rattle.desk_sql_lookup.proofs.Ruling.{words_kept}
use Rattle.desk_sql_lookup.proofs.LookUps.{query_finds}
use Rattle.desk_sql_lookup.proofs.rules.select_rule.Goals as goal
use Rattle.desk_model.specs.Keys.{is_rule_at}

pub returns : goal.returns
returns g c =
    query_finds g.S.Store c.args.conn.now c.query.new.conn
    (finds_more (rule_finds c.args.revision c.args.term.now c.args.form.now).finds
    {More = λ t rows. (rows ≡ map rule_cells
    (filter (is_rule_at c.args.revision c.args.term.now c.args.form.now) t.rule))
    × (are_words (filter (is_rule_at c.args.revision c.args.term.now c.args.form.now) t.rule)
    ≡ true)}
    (λ t rows orderly is. (
      is,
      words_kept (is_rule_at c.args.revision c.args.term.now c.args.form.now) t.rule orderly.codes,
    )))
    c.query.result (rw (c.number.ensures, c.text.ensures, c.text-2.ensures) at c.query.ensures)
