use Rattle.std.proofs.Common.{[], subst, sym, ◌∙◌}
use Rattle.std.specs.Prelude.{◌≡◌, List}
use Rattle.std.specs.List.{AllByRecursion}
use Rattle.sqlite_schema.specs.declared.schema.Table.{Table}
use Rattle.desk_sql_adopt.specs.Older.{HasOlder}
use Rattle.desk_sql_adopt.proofs.older.has_second.Goals as goal

abbrev Alone : List Table → Type 0
Alone = AllByRecursion (λ (t : Table). t.references ≡ [])

pub returns-then-has_tables : goal.returns-then-has_tables
unfolding HasOlder
returns-then-has_tables c = (
  λ is. record {
    each = c.has_tables.ensures.0 c.if-has_tables.true;
    alone = subst Alone c.as_slice.ensures (c.have_no_references.ensures.0 is);
  },
  λ has. c.have_no_references.ensures.1 (subst Alone (sym c.as_slice.ensures) has.alone),
)

pub returns-else-has_tables : goal.returns-else-has_tables
unfolding HasOlder
returns-else-has_tables c = (
  λ is. absurd (let no = sym is ∙ c.if-has_tables.false in cc),
  λ has. c.has_tables.ensures.1 has.each,
)
