-- Rules as a look-up finds them.
use Rattle.std.specs.Prelude.{Bool, List}
use Rattle.std.specs.List.{list_all}
use Rattle.desk_sql_layout.specs.Cells.{is_word}
use Rattle.desk_model.specs.declared.row.RuleRow.{RuleRow}

-- the codes of rules are words
abbrev pub are_words : List RuleRow → Bool
are_words = list_all (λ row. list_all is_word row.codes)
