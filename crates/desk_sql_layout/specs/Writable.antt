-- Which changes the tables can hold: those whose rows they give back as they were, in their order.
use Rattle.std.specs.Prelude.{ℕ, ◌==◌, ◌&&◌, Bool, true, List, [], ◌∷◌}
use Rattle.std.specs.List.{list_all}
use Rattle.desk_model.specs.Texts.{text_below}
use Rattle.desk_model.specs.declared.row.RuleRow.{RuleRow}
use Rattle.desk_model.specs.declared.row.PackageRow.{PackageRow}
use Rattle.desk_model.specs.declared.command.Change.{Change}
use Rattle.desk_model.specs.declared.command.Change.TheVariants as change
use Rattle.desk_sql_layout.specs.Cells.{is_word}

-- each package is before the next one by its id
abbrev pub rise : List PackageRow → Bool
rise [] = true
rise (p ∷ []) = true
rise (p ∷ q ∷ packages) = text_below p.id q.id && rise (q ∷ packages)

-- the packages are packages of the document
abbrev pub are_of : ℕ → List PackageRow → Bool
are_of document packages = list_all (λ p. p.document == document) packages

-- the codes of each rule are words
abbrev pub have_words : List RuleRow → Bool
have_words rules = list_all (λ row. list_all is_word row.codes) rules

-- Rules have words as codes, which stay apart when they are joined; packages are of the document
-- and in the order of their ids. Any other change can be held as it is.
abbrev pub is_writable : Change → Bool
is_writable (change.Loaded row rules forms) = have_words rules
is_writable (change.Imported row packages references) = are_of row.number packages && rise packages
is_writable _ = true
