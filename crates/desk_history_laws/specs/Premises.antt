-- What a reading of texts must satisfy so that the duties of its histories are what the frozen
-- terms owe: each right reading does.
use Rattle.std.specs.Prelude.{◌≡◌, ℕ, List, Some, Ok}
use Rattle.desk_model.specs.Lists.{IsIn}
use Rattle.desk_model.specs.Readings.{Readings}
use Rattle.desk_model.specs.declared.reading.Catalogue.{Catalogue}
use Rattle.desk_model.specs.declared.reading.Rule.{Rule}
use Rattle.desk_history.specs.Laws.{ListsInOrder}
use Rattle.desk_history_laws.specs.Ids.{ListsIds}

-- Rules are listed by term and form, each code is a word, and the term of a rule is the one that
-- its spelling spells.
pub record ReadsRules (w : Readings) : Type 0 where
  pub in_order : ListsInOrder w
  pub ids : ListsIds w
  pub spelled : (text : List ℕ) (catalogue : Catalogue) (rule : Rule)
      → w.catalogue text ≡ Ok catalogue → IsIn rule catalogue.rules
      → w.term rule.spelled ≡ Some rule.term
