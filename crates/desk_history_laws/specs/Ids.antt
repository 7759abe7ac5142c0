-- What the codes of rules are.
use Rattle.std.specs.Prelude.{◌≡◌, ℕ, true, List, Ok}
use Rattle.std.specs.List.{list_all}
use Rattle.desk_base.specs.Idstring.{is_idstring}
use Rattle.desk_model.specs.Lists.{IsIn}
use Rattle.desk_model.specs.Readings.{Readings}
use Rattle.desk_model.specs.declared.reading.Catalogue.{Catalogue}
use Rattle.desk_model.specs.declared.reading.Rule.{Rule}

-- a reading by which each code of a rule is an idstring (SPDX 2.3, Annex D.2)
abbrev pub ListsIds : Readings → Type 0
ListsIds w = (text : List ℕ) (catalogue : Catalogue) (rule : Rule) → w.catalogue text ≡ Ok catalogue
    → IsIn rule catalogue.rules → list_all is_idstring rule.codes ≡ true
