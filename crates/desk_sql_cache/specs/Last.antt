-- What the last look-ups of a store found, which is true of its rows.
use Rattle.std.specs.Prelude.{◌≡◌, ◌==◌, ℕ, List, Option, Some, None, find, if◌then◌else◌}
use Rattle.std.specs.Option.{option_map, option_or}
use Rattle.desk_base.specs.declared.profile.Profile.{Profile}
use Rattle.desk_model.specs.History.{rule_for}
use Rattle.desk_model.specs.Keys.{is_document, is_rule}
use Rattle.desk_model.specs.Tables.{Tables}
use Rattle.desk_model.specs.declared.reading.Rule.{Rule}
use Rattle.desk_history.specs.FromTables.{known_document, rules_found}
use Rattle.desk_sql_cache.specs.declared.last.Last.{Last}
use Rattle.desk_sql_cache.specs.Repeated.{AreChoices, AreConclusions, no_choices, no_conclusions}

-- a document, by its number and its profile
abbrev pub IsDocument : Option (ℕ × Profile) → Tables → Type 0
IsDocument None t = Unit {0}
IsDocument (Some known) t = option_map known_document (find (is_document known.0) t.document)
    ≡ Some known

-- the rule in force for its term and its form
abbrev pub IsRule : Option Rule → Tables → Type 0
IsRule None t = Unit {0}
IsRule (Some rule) t = rule_for (rules_found t) rule.term rule.form ≡ Some rule

-- each thing that was looked up last, if it is still kept, is what the tables give now
pub record AreLast (last : Last) (t : Tables) : Type 0 where
  pub document : IsDocument last.document t
  pub rule : IsRule last.rule t
  pub conclusions : AreConclusions last.conclusions t
  pub choices : AreChoices last.choices t

-- no look-up is kept
abbrev pub nothing_last : Last
nothing_last = record {
  document = None;
  rule = None;
  conclusions = no_conclusions;
  choices = no_choices;
}

-- what is still kept after a change: documents are only added
abbrev pub last_after : Last → Last
last_after last = record {
  document = last.document;
  rule = None;
  conclusions = no_conclusions;
  choices = no_choices;
}

-- the document that is kept, if it has this number
abbrev pub document_kept : Option (ℕ × Profile) → ℕ → Option (ℕ × Profile)
document_kept None number = None
document_kept (Some known) number = if known.0 == number then Some known else None

-- the rule that is kept, if it is for this term and this form
abbrev pub rule_kept : Option Rule → List ℕ → List ℕ → Option Rule
rule_kept None term form = None
rule_kept (Some rule) term form = if is_rule term form rule then Some rule else None

-- the rule of a look-up is kept if there is one
abbrev pub rule_noted : Option Rule → Last → Last
rule_noted found last = record last { rule = option_or found last.rule }
