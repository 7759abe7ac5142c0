-- What a catalogue keeps, and in which order.
use Rattle.std.specs.Prelude.{ℕ, ◌==◌, Bool, List, [], ◌∷◌, length}
use Rattle.std.specs.List.{list_any}
use Rattle.std.specs.Ordering.{match_ordering}
use Rattle.std.specs.Str.{bytes_eq}
use Rattle.desk_base.specs.Folded.{folded}
use Rattle.desk_model.specs.Keys.{is_rule, rule_order}
use Rattle.desk_model.specs.Texts.{sorted_set}
use Rattle.desk_model.specs.declared.reading.Rule.{Rule}
use Rattle.desk_catalogue.specs.declared.catalogue.LicenceText.{LicenceText}

-- none of the texts occurs twice: as a set they are as many
abbrev pub stand_once : List (List ℕ) → Bool
stand_once texts = length (sorted_set texts) == length texts

-- a rule at its place in sorted rules
abbrev pub put_rule : Rule → List Rule → List Rule
put_rule rule [] = rule ∷ []
put_rule rule (r ∷ rs) = match_ordering (rule_order rule r) (rule ∷ r ∷ rs) (rule ∷ rs)
    (r ∷ put_rule rule rs)

-- one of the rules is for the same term and form
abbrev pub has_rule : List Rule → Rule → Bool
has_rule rules rule = list_any (is_rule rule.term rule.form) rules

-- the text is that of a licence or an exception, whose ids are compared without regard to case
-- (SPDX 2.3, Annex D.2)
abbrev pub is_text_of : List ℕ → LicenceText → Bool
is_text_of id text = bytes_eq (folded text.licence) (folded id)

-- two texts are of the same licence or exception
abbrev pub same_licence : LicenceText → LicenceText → Bool
same_licence a b = is_text_of b.licence a
