-- What is found in a catalogue.
use Rattle.std.specs.Prelude.{ℕ, List, [], Bool, Option, option_map, find}
use Rattle.desk_base.specs.TextSets.{is_among}
use Rattle.desk_expr.specs.declared.term.Term.{Term}
use Rattle.desk_expr.specs.Printing.{printed_term}
use Rattle.desk_model.specs.Keys.{is_rule}
use Rattle.desk_model.specs.declared.reading.Rule.{Rule}
use Rattle.desk_catalogue.specs.declared.catalogue.Catalogue.{Catalogue}
use Rattle.desk_catalogue.specs.declared.catalogue.LicenceText.{LicenceText}
use Rattle.desk_catalogue.specs.Kept.{is_text_of}

-- what a rule for a term in a form is compared with
abbrev pub sought : List ℕ → List ℕ → Rule
sought term form = record { term = term; form = form; spelled = []; codes = [] }

-- the rule for a term, which the catalogue keeps as it is printed, in a form
abbrev pub rule_for : Catalogue → Term → List ℕ → Option Rule
rule_for catalogue term form = find (is_rule (printed_term term) form) catalogue.rules

-- the codes owed
abbrev pub codes_for : Catalogue → Term → List ℕ → Option (List (List ℕ))
codes_for catalogue term form = option_map (λ rule. rule.codes) (rule_for catalogue term form)

-- the term as the catalogue spells it
abbrev pub spelled_for : Catalogue → Term → List ℕ → Option (List ℕ)
spelled_for catalogue term form = option_map (λ rule. rule.spelled) (rule_for catalogue term form)

-- the catalogue lists the form, byte for byte
abbrev pub has_form : Catalogue → List ℕ → Bool
has_form catalogue form = is_among catalogue.forms form

-- the text of a licence or an exception, by its id, ignoring case
abbrev pub text_for : Catalogue → List ℕ → Option LicenceText
text_for catalogue id = find (is_text_of id) catalogue.texts

-- the text itself, line ends as in the catalogue
abbrev pub body_for : Catalogue → List ℕ → Option (List ℕ)
body_for catalogue id = option_map (λ text. text.body) (text_for catalogue id)

-- the id as the catalogue spells it
abbrev pub title_for : Catalogue → List ℕ → Option (List ℕ)
title_for catalogue id = option_map (λ text. text.licence) (text_for catalogue id)
