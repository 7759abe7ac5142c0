-- The duties that freezes raise.
use Rattle.std.specs.Prelude.{◌≡◌, ℕ, List, [], ◌∷◌, ◌++◌, filter, map, Option, Some, None, unwrap_or}
use Rattle.std.specs.List.{flat_map, enumerate_from}
use Rattle.std.specs.Option.{option_and_then}
use Rattle.desk_model.specs.Lists.{IsIn}
use Rattle.desk_model.specs.Readings.{Readings}
use Rattle.desk_model.specs.Keys.{is_shipped_by}
use Rattle.desk_model.specs.History.{in_force, rules_in, rule_for, packages, form_of, attached, attached_to, choice}
use Rattle.desk_model.specs.Conclusions.{adopted, adoptions}
use Rattle.desk_model.specs.declared.reading.Rule.{Rule}
use Rattle.desk_model.specs.declared.row.AdoptionRow.{AdoptionRow}
use Rattle.desk_model.specs.declared.row.Owed.{Owed}
use Rattle.desk_model.specs.declared.row.PackageRow.{PackageRow}
use Rattle.desk_model.specs.declared.row.AttachedRow.{AttachedRow}
use Rattle.desk_model.specs.declared.row.FrozenRow.{FrozenRow}
use Rattle.desk_model.specs.declared.command.Command.{Command}
use Rattle.desk_model.specs.declared.command.Command.TheVariants.{Freeze}

-- the shipped packages of the documents that are attached, by document and id
abbrev pub shipped_of : List AttachedRow → List PackageRow → List PackageRow
shipped_of rows all = flat_map (λ row. filter (is_shipped_by row.document) all) rows

-- what a release ships: the shipped packages of its documents, by document and id
abbrev pub shipped : Readings → List Command → List ℕ → List PackageRow
shipped w h r = shipped_of (attached_to (attached h) r) (packages w h)

-- the rule for the adopted form of a term of a document
abbrev pub rule_adopted : Readings → List AdoptionRow → List Rule → List ℕ → ℕ → List ℕ
    → Option Rule
rule_adopted w licences rules form d term = option_and_then (λ t. rule_for rules t form)
    (adopted w licences d term)

-- a code that a term of a package owes under a rule
abbrev pub owed_code : List ℕ → PackageRow → List ℕ → Rule → List ℕ → Owed
owed_code r p term rule code = record {
  release = r;
  document = p.document;
  package_id = p.id;
  term = term;
  code = code;
  rule = rule.spelled;
}

-- what a term of a package owes under a rule: each of its codes
abbrev pub owed_under : List ℕ → PackageRow → List ℕ → Option Rule → List Owed
owed_under r p term None = []
owed_under r p term (Some rule) = map (owed_code r p term rule) rule.codes

-- what the terms of one package owe, term by term in the order given
abbrev pub owed_for_terms : Readings → List AdoptionRow → List Rule → List ℕ → List ℕ → PackageRow
    → List (List ℕ) → List Owed
owed_for_terms w licences rules form r p terms = flat_map
    (λ term. owed_under r p term (rule_adopted w licences rules form p.document term)) terms

-- what a release owes for its packages and the terms chosen for each, by document, package, term
-- and code
abbrev pub owed_for : Readings → List AdoptionRow → List Rule → List ℕ → List ℕ
    → (PackageRow → List (List ℕ)) → List PackageRow → List Owed
owed_for w licences rules form r chosen ps = flat_map
    (λ p. owed_for_terms w licences rules form r p (chosen p)) ps

-- the terms that a release holds for a package
abbrev pub chosen_in : Readings → List Command → List ℕ → PackageRow → List (List ℕ)
chosen_in w h r p = choice w h r p.document p.id

-- what a freeze of the release after these commands raises
abbrev pub owed_at : Readings → List Command → List ℕ → List Owed
owed_at w h r = owed_for w (adoptions w h) (rules_in (in_force w h)) (unwrap_or (form_of h r) []) r
    (chosen_in w h r) (shipped w h r)

-- all duties, each freeze's after those of the freezes before it
abbrev pub raised : Readings → List Command → List Owed
raised w [] = []
raised w (Freeze r day ∷ h) = raised w h ++ owed_at w h r
raised w (_ ∷ h) = raised w h

-- each with its number, from 1
abbrev pub numbered : Readings → List Command → List (ℕ × Owed)
numbered w h = enumerate_from 1 (raised w h)

-- the record of a frozen term
abbrev pub frozen_term : List ℕ → PackageRow → List ℕ → Rule → FrozenRow
frozen_term r p term rule = record {
  release = r;
  document = p.document;
  package_id = p.id;
  term = term;
  rule = rule.spelled;
}

-- a term is recorded with its rule; a freeze lets no term without a rule pass
abbrev pub frozen_under : List ℕ → PackageRow → List ℕ → Option Rule → List FrozenRow
frozen_under r p term None = []
frozen_under r p term (Some rule) = frozen_term r p term rule ∷ []

-- the records of one package's terms
abbrev pub frozen_for_terms : Readings → List AdoptionRow → List Rule → List ℕ → List ℕ → PackageRow
    → List (List ℕ) → List FrozenRow
frozen_for_terms w licences rules form r p terms = flat_map
    (λ term. frozen_under r p term (rule_adopted w licences rules form p.document term)) terms

-- the records of all packages that are shipped, each with its chosen terms
abbrev pub frozen_for : Readings → List AdoptionRow → List Rule → List ℕ → List ℕ
    → (PackageRow → List (List ℕ)) → List PackageRow → List FrozenRow
frozen_for w licences rules form r chosen ps = flat_map
    (λ p. frozen_for_terms w licences rules form r p (chosen p)) ps

-- the terms that a freeze of the release after these commands records
abbrev pub frozen_at : Readings → List Command → List ℕ → List FrozenRow
frozen_at w h r = frozen_for w (adoptions w h) (rules_in (in_force w h))
    (unwrap_or (form_of h r) []) r (chosen_in w h r) (shipped w h r)

-- the terms that releases were frozen with
abbrev pub frozen : Readings → List Command → List FrozenRow
frozen w [] = []
frozen w (Freeze r day ∷ h) = frozen_at w h r ++ frozen w h
frozen w (_ ∷ h) = frozen w h

-- The same in the subject's own words: a freeze of the release is in the history, and before it a
-- document that ships the package was attached, the term was chosen for it, and the catalogue in
-- force owes the code for the term's adopted form.
pub record IsRaised (w : Readings) (h : List Command) (d : Owed) : Type 0 where
  pub later : List Command
  pub before : List Command
  pub day : List ℕ
  pub row : PackageRow
  pub rule : Rule
  pub split : h ≡ later ++ Freeze d.release day ∷ before
  pub ships : IsIn row (shipped w before d.release)
  pub document : d.document ≡ row.document
  pub package_id : d.package_id ≡ row.id
  pub chosen : IsIn d.term (choice w before d.release row.document row.id)
  pub owes : rule_adopted w (adoptions w before) (rules_in (in_force w before))
      (unwrap_or (form_of before d.release) []) row.document d.term ≡ Some rule
  pub code : IsIn d.code rule.codes
  pub spelled : d.rule ≡ rule.spelled
