-- What is kept of the last look-ups, and what becomes of it.
use Rattle.std.proofs.Common.{◌≡◌, ◌∙◌, ◌∷◌, [], ℕ, List, Option, Some}
use Rattle.std.proofs.Common.{None, refl, ap, sym, subst, find}
use Rattle.std.specs.Prelude.{bytes_eq}
use Rattle.std.specs.Option.{option_map, option_or}
use Rattle.std.proofs.lemmas.Bool.{and_parts}
use Rattle.std.proofs.lemmas.List.Folds.{find-append}
use Rattle.desk_base.specs.declared.profile.Profile.{Profile}
use Rattle.desk_base.proofs.Numbers.{numbers_equal}
use Rattle.desk_base.proofs.Texts.{texts_equal}
use Rattle.desk_base.proofs.Lists.{found_passes}
use Rattle.desk_model.specs.History.{rule_for}
use Rattle.desk_model.specs.Keys.{is_document, is_rule}
use Rattle.desk_model.specs.Tables.{Tables, applied}
use Rattle.desk_model.specs.declared.command.Change.{Change}
use Rattle.desk_model.specs.declared.command.Change.TheVariants as change
use Rattle.desk_model.specs.declared.reading.Rule.{Rule}
use Rattle.desk_model.specs.declared.row.DocumentRow.{DocumentRow}
use Rattle.desk_history.specs.FromTables.{known_document}
use Rattle.desk_sql_cache.specs.Last.{AreLast, IsDocument}
use Rattle.desk_sql_cache.specs.Repeated.{no_choices, no_conclusions}

-- a document that was found is kept, since others are added after it
document_stays : (change : Change) (t : Tables) (known : ℕ × Profile) → IsDocument (Some known) t
    → IsDocument (Some known) (applied change t)
document_stays (change.Imported row packages references) t known is =
    let at = is_document known.0 in
    ap (option_map known_document) (find-append at t.document (row ∷ []))
    ∙ first (find at t.document) (find at (row ∷ [])) is
  where
    first : (found other : Option DocumentRow) → option_map known_document found ≡ Some known
        → option_map known_document (option_or found other) ≡ Some known
    first None other is = absurd (cc)
    first (Some row) other is = is
document_stays (change.Loaded row rules forms) t known is = is
document_stays (change.Opened row) t known is = is
document_stays (change.Attached row) t known is = is
document_stays (change.Chosen r d p rows) t known is = is
document_stays (change.Froze r revision rows duties changes) t known is = is
document_stays (change.Moved moved) t known is = is
document_stays (change.Withdrew r moved) t known is = is
document_stays (change.Concluded row) t known is = is
document_stays (change.Adopted row) t known is = is

pub last_stays : (change : Change) (t : Tables) (document : Option (ℕ × Profile))
    → IsDocument document t → AreLast
    (record {
      document = document;
      rule = None;
      conclusions = no_conclusions;
      choices = no_choices;
    }) (applied change t)
last_stays change t None is = record { document = tt; rule = tt; conclusions = tt; choices = tt }
last_stays change t (Some known) is = record {
  document = document_stays change t known is;
  rule = tt;
  conclusions = tt;
  choices = tt;
}

number_is : (rows : List DocumentRow) (number : ℕ) (known : ℕ × Profile)
    → option_map known_document (find (is_document number) rows) ≡ Some known → known.0 ≡ number
number_is rows number known is = by_row (find (is_document number) rows) refl is
  where
    by_row : (found : Option DocumentRow) → find (is_document number) rows ≡ found
        → option_map known_document found ≡ Some known → known.0 ≡ number
    by_row None e is = absurd (cc)
    by_row (Some row) e is =
        let own : row.number ≡ number = numbers_equal row.number number
        (found_passes (is_document number) rows row e) in
        let same : known_document row ≡ known = cc in subst (λ k. k.0 ≡ number) same own

-- what was found by a number is found by its own
pub document_is_own : (t : Tables) (number : ℕ) (found : Option (ℕ × Profile))
    → found ≡ option_map known_document (find (is_document number) t.document)
    → IsDocument found t
document_is_own t number None is = tt
document_is_own t number (Some known) is =
    subst (λ n. option_map known_document (find (is_document n) t.document) ≡ Some known)
    (sym (number_is t.document number known (sym is))) (sym is)

-- a rule that was found is the rule for its own term and form
pub rule_is_own : (rules : List Rule) (term form : List ℕ) (rule : Rule)
    → rule_for rules term form ≡ Some rule → rule_for rules rule.term rule.form ≡ Some rule
rule_is_own rules term form rule is =
    let both = and_parts (bytes_eq rule.term term) (bytes_eq rule.form form)
    (found_passes (is_rule term form) rules rule is) in
    subst (λ x. rule_for rules x rule.form ≡ Some rule) (sym (texts_equal rule.term term both.0))
    (subst (λ x. rule_for rules term x ≡ Some rule) (sym (texts_equal rule.form form both.1)) is)
