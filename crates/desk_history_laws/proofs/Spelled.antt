-- The term of a catalogue's rule is the one that its spelling spells.
use Rattle.std.proofs.Common.{◌≡◌, ℕ, Bool, true, false, List, Option, Some, None, subst, ap}
use Rattle.std.specs.Prelude.{Ok, codes, if◌then◌else◌}
use Rattle.std.specs.Option.{ok_or, option_and_then}
use Rattle.toml.specs.Data.{get_member}
use Rattle.desk_catalogue.proofs.OrderLaws.{rules_read, same_read}
use Rattle.desk_history_laws.proofs.ReadRules.{each_in, each_rule}
use Rattle.desk_texts.specs.Rising.{Each}
use Rattle.desk_catalogue.specs.Reading.{catalogue_of}
use Rattle.desk_catalogue.specs.Terms.{if_licence, licence_of}
use Rattle.desk_catalogue.specs.declared.catalogue.Catalogue.{Catalogue as WholeCatalogue}
use Rattle.desk_tokens.specs.Words.{begins_like_reference}
use Rattle.desk_model.specs.Lists.{IsIn}
use Rattle.desk_model.specs.declared.reading.Rule.{Rule}
use Rattle.desk_model.specs.declared.refusal.CatalogueFault.TheVariants.{BadTerm}
use Rattle.desk_model.specs.declared.refusal.CataloguePart.TheVariants as part

abbrev Spells : (List ℕ → Option (List ℕ)) → Rule → Type 0
Spells terms rule = terms rule.spelled ≡ Some rule.term

-- a printed term that isn't a reference is the term
licence_told : (b : Bool) (printed term : List ℕ) → (if b then None else Some printed) ≡ Some term
    → printed ≡ term
licence_told true printed term e = cc
licence_told false printed term e = cc

told : (o : Option (List ℕ)) (term : List ℕ) → option_and_then if_licence o ≡ Some term
    → o ≡ Some term
told None term e = cc
told (Some printed) term e = ap (λ (t : List ℕ). Some t)
    (licence_told (begins_like_reference printed) printed term e)

found : (o : Option (List ℕ)) (index : ℕ) (term : List ℕ)
    → ok_or o (BadTerm part.Rule index) ≡ Ok term → o ≡ Some term
found None index term e = cc
found (Some t) index term e = ap (λ (u : List ℕ). Some u) (same_read t term e)

rules_spell : (terms : List ℕ → Option (List ℕ)) (text : List ℕ) (catalogue : WholeCatalogue)
    → catalogue_of terms text ≡ Ok catalogue → Each (Spells terms) catalogue.rules
rules_spell terms text catalogue e =
    let read = rules_read terms text catalogue e in
    each_rule (Spells terms) terms read.1 read.2 (get_member (codes "rule") read.0) catalogue.rules
    (λ index rule is. subst (Spells terms) is.is (told (terms is.texts.term) is.term
    (found (licence_of terms is.texts.term) index is.term is.licence))) read.3

pub rule_spells : (terms : List ℕ → Option (List ℕ)) (text : List ℕ) (catalogue : WholeCatalogue)
    → catalogue_of terms text ≡ Ok catalogue → (rule : Rule) → IsIn rule catalogue.rules
    → terms rule.spelled ≡ Some rule.term
rule_spells terms text catalogue e rule m = each_in (Spells terms) rule catalogue.rules m
    (rules_spell terms text catalogue e)
