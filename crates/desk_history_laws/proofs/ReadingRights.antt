-- What each right reading satisfies.
use Rattle.std.proofs.Common.{◌≡◌, ◌∙◌, ℕ, List, Option, Some, None, sym, subst, ap, refl, inl}
use Rattle.std.specs.Prelude.{is_none, IsTrue, Result, Ok, Err}
use Rattle.desk_base.specs.declared.profile.Profile.{Profile}
use Rattle.desk_base.specs.declared.profile.Profile.TheVariants.{Capitals}
use Rattle.desk_expr.specs.Meaning.{IsMinimal}
use Rattle.desk_expr.specs.Printing.{printed_term}
use Rattle.desk_expr.specs.Spelling.{SpellsTermWithin}
use Rattle.desk_expr.specs.Tree.{Tree}
use Rattle.desk_expr.specs.Words.{is_term}
use Rattle.desk_expr.specs.declared.term.Term.{Term}
use Rattle.desk_model.specs.Lists.{IsIn}
use Rattle.desk_model.specs.Readings.{Readings}
use Rattle.desk_model.specs.Texts.{sorted_set}
use Rattle.desk_model.specs.declared.reading.Catalogue.{Catalogue}
use Rattle.desk_model.specs.declared.reading.Rule.{Rule}
use Rattle.desk_model.specs.declared.reading.Verdict.TheVariants.{Minimal}
use Rattle.desk_model.specs.declared.refusal.CatalogueFault.{CatalogueFault}
use Rattle.desk_history.specs.Laws.{ListsInOrder, ListsOnce}
use Rattle.desk_history_laws.specs.Ids.{ListsIds}
use Rattle.desk_catalogue.specs.Reading.{catalogue_of}
use Rattle.desk_catalogue.specs.Terms.{IsTermOf}
use Rattle.desk_catalogue.specs.declared.catalogue.Catalogue.{Catalogue as WholeCatalogue}
use Rattle.desk_texts.specs.Catalogues.{kept_catalogue}
use Rattle.desk_texts.specs.Expressions.{IsExpression}
use Rattle.desk_texts.specs.Right.{AreRight}
use Rattle.desk_texts.specs.Terms.{AreTerms}
use Rattle.desk_history_laws.proofs.ChoiceSets.{minimal_alike, set_spells}
use Rattle.desk_history_laws.specs.Premises.{ReadsRules}
use Rattle.desk_history_laws.specs.ChoicePremises.{ReadsChoices}
use Rattle.desk_history_laws.proofs.Printed.{spells_itself}
use Rattle.desk_history_laws.proofs.Spelled.{rule_spells}

-- ---- rules

-- what the desk keeps of a catalogue has its rules
of_whole : (read : Result WholeCatalogue CatalogueFault) (catalogue : Catalogue)
    → kept_catalogue read ≡ Ok catalogue
    → (whole : WholeCatalogue) × (read ≡ Ok whole) × (catalogue.rules ≡ whole.rules)
of_whole (Ok whole) catalogue e = let same : record {
  forms = whole.forms;
  rules = whole.rules;
} ≡ catalogue = cc in (whole, refl, ap (λ (c : Catalogue). c.rules) (sym same))
of_whole (Err fault) catalogue e = cc

spelled : (w : Readings) → AreRight w → (text : List ℕ) (catalogue : Catalogue) (rule : Rule)
    → w.catalogue text ≡ Ok catalogue → IsIn rule catalogue.rules
    → w.term rule.spelled ≡ Some rule.term
spelled w right text catalogue rule e m =
    let whole = of_whole (catalogue_of w.term text) catalogue (sym (right.catalogue text) ∙ e) in
    rule_spells w.term text whole.0 whole.1 rule
    (subst (λ (rules : List Rule). IsIn rule rules) whole.2 m)

pub reads_rules : ((w : Readings) → AreRight w → ListsInOrder w)
    → ((w : Readings) → AreRight w → ListsIds w) → (w : Readings) → AreRight w → ReadsRules w
reads_rules in_order ids w right = record {
  in_order = in_order w right;
  ids = ids w right;
  spelled = spelled w right;
}

-- ---- terms

abbrev pub TermsTold : Type 0
TermsTold = (w : Readings) → AreRight w → (text : List ℕ) (t : Term) → SpellsTermWithin text t
    → (w.term text ≡ Some (printed_term t)) × IsTrue (is_term t)

printed_by : TermsTold → (w : Readings) → AreRight w → (text term : List ℕ) (o : Option (List ℕ))
    → IsTermOf text o → o ≡ Some term → w.term term ≡ Some term
printed_by told w right text term None none e = cc
printed_by told w right text term (Some printed) (t, spells, prints) e =
    let same : printed ≡ term = cc in
    let first = told w right text t spells in
    let again = told w right (printed_term t) t (spells_itself text t first.1 spells) in
    subst (λ (u : List ℕ). w.term u ≡ Some u) (prints ∙ same) again.0

printed : TermsTold → (w : Readings) → AreRight w → (text term : List ℕ) → w.term text ≡ Some term
    → w.term term ≡ Some term
printed told w right text term e = printed_by told w right text term (w.term text) (right.term text)
    e

-- ---- expressions

abbrev pub MinimalSets : Type 0
MinimalSets = (w : Readings) → AreRight w
    → (profile : Profile) (text : List ℕ) (words : List (List ℕ))
    → w.verdict profile text words ≡ Minimal
    → (e : Tree) × (ts : List Term) × IsExpression profile text e × AreTerms words ts
    × IsMinimal ts e

sets : MinimalSets → (w : Readings) → AreRight w
    → (profile : Profile) (text : List ℕ) (terms : List (List ℕ))
    → w.verdict profile text terms ≡ Minimal → w.verdict profile text (sorted_set terms) ≡ Minimal
sets minimal w right profile text terms e =
    let of = minimal w right profile text terms e in
    let spells = set_spells terms of.1 of.3 in
    right.verdict profile text (sorted_set terms) Minimal
    (inl (of.0, spells.0, of.2, spells.1, minimal_alike of.1 spells.0 of.0 spells.2 of.4))

abbrev pub NoFault : Type 0
NoFault = (w : Readings) → AreRight w → (profile : Profile) (text : List ℕ)
    → w.is_expression profile text ≡ is_none (w.expression_fault profile text)

pub reads_choices : TermsTold → MinimalSets → NoFault → ((w : Readings) → AreRight w → ListsOnce w)
    → (w : Readings) → AreRight w → ReadsChoices w
reads_choices told minimal no_fault once w right = record {
  faultless = λ text e. no_fault w right Capitals text ∙ ap is_none e;
  printed = printed told w right;
  sets = sets minimal w right;
  packages = (let lists = once w right in lists.packages);
}
