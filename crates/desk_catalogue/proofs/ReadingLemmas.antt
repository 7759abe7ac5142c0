-- The parts of a catalogue, put together.
use Rattle.std.proofs.Common.{◌≡◌, ◌∙◌, ℕ, Bool, cond, List, [], length, Option, Some, Result, Ok, Err, sym, ap, subst}
use Rattle.std.specs.Prelude.{IfOk, codes}
use Rattle.std.specs.Option.{ok_or}
use Rattle.toml.specs.Data.{Data, get_member, Members}
use Rattle.toml.specs.View.{items_view}
use Rattle.toml.specs.declared.value.Value.{Value}
use Rattle.desk_model.specs.declared.reading.Rule.{Rule}
use Rattle.desk_model.specs.declared.refusal.CatalogueFault.{CatalogueFault}
use Rattle.desk_model.specs.declared.refusal.CatalogueFault.TheVariants.{BadKind, BadTerm}
use Rattle.desk_model.specs.declared.refusal.CataloguePart.TheVariants as part
use Rattle.desk_catalogue.specs.declared.catalogue.Catalogue.{Catalogue}
use Rattle.desk_catalogue.specs.declared.catalogue.LicenceText.{LicenceText}
use Rattle.desk_catalogue.specs.Terms.{licence_of}
use Rattle.desk_catalogue.specs.Reading.{Read, each, with_form, is_form_count, forms_listed}
use Rattle.desk_catalogue.specs.Reading.{forms_of, duties_of, rules_of, licence_texts_of, RuleTexts}
use Rattle.desk_catalogue.specs.Reading.{rule_written, rule_of, rule_at, catalogue_of_table}
use Rattle.desk_catalogue.specs.Shown.{Gives, codes_in, rules_in}
use Rattle.desk_catalogue.specs.declared.order.Said.{Said}
use Rattle.desk_catalogue.specs.declared.order.Subject.{Subject}
use Rattle.std.specs.BTreeMap.{BTreeMap}
use Rattle.std.specs.BTreeSet.{BTreeSet}
use denote.Ref.{Bor}
use Rattle.desk_catalogue.proofs.EntryLemmas.{count-items_view}
use Rattle.desk_base.specs.Results.{then_read}

-- ---- along an equation

pub if_ok_along : {A E : Type 0} (r : Result A E) (x y : A) → x ≡ y → IfOk r (λ a. a ≡ x)
    → IfOk r (λ a. a ≡ y)
if_ok_along (Ok a) x y e h = h ∙ e
if_ok_along (Err f) x y e h = h

pub gives_along : {A B E : Type 0} (r : Result (Result A CatalogueFault) E) (x y : Read B)
    (show : A → B) → x ≡ y → IfOk r (Gives x show) → IfOk r (Gives y show)
gives_along r x y show e h = subst (λ z. IfOk r (Gives z show)) e h

-- ---- how many forms there are

pub forms_counted : (vs : List Value) (b : Bool) → is_form_count (length vs) ≡ b
    → cond b (each with_form [] 0 (items_view vs)) (Err (BadKind part.Forms 0))
    ≡ forms_listed (Some (items_view vs))
forms_counted vs b is =
    sym (ap (λ n. cond (is_form_count n) (each with_form [] 0 (items_view vs))
    (Err (BadKind part.Forms 0))) (count-items_view vs)
    ∙ ap (λ c. cond c (each with_form [] 0 (items_view vs)) (Err (BadKind part.Forms 0))) is)

-- ---- a rule

pub rule_found : (terms : List ℕ → Option (List ℕ)) (forms duties : List (List ℕ)) (index : ℕ)
    (d : Data) (texts : RuleTexts) (term : List ℕ) → rule_written index d ≡ Ok texts
    → Some term ≡ licence_of terms texts.term
    → rule_of forms duties index texts term ≡ rule_at terms forms duties index d
rule_found terms forms duties index d texts term written is =
    sym (ap (λ r. then_read r (λ ts. then_read
    (ok_or (licence_of terms ts.term) (BadTerm part.Rule index)) (rule_of forms duties index ts)))
    written
    ∙ ap (λ o. then_read (ok_or o (BadTerm part.Rule index)) (rule_of forms duties index texts))
    (sym is))

-- ---- the whole

abbrev whole : List (List ℕ) → List Rule → List LicenceText → Catalogue
whole forms rules texts = record { forms = forms; rules = rules; texts = texts }

module _ (terms : List ℕ → Option (List ℕ)) (ms : Members) (forms : List (List ℕ))
    (set : BTreeSet (Bor (List ℕ))) {read_forms : Result (List (List ℕ)) CatalogueFault}
    {read_duties : Result (BTreeSet (Bor (List ℕ))) CatalogueFault}
    (forms_are : read_forms ≡ Ok forms)
    (gives_forms : Gives (forms_of (get_member (codes "forms") ms)) (λ forms. forms) read_forms)
    (duties_are : read_duties ≡ Ok set)
    (gives_duties : Gives (duties_of (get_member (codes "duty") ms)) codes_in read_duties) where
  abbrev duties : List (List ℕ)
  duties = codes_in set

  abbrev rules : Read (List Rule)
  rules = rules_of terms forms duties (get_member (codes "rule") ms)

  abbrev texts : Read (List LicenceText)
  texts = licence_texts_of (get_member (codes "text") ms)

  by_rules : catalogue_of_table terms ms
      ≡ then_read rules (λ rs. then_read texts (λ ts. Ok (whole forms rs ts)))
  by_rules =
      ap (λ r. then_read r (λ fs. then_read (duties_of (get_member (codes "duty") ms))
      (λ ds. then_read (rules_of terms fs ds (get_member (codes "rule") ms))
      (λ rs. then_read texts (λ ts. Ok (whole fs rs ts))))))
      (subst (Gives (forms_of (get_member (codes "forms") ms)) (λ forms. forms)) forms_are
      gives_forms)
      ∙ ap (λ r. then_read r (λ ds. then_read
      (rules_of terms forms ds (get_member (codes "rule") ms))
      (λ rs. then_read texts (λ ts. Ok (whole forms rs ts)))))
      (subst (Gives (duties_of (get_member (codes "duty") ms)) codes_in) duties_are gives_duties)

  pub rules_fail : {read : Result (BTreeMap Subject Said) CatalogueFault} (fault : CatalogueFault)
      → read ≡ Err fault → Gives rules rules_in read → Err fault ≡ catalogue_of_table terms ms
  rules_fail fault fails gives = sym (by_rules
      ∙ ap (λ r. then_read r (λ rs. then_read texts (λ ts. Ok (whole forms rs ts))))
      (subst (Gives rules rules_in) fails gives))

  module _ (said : BTreeMap Subject Said)
      {read_rules : Result (BTreeMap Subject Said) CatalogueFault}
      (rules_are : read_rules ≡ Ok said) (gives_rules : Gives rules rules_in read_rules) where
    by_texts : catalogue_of_table terms ms
        ≡ then_read texts (λ ts. Ok (whole forms (rules_in said) ts))
    by_texts = by_rules ∙ ap (λ r. then_read r
        (λ rs. then_read texts (λ ts. Ok (whole forms rs ts))))
        (subst (Gives rules rules_in) rules_are gives_rules)

    pub texts_fail : {read : Result (List LicenceText) CatalogueFault} (fault : CatalogueFault)
        → read ≡ Err fault → Gives texts (λ texts. texts) read
        → Err fault ≡ catalogue_of_table terms ms
    texts_fail fault fails gives = sym (by_texts
        ∙ ap (λ r. then_read r (λ ts. Ok (whole forms (rules_in said) ts)))
        (subst (Gives texts (λ texts. texts)) fails gives))

    pub catalogue_found : {read : Result (List LicenceText) CatalogueFault} (ts : List LicenceText)
        → read ≡ Ok ts → Gives texts (λ texts. texts) read
        → Ok (whole forms (rules_in said) ts) ≡ catalogue_of_table terms ms
    catalogue_found ts texts_are gives = sym (by_texts
        ∙ ap (λ r. then_read r (λ ts. Ok (whole forms (rules_in said) ts)))
        (subst (Gives texts (λ texts. texts)) texts_are gives))
