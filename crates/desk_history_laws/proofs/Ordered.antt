-- A right reading lists rules, codes, packages and references in order.
use Rattle.std.proofs.Common.{◌≡◌, ◌∙◌, ℕ, Bool, true, List, [], ◌∷◌, map, sym, subst, ap, refl, inl, inr, Less}
use Rattle.std.proofs.lemmas.Simd.{map-map}
use Rattle.std.specs.Prelude.{Result, Ok, Err}
use Rattle.std.specs.List.{AllByRecursion}
use Rattle.std.specs.List.Sorted.{IsStrictlySortedBy}
use Rattle.std.specs.Ordering.{is_lt}
use Rattle.desk_fields.specs.declared.fault.DocFault.{DocFault}
use Rattle.desk_model.specs.Keys.{below_by, rule_order}
use Rattle.desk_model.specs.Lists.{IsIn}
use Rattle.desk_model.specs.Readings.{Readings}
use Rattle.desk_model.specs.Texts.{text_below, sorted_set}
use Rattle.desk_model.specs.declared.reading.Catalogue.{Catalogue}
use Rattle.desk_model.specs.declared.reading.Document.{Document}
use Rattle.desk_model.specs.declared.reading.Reference.{Reference}
use Rattle.desk_model.specs.declared.reading.Rule.{Rule}
use Rattle.desk_history.specs.Laws as law
use Rattle.desk_history.specs.Laws.{ListsInOrder, package_below, reference_below}
use Rattle.desk_history.proofs.Members.{in_map}
use Rattle.desk_catalogue.specs.Reading.{catalogue_of}
use Rattle.desk_catalogue.proofs.OrderLaws.{rules_sorted}
use Rattle.desk_findings.proofs.EachDocument.{each_document}
use Rattle.desk_tagvalue.specs.Parts.{DocumentText, PackageText, ExtractedText}
use Rattle.desk_texts.specs.Documents.{sorted_by, marked, package_of, reference_of, document_of, Keeps}
use Rattle.desk_texts.specs.Rising.{Rises}
use Rattle.desk_texts.specs.Right.{AreRight}
use Rattle.desk_history_laws.proofs.Once.{rises_sorted, sorted-same, id_in, id_of, HasSet}
use Rattle.desk_history_laws.proofs.Once.{catalogue_has, of_whole}
use Rattle.desk_history_laws.proofs.ReadRules.{each_in}
use Rattle.desk_history_laws.proofs.Ships.{something_kept}

-- what is sorted by its ids
by_ids : {A : Type 0} (id : A → List ℕ) (xs : List A) → Rises (map id xs)
    → law.Rises (λ a b. text_below (id a) (id b)) xs
by_ids id [] up = tt
by_ids id (x ∷ xs) up = (
  λ y m. each_in (λ t. text_below (id x) t ≡ true) (id y) (map id xs) (in_map id y xs m) up.0,
  by_ids id xs up.1,
)

-- ---- packages and references

packages_rise : (ps : List (PackageText × Bool))
    → law.Rises package_below (map package_of (sorted_by id_in ps))
packages_rise ps = by_ids id_of (map package_of (sorted_by id_in ps))
    (subst Rises (sym (map-map id_of package_of (sorted_by id_in ps))) (rises_sorted id_in ps))

abbrev named : ExtractedText → List ℕ
named x = x.id

abbrev id_of_reference : Reference → List ℕ
id_of_reference x = x.id

references_rise : (xs : List ExtractedText)
    → law.Rises reference_below (map reference_of (sorted_by named xs))
references_rise xs = by_ids id_of_reference (map reference_of (sorted_by named xs))
    (subst Rises (sym (map-map id_of_reference reference_of (sorted_by named xs)))
    (rises_sorted named xs))

abbrev Listed : Document → Type 0
Listed d = law.Rises package_below d.packages × law.Rises reference_below d.references

of_document : (read : Result DocumentText DocFault) (document : Document) → Keeps read (Ok document)
    → Listed document
of_document (Ok d) document (marks, are, e) =
    let same : document ≡ document_of marks d = cc in
    subst Listed (sym same) (packages_rise (marked d.packages marks), references_rise d.extracted)
of_document (Err f) document e = absurd (cc)

document_listed : (w : Readings) → AreRight w → (bytes : List ℕ) (document : Document)
    → w.document bytes ≡ Ok document → Listed document
document_listed w right bytes document e =
    let read = each_document bytes in
    let kept = something_kept read.0 in
    of_document read.0 document (subst (Keeps read.0)
    (sym (right.document bytes read.0 kept.0 read.1 kept.1) ∙ e) kept.1)

-- ---- rules and codes

all_in : {A : Type 0} (P : A → Type 0) (x : A) (xs : List A) → IsIn x xs → AllByRecursion P xs → P x
all_in P x [] m all = absurd m
all_in P x (y ∷ ys) m all = elim m [ inl same ↦ subst P same all.0 | inr n ↦ all_in P x ys n all.1 ]

rules_rise : (rules : List Rule) → IsStrictlySortedBy rule_order rules
    → law.Rises (below_by rule_order) rules
unfolding IsStrictlySortedBy
rules_rise [] up = tt
rules_rise (r ∷ rs) up = (
  λ x m. ap is_lt (all_in (λ s. rule_order r s ≡ Less) x rs m up.0),
  rules_rise rs up.1,
)

rules_listed : (w : Readings) → AreRight w → (text : List ℕ) (catalogue : Catalogue)
    → w.catalogue text ≡ Ok catalogue → law.Rises (below_by rule_order) catalogue.rules
rules_listed w right text catalogue e =
    let whole = of_whole (catalogue_of w.term text) catalogue (sym (right.catalogue text) ∙ e) in
    subst (law.Rises (below_by rule_order)) (sym whole.2)
    (rules_rise whole.0.rules (rules_sorted w.term text whole.0 whole.1))

unmapped : (xs : List (List ℕ)) → map (λ x. x) xs ≡ xs
unmapped [] = refl
unmapped (x ∷ xs) = ap (λ l. x ∷ l) (unmapped xs)

set_rises : (texts : List (List ℕ)) → law.Rises text_below (sorted_set texts)
set_rises texts =
    let up : Rises (sorted_set texts) =
    subst Rises (sorted-same texts) (rises_sorted (λ x. x) texts) in
    by_ids (λ x. x) (sorted_set texts) (subst Rises (sym (unmapped (sorted_set texts))) up)

codes_listed : (w : Readings) → AreRight w → (text : List ℕ) (catalogue : Catalogue) (rule : Rule)
    → w.catalogue text ≡ Ok catalogue → IsIn rule catalogue.rules → law.Rises text_below rule.codes
codes_listed w right text catalogue rule e m =
    let whole = of_whole (catalogue_of w.term text) catalogue (sym (right.catalogue text) ∙ e) in
    let set = each_in HasSet rule whole.0.rules (subst (IsIn rule) whole.2 m)
    (catalogue_has w.term text whole.0 whole.1) in
    subst (law.Rises text_below) (sym set.1) (set_rises set.0)

pub lists_in_order : (w : Readings) → AreRight w → ListsInOrder w
lists_in_order w right = record {
  rules = rules_listed w right;
  codes = codes_listed w right;
  packages = λ bytes document e. (document_listed w right bytes document e).0;
  references = λ bytes document e. (document_listed w right bytes document e).1;
}
