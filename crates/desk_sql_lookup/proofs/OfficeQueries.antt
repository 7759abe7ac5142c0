-- What is shown of conclusions, adoptions and rules.
use Rattle.std.proofs.Common.{◌≡◌, ℕ, true, List, [], ◌∷◌, filter, codes, refl}
use Rattle.std.specs.Prelude.{◌&&◌, ◌==◌, bytes_eq}
use Rattle.sqlite_value.specs.declared.value.Value.TheVariants.{Text}
use Rattle.std.proofs.lemmas.Bool.{and_parts}
use Rattle.desk_base.proofs.Numbers.{numbers_equal}
use Rattle.desk_base.proofs.Texts.{texts_equal}
use Rattle.sqlite_sql.specs.Term.{col}
use Rattle.sqlite_tied.specs.Compute.{everything}
use Rattle.desk_sql_layout.specs.Shown.{is_conclusion_in, text_cells}
use Rattle.desk_model.specs.Keys.{is_adoption, is_adoption_in, is_conclusion, is_rule_at}
use Rattle.desk_model.specs.declared.row.AdoptionRow.{AdoptionRow}
use Rattle.desk_model.specs.declared.row.ConclusionRow.{ConclusionRow}
use Rattle.desk_model.specs.declared.row.RuleRow.{RuleRow}
use Rattle.desk_sql_layout.specs.Cells.{conclusion_cells, number, rule_cells}
use Rattle.desk_sql_layout.proofs.Casts.{same}
use Rattle.desk_sql_layout.proofs.Finding.{FindsRows, finds_all, finds_one}
use Rattle.desk_sql_layout.proofs.Keyed.{adoptions_sorted, conclusions_sorted}
use Rattle.desk_sql_layout.proofs.Selecting.{IsSelect}
use Rattle.desk_sql_layout.proofs.Selects.{order_by}
use Rattle.desk_sql_layout.proofs.Tests.{equals, last_text_test, number_test, number_text_key, number_then, text_then}
use Rattle.desk_sql_layout.proofs.Views.{
  adoption_apart,
  adoption_view,
  conclusion_apart,
  conclusion_view,
  rule_apart,
  rule_view,
}

-- ---- what the office concluded for a package

abbrev pub conclusion_text : List ℕ
conclusion_text = codes
    "SELECT expression FROM conclusion WHERE document = ?1 AND package = ?2 ORDER BY document, package"

conclusion_is : IsSelect conclusion_text 2 10 (same 1 0 ∷ same 2 1 ∷ [])
    (col 1 3 ∷ []) (order_by (1 ∷ 2 ∷ []))
    (codes "expression" ∷ [])
unfolding everything
conclusion_is = record {
  from = λ at not_null. (refl, refl, refl);
  is = λ at not_null. record { is = refl; plain = (refl, refl); suits = (refl, refl) };
}

pub conclusion_finds : (document : ℕ) (id : List ℕ)
    → FindsRows conclusion_text (number document ∷ Text id ∷ [])
    (λ (x : ConclusionRow). text_cells x.expression)
    (λ t. filter (is_conclusion document id) t.conclusion)
conclusion_finds document id =
    finds_one conclusion_view (1 ∷ 2 ∷ []) conclusion_is (number document ∷ Text id ∷ []) refl refl
    (equals ((0, number document) ∷ (1, Text id) ∷ []))
    (0 ∷ 1 ∷ []) (2 ∷ []) (λ r. refl) (λ r. refl) (is_conclusion document id)
    (λ x. number_then x.document document (last_text_test x.package_id id))
    conclusion_apart (number document ∷ Text id ∷ [])
    (λ x. number_text_key x.document document x.package_id id)

-- ---- the licence as which a reference is adopted

abbrev pub adoption_text : List ℕ
adoption_text = codes
    "SELECT licence FROM adoption WHERE document = ?1 AND reference = ?2 ORDER BY document, reference"

adoption_is : IsSelect adoption_text 2 12 (same 1 0 ∷ same 2 1 ∷ []) (col 1 3 ∷ [])
    (order_by (1 ∷ 2 ∷ []))
    (codes "licence" ∷ [])
unfolding everything
adoption_is = record {
  from = λ at not_null. (refl, refl, refl);
  is = λ at not_null. record { is = refl; plain = (refl, refl); suits = (refl, refl) };
}

pub adoption_finds : (document : ℕ) (reference : List ℕ)
    → FindsRows adoption_text (number document ∷ Text reference ∷ [])
    (λ (x : AdoptionRow). text_cells x.licence)
    (λ t. filter (is_adoption document reference) t.adoption)
adoption_finds document reference =
    finds_one adoption_view (1 ∷ 2 ∷ []) adoption_is (number document ∷ Text reference ∷ []) refl
    refl (equals ((0, number document) ∷ (1, Text reference) ∷ []))
    (0 ∷ 1 ∷ []) (2 ∷ []) (λ r. refl) (λ r. refl) (is_adoption document reference)
    (λ x. number_then x.document document (last_text_test x.reference reference))
    adoption_apart (number document ∷ Text reference ∷ [])
    (λ x. number_text_key x.document document x.reference reference)

-- ---- what the office concluded for the packages of a document

abbrev pub conclusions_text : List ℕ
conclusions_text = codes
    "SELECT document, package, expression FROM conclusion WHERE document = ?1 ORDER BY document, package"

conclusions_is : IsSelect conclusions_text 1 10 (same 1 0 ∷ [])
    (col 1 1 ∷ col 1 2 ∷ col 1 3 ∷ []) (order_by (1 ∷ 2 ∷ []))
    (codes "document" ∷ codes "package" ∷ codes "expression" ∷ [])
unfolding everything
conclusions_is = record {
  from = λ at not_null. (refl, refl, refl);
  is = λ at not_null. record { is = refl; plain = (refl, refl); suits = (refl, refl) };
}

pub conclusions_finds : (document : ℕ) → FindsRows conclusions_text (number document ∷ [])
    conclusion_cells (λ t. filter (is_conclusion_in document) t.conclusion)
conclusions_finds document =
    finds_all conclusion_view (1 ∷ 2 ∷ []) conclusions_is (number document ∷ []) refl refl
    (equals ((0, number document) ∷ []))
    (0 ∷ 1 ∷ []) (0 ∷ 1 ∷ 2 ∷ []) (λ r. refl) (λ r. refl) (is_conclusion_in document)
    (λ x. number_test x.document document)
    conclusion_apart (λ t orderly. conclusions_sorted t.conclusion orderly.sorted.conclusion)

-- ---- the references of a document that are adopted

abbrev pub references_text : List ℕ
references_text = codes
    "SELECT reference FROM adoption WHERE document = ?1 ORDER BY document, reference"

references_is : IsSelect references_text 1 12 (same 1 0 ∷ []) (col 1 2 ∷ []) (order_by (1 ∷ 2 ∷ []))
    (codes "reference" ∷ [])
unfolding everything
references_is = record {
  from = λ at not_null. (refl, refl, refl);
  is = λ at not_null. record { is = refl; plain = (refl, refl); suits = (refl, refl) };
}

pub references_finds : (document : ℕ) → FindsRows references_text (number document ∷ [])
    (λ (x : AdoptionRow). text_cells x.reference) (λ t. filter (is_adoption_in document) t.adoption)
references_finds document =
    finds_all adoption_view (1 ∷ 2 ∷ []) references_is (number document ∷ []) refl refl
    (equals ((0, number document) ∷ []))
    (0 ∷ 1 ∷ []) (1 ∷ []) (λ r. refl) (λ r. refl) (is_adoption_in document)
    (λ x. number_test x.document document)
    adoption_apart (λ t orderly. adoptions_sorted t.adoption orderly.sorted.adoption)

-- ---- the rule for a term and a form

abbrev pub rule_text : List ℕ
rule_text = codes
    "SELECT revision, term, form, spelled, codes FROM rule WHERE revision = ?1 AND term = ?2 AND form = ?3 ORDER BY revision, term, form"

rule_is : IsSelect rule_text 3 2 (same 1 0 ∷ same 2 1 ∷ same 3 2 ∷ [])
    (col 1 1 ∷ col 1 2 ∷ col 1 3 ∷ col 1 4 ∷ col 1 5 ∷ []) (order_by (1 ∷ 2 ∷ 3 ∷ []))
    (codes "revision" ∷ codes "term" ∷ codes "form" ∷ codes "spelled" ∷ codes "codes" ∷ [])
unfolding everything
rule_is = record {
  from = λ at not_null. (refl, refl, refl);
  is = λ at not_null. record { is = refl; plain = (refl, refl); suits = (refl, refl) };
}

rule_key : (revision : ℕ) (term form : List ℕ) (x : RuleRow)
    → is_rule_at revision term form x ≡ true
    → (number x.revision ∷ Text x.term ∷ Text x.form ∷ [])
    ≡ (number revision ∷ Text term ∷ Text form ∷ [])
rule_key revision term form x h =
    let a = and_parts (x.revision == revision) (bytes_eq x.term term && bytes_eq x.form form) h in
    let b = and_parts (bytes_eq x.term term) (bytes_eq x.form form) a.1 in
    rw (
      numbers_equal x.revision revision a.0,
      texts_equal x.term term b.0,
      texts_equal x.form form b.1,
    )
    refl

pub rule_finds : (revision : ℕ) (term form : List ℕ)
    → FindsRows rule_text (number revision ∷ Text term ∷ Text form ∷ [])
    rule_cells (λ t. filter (is_rule_at revision term form) t.rule)
rule_finds revision term form =
    finds_one rule_view (1 ∷ 2 ∷ 3 ∷ []) rule_is (number revision ∷ Text term ∷ Text form ∷ []) refl
    refl (equals ((0, number revision) ∷ (1, Text term) ∷ (2, Text form) ∷ []))
    (0 ∷ 1 ∷ 2 ∷ []) (0 ∷ 1 ∷ 2 ∷ 3 ∷ 4 ∷ []) (λ r. refl) (λ r. refl)
    (is_rule_at revision term form)
    (λ x. number_then x.revision revision (text_then x.term term (last_text_test x.form form)))
    rule_apart (number revision ∷ Text term ∷ Text form ∷ []) (rule_key revision term form)
