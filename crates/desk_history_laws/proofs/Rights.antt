-- Right readings: there is one, and all say the same.
use Rattle.std.proofs.Common.{◌≡◌, ◌∙◌, ◌⊎◌, inl, inr, ℕ, List, [], ◌∷◌, Option, Some, None, sym, subst, ap, arith}
use Rattle.std.specs.Prelude.{Contains, Result, is_none}
use Rattle.desk_expr.specs.declared.term.Term.{Term}
use Rattle.desk_expr.specs.Tree.{Tree}
use Rattle.desk_expr.specs.Meaning.{Holds, CanGo, IsFirst, IsMinimal}
use Rattle.desk_alts.proofs.Texts.{tree_of_text}
use Rattle.desk_alts.proofs.Verdicts as choices
use Rattle.desk_alts.proofs.Needed.{spelled_needs}
use Rattle.desk_alts.proofs.Minimal.{holds_more}
use Rattle.desk_findings.proofs.EachDocument.{each_document}
use Rattle.desk_model.specs.Readings.{Readings}
use Rattle.desk_base.specs.declared.profile.Profile.{Profile}
use Rattle.desk_model.specs.declared.refusal.ExpressionFault.{ExpressionFault}
use Rattle.desk_model.specs.declared.reading.Verdict.{Verdict}
use Rattle.desk_model.specs.declared.reading.Verdict.TheVariants.{NotEnough, Superfluous, Minimal}
use Rattle.desk_catalogue.specs.Reading.{catalogue_of}
use Rattle.desk_texts.specs.Catalogues.{kept_catalogue, licence_text_in}
use Rattle.desk_catalogue.proofs.TermsRead.{same_term}
use Rattle.desk_texts.specs.Expressions.{IsExpression, Tells, IsFault, IsVerdict, Judges}
use Rattle.desk_texts.specs.Terms.{AreTerms}
use Rattle.desk_texts.specs.Right.{AreRight}
use Rattle.desk_history_laws.proofs.Findings.{rows_exist}
use Rattle.desk_history_laws.proofs.Ships.{something_kept}
use Rattle.desk_texts.specs.Listings.{Lists, HasTerms, Prices}
use Rattle.desk_model.specs.declared.reading.Cheapest.{Cheapest}
use Rattle.desk_model.specs.declared.reading.ListFault.{ListFault}
use Rattle.desk_history_laws.proofs.Reading.{standard, standard_is_right, judged, told, faulted}
use Rattle.desk_history_laws.proofs.Reading.{faulted_once, sets, own_terms, price}

verdict_by : (e : Tree) (ts : List Term)
    → (Holds (Contains ts) e → ⊥)
    ⊎ ((Holds (Contains ts) e × (i : ℕ) × IsFirst (CanGo ts e) i) ⊎ IsMinimal ts e)
    → (v : Verdict) × IsVerdict e ts v
verdict_by e ts (inl none) = (NotEnough, none)
verdict_by e ts (inr (inl (holds, i, first))) = (Superfluous i, first)
verdict_by e ts (inr (inr minimal)) = (Minimal, minimal)

verdict_of : (e : Tree) (ts : List Term) → (v : Verdict) × IsVerdict e ts v
verdict_of e ts = verdict_by e ts (choices.verdict e ts)

pub right_reading : (w : Readings) × AreRight w
right_reading = (
  standard tree_of_text verdict_of each_document,
  standard_is_right tree_of_text verdict_of each_document,
)

-- what a value and texts are judged to be
abbrev judgement : (profile : Profile) (text : List ℕ) (words : List (List ℕ))
    → (v : Verdict) × Judges profile text words v
judgement profile text words = judged tree_of_text verdict_of each_document profile text words

-- what is judged minimal is a minimal set
minimal_by : (profile : Profile) (text : List ℕ) (words : List (List ℕ))
    → Judges profile text words Minimal
    → (e : Tree) × (ts : List Term) × IsExpression profile text e × AreTerms words ts
    × IsMinimal ts e
minimal_by profile text words (inl (e, ts, is, are, minimal)) = (e, ts, is, are, minimal)
minimal_by profile text words (inr (none, is)) = cc

pub minimal_choice : (w : Readings) → AreRight w
    → (profile : Profile) (text : List ℕ) (words : List (List ℕ))
    → w.verdict profile text words ≡ Minimal
    → (e : Tree) × (ts : List Term) × IsExpression profile text e × AreTerms words ts
    × IsMinimal ts e
minimal_choice w right profile text words is =
    let found = judgement profile text words in
    minimal_by profile text words
    (subst (Judges profile text words) (sym (right.verdict profile text words found.0 found.1) ∙ is)
    found.1)

-- an empty list of terms is minimal for no spelled expression
none_is_minimal : (profile : Profile) (text : List ℕ)
    → (e : Tree) × (ts : List Term) × IsExpression profile text e × AreTerms [] ts × IsMinimal ts e
    → ⊥
none_is_minimal profile text (e, [], is, are, minimal) = spelled_needs profile text e is.1
    (holds_more (Contains []) (λ t. ⊥) (λ t (c : Contains [] t). absurd (omega (arith, c.1))) e
    minimal.0)
none_is_minimal profile text (e, _ ∷ _, is, are, minimal) = elim are [ ]

pub some_chosen : (w : Readings) → AreRight w → (profile : Profile) (text : List ℕ)
    → w.verdict profile text [] ≡ Minimal → ⊥
some_chosen w right profile text is = none_is_minimal profile text
    (minimal_choice w right profile text [] is)

-- all right readings say the same

pub same_terms_told : (v w : Readings) → AreRight v → AreRight w → (text : List ℕ)
    → v.term text ≡ w.term text
same_terms_told v w a b text = same_term text (v.term text) (w.term text) (a.term text)
    (b.term text)

pub same_catalogue : (v w : Readings) → AreRight v → AreRight w → (text : List ℕ)
    → v.catalogue text ≡ w.catalogue text
same_catalogue v w a b text = a.catalogue text
    ∙ (ap (λ terms. kept_catalogue (catalogue_of terms text)) (λ i t. same_terms_told v w a b t i)
    ∙ sym (b.catalogue text))

pub same_document : (v w : Readings) → AreRight v → AreRight w → (bytes : List ℕ)
    → v.document bytes ≡ w.document bytes
same_document v w a b bytes =
    let read = each_document bytes in
    let kept = something_kept read.0 in
    a.document bytes read.0 kept.0 read.1 kept.1
    ∙ sym (b.document bytes read.0 kept.0 read.1 kept.1)

pub same_findings : (v w : Readings) → AreRight v → AreRight w
    → (profile : Profile) (bytes : List ℕ) → v.findings profile bytes ≡ w.findings profile bytes
same_findings v w a b profile bytes =
    let read = each_document bytes in
    let rows = rows_exist profile read.0 in
    a.findings profile bytes read.0 rows.0 read.1 rows.1
    ∙ sym (b.findings profile bytes read.0 rows.0 read.1 rows.1)

pub same_verdict : (v w : Readings) → AreRight v → AreRight w
    → (profile : Profile) (text : List ℕ) (words : List (List ℕ))
    → v.verdict profile text words ≡ w.verdict profile text words
same_verdict v w a b profile text words =
    let found = judgement profile text words in
    a.verdict profile text words found.0 found.1
    ∙ sym (b.verdict profile text words found.0 found.1)

pub same_reference : (v w : Readings) → AreRight v → AreRight w → (term : List ℕ)
    → v.reference term ≡ w.reference term
same_reference v w a b term = a.reference term ∙ sym (b.reference term)

pub same_expression : (v w : Readings) → AreRight v → AreRight w
    → (profile : Profile) (text : List ℕ)
    → v.is_expression profile text ≡ w.is_expression profile text
same_expression v w a b profile text =
    let found = told tree_of_text verdict_of each_document profile text in
    a.expression profile text found.0 found.1 ∙ sym (b.expression profile text found.0 found.1)

pub same_licence : (v w : Readings) → AreRight v → AreRight w → (term : List ℕ)
    → v.is_licence term ≡ w.is_licence term
same_licence v w a b term = a.licence term ∙ sym (b.licence term)

pub same_adopted : (v w : Readings) → AreRight v → AreRight w → (licence term : List ℕ)
    → v.adopted_as licence term ≡ w.adopted_as licence term
same_adopted v w a b licence term = a.adopted licence term ∙ sym (b.adopted licence term)

pub same_licence_id : (v w : Readings) → AreRight v → AreRight w → (term : List ℕ)
    → v.licence_id term ≡ w.licence_id term
same_licence_id v w a b term = a.licence_id term ∙ sym (b.licence_id term)

pub same_exception : (v w : Readings) → AreRight v → AreRight w → (term : List ℕ)
    → v.exception term ≡ w.exception term
same_exception v w a b term = a.exception term ∙ sym (b.exception term)

pub same_licence_text : (v w : Readings) → AreRight v → AreRight w → (text id : List ℕ)
    → v.licence_text text id ≡ w.licence_text text id
same_licence_text v w a b text id =
    a.licence_text text id ∙ (ap (λ terms. licence_text_in (catalogue_of terms text) id)
    (λ i t. same_terms_told v w a b t i) ∙ sym (b.licence_text text id))

pub same_fault : (v w : Readings) → AreRight v → AreRight w → (profile : Profile) (text : List ℕ)
    → v.expression_fault profile text ≡ w.expression_fault profile text
same_fault v w a b profile text =
    let found = faulted profile text in
    a.fault profile text found.0 found.1 ∙ sym (b.fault profile text found.0 found.1)

-- a value is an expression if it has no fault
told_by_fault : (profile : Profile) (text : List ℕ) (f : Option ExpressionFault)
    → IsFault profile text f → Tells profile text (is_none f)
told_by_fault profile text None is = is
told_by_fault profile text (Some f) is = λ e expression. none e expression is
  where
    none : (e : Tree) → IsExpression profile text e → IsFault profile text (Some f) → ⊥
    none e expression is = let same = faulted_once profile text None (Some f) (e, expression) is in
        cc

pub expression_or_fault : (w : Readings) → AreRight w → (profile : Profile) (text : List ℕ)
    → w.is_expression profile text ≡ is_none (w.expression_fault profile text)
expression_or_fault w right profile text =
    let found = faulted profile text in
    right.expression profile text (is_none found.0) (told_by_fault profile text found.0 found.1)
    ∙ ap is_none (sym (right.fault profile text found.0 found.1))

-- what a right reading lists, and its cheapest sets

found_sets : (profile : Profile) (text : List ℕ)
    → (r : Result (List (List (List ℕ))) ListFault) × Lists profile text r
found_sets profile text = sets tree_of_text verdict_of each_document profile text

found_terms : (profile : Profile) (text : List ℕ)
    → (terms : List (List ℕ)) × HasTerms profile text terms
found_terms profile text = own_terms tree_of_text verdict_of each_document profile text

found_price : (profile : Profile) (text : List ℕ) (cost : List ℕ → Option ℕ)
    → (r : Result (Option Cheapest) ListFault) × Prices profile text cost r
found_price profile text cost = price tree_of_text verdict_of each_document profile text cost

pub same_alternatives : (v w : Readings) → AreRight v → AreRight w
    → (profile : Profile) (text : List ℕ)
    → v.alternatives profile text ≡ w.alternatives profile text
same_alternatives v w a b profile text =
    let found = found_sets profile text in
    a.alternatives profile text found.0 found.1 ∙ sym (b.alternatives profile text found.0 found.1)

pub same_listed_terms : (v w : Readings) → AreRight v → AreRight w
    → (profile : Profile) (text : List ℕ) → v.terms profile text ≡ w.terms profile text
same_listed_terms v w a b profile text =
    let found = found_terms profile text in
    a.terms profile text found.0 found.1 ∙ sym (b.terms profile text found.0 found.1)

pub same_cheapest : (v w : Readings) → AreRight v → AreRight w
    → (profile : Profile) (text : List ℕ) (cost : List ℕ → Option ℕ)
    → v.cheapest profile text cost ≡ w.cheapest profile text cost
same_cheapest v w a b profile text cost =
    let found = found_price profile text cost in
    a.cheapest profile text cost found.0 found.1
    ∙ sym (b.cheapest profile text cost found.0 found.1)

pub lists_all : (w : Readings) → AreRight w → (profile : Profile) (text : List ℕ)
    → Lists profile text (w.alternatives profile text)
lists_all w right profile text =
    let found = found_sets profile text in
    subst (Lists profile text) (sym (right.alternatives profile text found.0 found.1)) found.1

pub is_least : (w : Readings) → AreRight w
    → (profile : Profile) (text : List ℕ) (cost : List ℕ → Option ℕ)
    → Prices profile text cost (w.cheapest profile text cost)
is_least w right profile text cost =
    let found = found_price profile text cost in
    subst (Prices profile text cost) (sym (right.cheapest profile text cost found.0 found.1))
    found.1
