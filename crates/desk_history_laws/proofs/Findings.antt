-- The findings of a document: there is one list of them, and no other.
use Rattle.std.proofs.Common.{◌≡◌, ◌∙◌, ◌⊎◌, inl, inr, ℕ, ◌<◌, ◌≤◌, List, [], ◌∷◌, length, get_or}
use Rattle.std.proofs.Common.{sym, subst, ap, ap₂, refl, arith, Option, Some, None}
use Rattle.std.proofs.lemmas.Bool.{cases_lt}
use Rattle.std.specs.Prelude.{Result, Ok, Err}
use Rattle.std.specs.Cmp.{IsTotalOrder, nat_cmp_total, on_total, then_total}
use Rattle.std.specs.FinMap.{IsAntisymmetric, nat_cmp-IsAntisymmetric}
use Rattle.std.specs.List.Sorted.{IsPermutation}
use Rattle.std.specs.Ordering.{nat_cmp, ordering_then}
use Rattle.std.proofs.lemmas.List.Sorted.{sum_by-IsPermutation}
use Rattle.desk_base.specs.declared.profile.Profile.{Profile}
use Rattle.desk_base.proofs.Orders.{both_equal}
use Rattle.desk_expr.specs.Tree.{Tree}
use Rattle.desk_expr.specs.Spelling.{SpellsWithinBy}
use Rattle.desk_expr.proofs.ParseLemmas.{one_within}
use Rattle.desk_alts.proofs.Texts.{tree_of_text}
use Rattle.desk_fields.specs.declared.fault.DocFault.{DocFault}
use Rattle.desk_tagvalue.specs.Parts.{DocumentText}
use Rattle.desk_bom.specs.Codes.{IsState}
use Rattle.desk_bom.specs.declared.state.CodeState.{CodeState}
use Rattle.desk_bom.specs.declared.state.CodeState.TheVariants.{Absent}
use Rattle.desk_bom.proofs.OneState.{one_state, one_sorted}
use Rattle.desk_findings.proofs.Ordered.{sorted_list}
use Rattle.desk_findings.proofs.States.{state_exists}
use Rattle.desk_model.specs.declared.finding.Finding.{Finding}
use Rattle.desk_model.specs.declared.finding.FindingKind.{FindingKind}
use Rattle.desk_model.specs.declared.finding.FindingKind.TheVariants as kinds
use Rattle.desk_model.specs.declared.finding.MissingField.{MissingField}
use Rattle.desk_model.specs.declared.finding.MissingField.TheVariants as fields
use Rattle.desk_findings.specs.Fields.{IsRead, IsReading}
use Rattle.desk_findings.specs.Findings.{AreStates, AreFindings, all_findings}
use Rattle.desk_findings.specs.Kinds.{finding_order}
use Rattle.desk_model.specs.FindingKinds.{kind_number, place_in_kind}
use Rattle.desk_texts.specs.Findings.{Finds}

-- ---- the readings of values as expressions

tree_in : (profile : Profile) (text : List ℕ)
    → ((e : Tree) × SpellsWithinBy profile text e)
    ⊎ ((e : Tree) → SpellsWithinBy profile text e → ⊥) → (o : Option Tree) × IsRead profile text o
tree_in profile text (inl (e, spells)) = (Some e, spells)
tree_in profile text (inr none) = (None, none)

reading_exists : (profile : Profile) → (reads : List ℕ → Option Tree) × IsReading profile reads
reading_exists profile = (
  (λ text. (tree_in profile text (tree_of_text profile text)).0),
  (λ text. (tree_in profile text (tree_of_text profile text)).1),
)

read_once : (profile : Profile) (text : List ℕ) (o p : Option Tree) → IsRead profile text o
    → IsRead profile text p → o ≡ p
read_once profile text None None h k = refl
read_once profile text None (Some f) h k = absurd (h f k)
read_once profile text (Some e) None h k = absurd (k e h)
read_once profile text (Some e) (Some f) h k = ap Some (one_within profile text e f h k)

one_reading : (profile : Profile) (r s : List ℕ → Option Tree) → IsReading profile r
    → IsReading profile s → r ≡ s
one_reading profile r s h k = λ i text. read_once profile text (r text) (s text) (h text) (k text) i

-- ---- the states of codes

abbrev state_by : (d : DocumentText) (k : ℕ) → (k < length d.packages) ⊎ (length d.packages ≤ k)
    → CodeState
state_by d k (inl within) = (state_exists d k within).0
state_by d k (inr past) = Absent

state_within : (d : DocumentText) (k : ℕ)
    (where_is : (k < length d.packages) ⊎ (length d.packages ≤ k)) → k < length d.packages
    → IsState d k (state_by d k where_is)
state_within d k (inl within) less = (state_exists d k within).1
state_within d k (inr past) less = absurd (omega (arith, past, less))

state_past : (d : DocumentText) (k : ℕ)
    (where_is : (k < length d.packages) ⊎ (length d.packages ≤ k)) → length d.packages ≤ k
    → state_by d k where_is ≡ Absent
state_past d k (inl within) more = absurd (omega (arith, within, more))
state_past d k (inr past) more = refl

states_exist : (d : DocumentText) → (state : ℕ → CodeState) × AreStates d state
states_exist d = (
  (λ k. state_by d k (cases_lt k (length d.packages))),
  record {
    of_packages = λ k. state_within d k (cases_lt k (length d.packages));
    past_packages = λ k. state_past d k (cases_lt k (length d.packages));
  },
)

same_state : (d : DocumentText) (s t : ℕ → CodeState) → AreStates d s → AreStates d t → (k : ℕ)
    → s k ≡ t k
same_state d s t h j k = elim (cases_lt k (length d.packages)) [
  | inl within ↦ one_state d k (s k) (t k) (h.of_packages k within) (j.of_packages k within)
  | inr past ↦ h.past_packages k past ∙ sym (j.past_packages k past)
]

one_states : (d : DocumentText) (s t : ℕ → CodeState) → AreStates d s → AreStates d t → s ≡ t
one_states d s t h j = λ i k. same_state d s t h j k i

-- ---- the order of findings distinguishes them all

abbrev missing_at : ℕ → MissingField
missing_at place = get_or (fields.DataLicense ∷ fields.Creator ∷ fields.Created
    ∷ fields.DownloadLocation ∷ fields.Checksum ∷ fields.ExtractedText ∷ []) place
    fields.DataLicense

-- the kind with a number, and a place among findings of the kind
abbrev kind_at : ℕ → ℕ → FindingKind
kind_at number place =
    get_or (kinds.UnknownTag ∷ kinds.UnknownTag ∷ kinds.Misplaced ∷ kinds.BadExpression
    ∷ kinds.BadDigest ∷ kinds.BadCode ∷ kinds.CodeDiffers ∷ kinds.CodeUnwanted ∷ kinds.Dangling
    ∷ kinds.MissingField (missing_at place) ∷ kinds.BadFlag ∷ kinds.UndefinedRef ∷ []) number
    kinds.UnknownTag

kind_found : (kind : FindingKind) → kind_at (kind_number kind) (place_in_kind kind) ≡ kind
kind_found kinds.UnknownTag = refl
kind_found kinds.Misplaced = refl
kind_found kinds.BadExpression = refl
kind_found kinds.BadDigest = refl
kind_found kinds.BadCode = refl
kind_found kinds.CodeDiffers = refl
kind_found kinds.CodeUnwanted = refl
kind_found kinds.Dangling = refl
kind_found (kinds.MissingField fields.DataLicense) = refl
kind_found (kinds.MissingField fields.Creator) = refl
kind_found (kinds.MissingField fields.Created) = refl
kind_found (kinds.MissingField fields.DownloadLocation) = refl
kind_found (kinds.MissingField fields.Checksum) = refl
kind_found (kinds.MissingField fields.ExtractedText) = refl
kind_found kinds.BadFlag = refl
kind_found kinds.UndefinedRef = refl

one_kind : (a b : FindingKind) → kind_number a ≡ kind_number b → place_in_kind a ≡ place_in_kind b
    → a ≡ b
one_kind a b number place = sym (kind_found a) ∙ ap₂ kind_at number place ∙ kind_found b

order_tells : IsAntisymmetric finding_order
order_tells a b e =
    let outer = both_equal (ordering_then (nat_cmp a.line b.line)
    (nat_cmp (kind_number a.kind) (kind_number b.kind)))
    (nat_cmp (place_in_kind a.kind) (place_in_kind b.kind)) e in
    let inner = both_equal (nat_cmp a.line b.line)
    (nat_cmp (kind_number a.kind) (kind_number b.kind)) outer.0 in
    let line : a.line ≡ b.line = nat_cmp-IsAntisymmetric a.line b.line inner.0 in
    let kind : a.kind ≡ b.kind = one_kind a.kind b.kind
    (nat_cmp-IsAntisymmetric (kind_number a.kind) (kind_number b.kind) inner.1)
    (nat_cmp-IsAntisymmetric (place_in_kind a.kind) (place_in_kind b.kind) outer.1) in
    λ i. record { line = line i; kind = kind i }

order_total : IsTotalOrder finding_order
order_total =
    then_total (then_total (on_total (λ (f : Finding). f.line) nat_cmp_total)
    (on_total (λ (f : Finding). kind_number f.kind) nat_cmp_total))
    (on_total (λ (f : Finding). place_in_kind f.kind) nat_cmp_total)

-- ---- the findings

module _ (reads : List ℕ → Option Tree) (d : DocumentText) where
  pub one_list : (a b : List Finding) → AreFindings reads d a → AreFindings reads d b → a ≡ b
  one_list a b h k =
      let all : all_findings reads h.state d ≡ all_findings reads k.state d =
      ap (λ state. all_findings reads state d) (one_states d h.state k.state h.states k.states) in
      let from : IsPermutation (all_findings reads k.state d) a =
      subst (λ l. IsPermutation l a) all h.each in
      one_sorted finding_order order_total order_tells a b h.ordered k.ordered
      (λ f. sum_by-IsPermutation f (all_findings reads k.state d) a from
      ∙ sym (sum_by-IsPermutation f (all_findings reads k.state d) b k.each))

  pub findings_exist : (found : List Finding) × AreFindings reads d found
  findings_exist =
      let states = states_exist d in
      let sorted = sorted_list finding_order order_total (all_findings reads states.0 d) in (
        sorted.0,
        record {
          state = states.0;
          states = states.1;
          each = sorted.1;
          ordered = sorted.2;
        },
      )

pub rows_exist : (profile : Profile) (read : Result DocumentText DocFault)
    → (rows : List Finding) × Finds profile read rows
rows_exist profile (Ok d) =
    let reading = reading_exists profile in
    let findings = findings_exist reading.0 d in (
      findings.0,
      λ reads is. subst (λ r. AreFindings r d findings.0)
          (one_reading profile reading.0 reads reading.1 is) findings.1,
    )
rows_exist profile (Err f) = ([], refl)

pub rows_once : (profile : Profile) (read : Result DocumentText DocFault) (a b : List Finding)
    → Finds profile read a → Finds profile read b → a ≡ b
rows_once profile (Ok d) a b h k =
    let reading = reading_exists profile in
    one_list reading.0 d a b (h reading.0 reading.1) (k reading.0 reading.1)
rows_once profile (Err f) a b h k = h ∙ sym k
