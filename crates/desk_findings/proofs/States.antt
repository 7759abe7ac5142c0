-- The code of each package has exactly one state: the files of a package are one list.
use Rattle.std.proofs.Common.{◌≡◌, ◌≢◌, ◌⊎◌, inl, inr, ℕ, zero, ◌<◌, true, false, List, []}
use Rattle.std.proofs.Common.{◌∷◌, length, Option, Some, None, sym, subst, ap, refl, arith}
use Rattle.std.specs.Prelude.{◌==◌, nat_eq, if◌then◌else◌, Contains, slice_get}
use Rattle.std.specs.Ordering.{nat_cmp}
use Rattle.std.specs.Cmp.{nat_cmp_total}
use Rattle.std.specs.List.{filter_map, dedup}
use Rattle.std.specs.Str.{bytes_eq}
use Rattle.std.proofs.lemmas.Bool.Decides.{eqb_tells}
use Rattle.std.proofs.lemmas.Slice.Eq.{bytes_eq-Decides}
use Rattle.std.specs.Bool.{Decides}
use Rattle.std.proofs.lemmas.List.Kept.{Contains-dedup_nat, Contains-from_dedup}
use Rattle.std.proofs.lemmas.List.Sorted.{Contains-permutation, IsPermutation-sym}
use Rattle.std.proofs.lemmas.Map.Keys.{IsStrictlyIncreasing-dedup}
use Rattle.desk_base.specs.Folded.{folded}
use Rattle.desk_base.proofs.SortedOnce.{is_later}
use Rattle.desk_base.proofs.Lists.{contains_cases, item_at}
use Rattle.desk_bom.specs.declared.arrows.Arrow.{Arrow}
use Rattle.desk_bom.specs.declared.state.CodeState.{CodeState}
use Rattle.desk_bom.specs.declared.state.CodeState.TheVariants as states
use Rattle.desk_bom.specs.Codes.{IsState, IsStateAt, IsStateOf, checked_digests, code_digits}
use Rattle.desk_bom.specs.Contents.{contents, AreFilesOf}
use Rattle.desk_tagvalue.specs.Parts.{DocumentText, PackageText, FileText}
use Rattle.desk_findings.proofs.Ordered.{sorted_list}
use Rattle.desk_findings.proofs.Codes.{code_exists}

-- ---- the files of a package

abbrev targets : ℕ → List Arrow → List ℕ
targets k [] = []
targets k (x ∷ xs) = if x.from == k then x.to ∷ targets k xs else targets k xs

abbrev arrow : ℕ → ℕ → Arrow
arrow k j = record { from = k; to = j }

in_targets : (k : ℕ) (xs : List Arrow) (j : ℕ) → Contains xs (arrow k j) → Contains (targets k xs) j
in_targets k [] j at = absurd (omega (arith, at.1))
in_targets k (x ∷ xs) j at = elim (eqb_tells x.from k) [
  | inl same ↦ subst (λ b. Contains (if b then x.to ∷ targets k xs else targets k xs) j)
      (sym same.0) (elim (contains_cases x xs (arrow k j) at) [
        | inl is ↦ (zero, omega arith, ap (λ a. a.to) is)
        | inr rest ↦ is_later x.to (targets k xs) j (in_targets k xs j rest)
      ])
  | inr other ↦ subst (λ b. Contains (if b then x.to ∷ targets k xs else targets k xs) j)
      (sym other.0) (elim (contains_cases x xs (arrow k j) at) [
        | inl is ↦ absurd (other.1 (ap (λ a. a.from) is))
        | inr rest ↦ in_targets k xs j rest
      ])
]

from_targets : (k : ℕ) (xs : List Arrow) (j : ℕ) → Contains (targets k xs) j
    → Contains xs (arrow k j)
from_targets k [] j at = absurd (omega (arith, at.1))
from_targets k (x ∷ xs) j at = elim (eqb_tells x.from k) [
  | inl same ↦ elim (contains_cases x.to (targets k xs) j
      (subst (λ b. Contains (if b then x.to ∷ targets k xs else targets k xs) j) same.0 at)) [
        | inl is ↦ (zero, omega arith, λ i. record { from = same.1 i; to = is i })
        | inr rest ↦ is_later x xs (arrow k j) (from_targets k xs j rest)
      ]
  | inr other ↦ is_later x xs (arrow k j)
      (from_targets k xs j (subst (λ b. Contains (if b then x.to ∷ targets k xs else targets k xs)
      j) other.0 at))
]

files_exist : (d : DocumentText) (k : ℕ) → (fs : List FileText) × AreFilesOf d k fs
files_exist d k =
    let all = targets k (contents d) in
    let found = sorted_list nat_cmp nat_cmp_total all in
    let places = dedup nat_eq found.0 in (
      filter_map (slice_get d.files) places,
      record {
        places = places;
        once = IsStrictlyIncreasing-dedup found.0 found.2;
        members = λ j. (
          (λ at. from_targets k (contents d) j
              (Contains-permutation found.0 all j (IsPermutation-sym all found.0 found.1)
              (Contains-from_dedup nat_eq found.0 j at))),
          (λ at. Contains-dedup_nat found.0 j
              (Contains-permutation all found.0 j found.1 (in_targets k (contents d) j at))),
        );
        are = refl;
      },
    )

-- ---- the state of a code

pub same_text : (xs ys : List ℕ) → (xs ≡ ys) ⊎ (xs ≢ ys)
same_text xs ys = elim (bytes_eq xs ys) as (λ b. Decides b (xs ≡ ys) → (xs ≡ ys) ⊎ (xs ≢ ys)) [
  | true ↦ λ told. inl (told.0 refl)
  | false ↦ λ told. inr (λ same. let both = told.1 same in cc)
] (bytes_eq-Decides xs ys)

state_of : (p : PackageText) (fs : List FileText) (value : List ℕ)
    → p.verification_code ≡ Some value → (digests : Option (List (List ℕ)))
    → checked_digests p.files_analyzed value fs ≡ digests
    → (s : CodeState) × (s ≢ states.Absent) × IsStateOf p fs s
state_of p fs value is None none = (states.Unchecked, (λ e. cc), (value, is, none))
state_of p fs value is (Some digests) are =
    let code = code_exists digests in
    elim (same_text (folded (code_digits value)) code.0) [
      | inl agrees ↦ (states.Agrees, (λ e. cc), (value, digests, code.0, is, are, code.1, agrees))
      | inr differs ↦ (
        states.Differs,
        (λ e. cc),
        (value, digests, code.0, is, are, code.1, differs),
      )
    ]

with_files : (d : DocumentText) (k : ℕ) (p : PackageText) (fs : List FileText) → AreFilesOf d k fs
    → (s : CodeState) → s ≢ states.Absent → IsStateOf p fs s → IsStateAt d k p s
with_files d k p fs are states.Absent some is = absurd (some refl)
with_files d k p fs are states.Unchecked some is = (fs, are, is)
with_files d k p fs are states.Agrees some is = (fs, are, is)
with_files d k p fs are states.Differs some is = (fs, are, is)

state_at : (d : DocumentText) (k : ℕ) (p : PackageText) (value : Option (List ℕ))
    → p.verification_code ≡ value → (s : CodeState) × IsStateAt d k p s
state_at d k p None none = (states.Absent, none)
state_at d k p (Some value) is =
    let files = files_exist d k in
    let state = state_of p files.0 value is (checked_digests p.files_analyzed value files.0) refl in
    (state.0, with_files d k p files.0 files.1 state.0 state.1 state.2)

pub state_exists : (d : DocumentText) (k : ℕ) → k < length d.packages
    → (s : CodeState) × IsState d k s
state_exists d k within =
    let owner = item_at d.packages k within in
    let state = state_at d k owner.0 owner.0.verification_code refl in
    (state.0, record { owner = owner.0; at = owner.1; is = state.1 })
