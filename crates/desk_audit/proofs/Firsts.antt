-- The first condition that isn't met: for two lists of conditions one after another, and for all
-- ten.
use Rattle.std.proofs.Common.{◌≡◌, ◌⊎◌, ℕ, zero, suc, ◌+◌, ◌<◌, ◌≤◌, List, [], ◌∷◌, ◌++◌, Option}
use Rattle.std.proofs.Common.{Some, None, Result, Ok, Err, IfOk, inl, inr, refl, sym, ap, subst}
use Rattle.std.proofs.Common.{◌∙◌, arith}
use Rattle.std.specs.Prelude.{◌==◌, if◌then◌else◌}
use Rattle.desk_model.specs.Readings.{Readings}
use Rattle.desk_snapshot.specs.Reports.{audit_number, IsFirst, IsReport, Meets}
use Rattle.desk_snapshot.specs.declared.fault.AuditFault.{AuditFault}
use Rattle.desk_snapshot.specs.declared.fault.AuditFault.TheVariants.{BadMeta, BadRevision, BadRule}
use Rattle.desk_snapshot.specs.declared.fault.AuditFault.TheVariants.{BadDocument, BadPackage}
use Rattle.desk_snapshot.specs.declared.fault.AuditFault.TheVariants.{BadChoice, BadNumber, BadDuty}
use Rattle.desk_snapshot.specs.declared.fault.AuditFault.TheVariants.{BadChange, BadState}
use Rattle.desk_snapshot.specs.declared.fault.AuditReport.TheVariants.{Sound, Unsound}
use Rattle.desk_snapshot.specs.declared.snapshot.Snapshot.{Snapshot}

-- what is true of what was found, for each reading
pub by_each : {A E : Type 0} (P : Readings → A → Type 0) (r : Result A E)
    → IfOk r (λ found. (w : Readings) → P w found) → (w : Readings) → IfOk r (P w)
by_each P (Ok found) all w = all w
by_each P (Err e) all w = tt

-- the fault with this number
abbrev named : ℕ → AuditFault
named n =
    if n == 1 then BadMeta else if n == 2 then BadRevision else if n == 3 then BadRule
    else if n == 4 then BadDocument else if n == 5 then BadPackage
    else if n == 6 then BadChoice else if n == 7 then BadNumber else if n == 8 then BadDuty
    else if n == 9 then BadChange else BadState

named_back : (f : AuditFault) → named (audit_number f) ≡ f
named_back BadMeta = refl
named_back BadRevision = refl
named_back BadRule = refl
named_back BadDocument = refl
named_back BadPackage = refl
named_back BadChoice = refl
named_back BadNumber = refl
named_back BadDuty = refl
named_back BadChange = refl
named_back BadState = refl

same : (f g : AuditFault) → audit_number f ≡ audit_number g → f ≡ g
same f g e = sym (named_back f) ∙ ap named e ∙ named_back g

-- all ten, in their order
abbrev pub all_ten : List AuditFault
all_ten = BadMeta ∷ BadRevision ∷ BadRule ∷ BadDocument ∷ BadPackage ∷ BadChoice ∷ BadNumber
    ∷ BadDuty ∷ BadChange ∷ BadState ∷ []

-- these have the numbers n, n + 1 and so on
abbrev Follow : ℕ → List AuditFault → Type 0
Follow n [] = n ≡ 11
Follow n (g ∷ gs) = (audit_number g ≡ n) × Follow (n + 1) gs

most : (f : AuditFault) → audit_number f ≤ 10
most BadMeta = omega arith
most BadRevision = omega arith
most BadRule = omega arith
most BadDocument = omega arith
most BadPackage = omega arith
most BadChoice = omega arith
most BadNumber = omega arith
most BadDuty = omega arith
most BadChange = omega arith
most BadState = omega arith

least : (f : AuditFault) → 1 ≤ audit_number f
least BadMeta = omega arith
least BadRevision = omega arith
least BadRule = omega arith
least BadDocument = omega arith
least BadPackage = omega arith
least BadChoice = omega arith
least BadNumber = omega arith
least BadDuty = omega arith
least BadChange = omega arith
least BadState = omega arith

abbrev Either : ℕ → ℕ → Type 0
Either m n = (m ≡ n) ⊎ (m + 1 ≤ n)

from_or_at : (m n : ℕ) → m ≤ n → Either m n
from_or_at zero zero h = inl refl
from_or_at zero (suc n) h = inr (omega arith)
from_or_at (suc m) zero h = absurd (omega arith)
from_or_at (suc m) (suc n) h = elim (from_or_at m n (omega arith))
    [ inl e ↦ inl (ap suc e) | inr l ↦ inr (omega arith) ]

in_turn : Follow 1 all_ten
in_turn = (refl, (refl, (refl, (refl, (refl, (refl, (refl, (refl, (refl, (refl, refl))))))))))

module _ (w : Readings) (s : Snapshot) where
  -- the first conditions are all met, so it is the first of the others
  pub onward : (gs hs : List AuditFault) (found : Option AuditFault) → IsFirst w s gs None
      → IsFirst w s hs found → IsFirst w s (gs ++ hs) found
  onward [] hs found met first = first
  onward (g ∷ gs) hs found met first = elim met
      [ inl clash ↦ cc | inr more ↦ inr (more.0, onward gs hs found more.1 first) ]

  -- the first of some conditions is also the first of these and others after them
  pub before : (gs hs : List AuditFault) (f : AuditFault) → IsFirst w s gs (Some f)
      → IsFirst w s (gs ++ hs) (Some f)
  before [] hs f clash = absurd clash
  before (g ∷ gs) hs f first = elim first
      [ inl it ↦ inl it | inr more ↦ inr (more.0, before gs hs f more.1) ]

  -- the same for a call
  pub onward_ok : {E : Type 0} (gs hs : List AuditFault) (r : Result (Option AuditFault) E)
      → IsFirst w s gs None → IfOk r (IsFirst w s hs) → IfOk r (IsFirst w s (gs ++ hs))
  onward_ok gs hs (Ok found) met first = onward gs hs found met first
  onward_ok gs hs (Err e) met first = tt

  -- there is no first one, so all are met
  none : (n : ℕ) (gs : List AuditFault) → Follow n gs → IsFirst w s gs None → (f : AuditFault)
      → n ≤ audit_number f → Meets w s f
  none n [] last met f from = absurd (let top = most f in omega arith)
  none n (g ∷ gs) each met f from =
      elim met [
        | inl clash ↦ cc
        | inr more ↦ elim (from_or_at n (audit_number f) from) [
          | inl here ↦ subst (Meets w s) (same g f (each.0 ∙ here)) more.0
          | inr past ↦ none (n + 1) gs each.1 more.1 f past
        ]
      ]

  -- the conditions before the first one are met
  some : (n : ℕ) (gs : List AuditFault) (f : AuditFault) → Follow n gs → IsFirst w s gs (Some f)
      → (Meets w s f → ⊥) × ((g : AuditFault) → n ≤ audit_number g → audit_number g < audit_number f
      → Meets w s g)
  some n [] f last clash = absurd clash
  some n (h ∷ gs) f each first =
      elim first [
        | inl it ↦ (
          subst (λ x. Meets w s x → ⊥) (is_some h f it.0) it.1,
          λ g from below. absurd (let top : audit_number h ≡ audit_number f =
              ap audit_number (is_some h f it.0) in let at = each.0 in omega arith),
        )
        | inr more ↦ (let rest = some (n + 1) gs f each.1 more.1 in (
          rest.0,
          λ g from below. elim (from_or_at n (audit_number g) from) [
            | inl here ↦ subst (Meets w s) (same h g (each.0 ∙ here)) more.0
            | inr past ↦ rest.1 g past below
          ],
        ))
      ]
    where
      is_some : (h f : AuditFault) → Some f ≡ Some h → h ≡ f
      is_some h f e = cc

  -- the report, from the first of all ten
  pub sound : IsFirst w s all_ten None → IsReport w s Sound
  sound met f = none 1 all_ten in_turn met f (least f)

  pub unsound : (f : AuditFault) → IsFirst w s all_ten (Some f) → IsReport w s (Unsound f)
  unsound f first =
      let it = some 1 all_ten f in_turn first in
      (it.0, λ g below. it.1 g (least g) below)
