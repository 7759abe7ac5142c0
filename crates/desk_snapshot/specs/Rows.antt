-- Which rows are those of a document, a package, a release, a duty.
use Rattle.std.specs.Prelude.{◌≡◌, ℕ, ◌+◌, ℤ, pos, ◌&&◌, Bool, List, [], ◌∷◌}
use Rattle.std.specs.Ordering.{int_eq}
use Rattle.std.specs.Str.{bytes_eq}
use Rattle.desk_snapshot.specs.declared.rows.StoredAttached.{StoredAttached}
use Rattle.desk_snapshot.specs.declared.rows.StoredChange.{StoredChange}
use Rattle.desk_snapshot.specs.declared.rows.StoredChoice.{StoredChoice}
use Rattle.desk_snapshot.specs.declared.rows.StoredConclusion.{StoredConclusion}
use Rattle.desk_snapshot.specs.declared.rows.StoredFrozen.{StoredFrozen}
use Rattle.desk_snapshot.specs.declared.rows.StoredPackage.{StoredPackage}
use Rattle.desk_snapshot.specs.declared.rows.StoredReading.{StoredReading}
use Rattle.desk_snapshot.specs.declared.rows.StoredRelease.{StoredRelease}
use Rattle.desk_snapshot.specs.declared.rows.StoredRule.{StoredRule}
use Rattle.desk_snapshot.specs.declared.rows.StoredWaiver.{StoredWaiver}

-- these are the numbers from n
abbrev pub AreFrom : ℕ → List ℤ → Type 0
AreFrom n [] = Unit {0}
AreFrom n (m ∷ ms) = (m ≡ pos n) × AreFrom (n + 1) ms

-- the profile of this document
abbrev pub is_reading_of : ℤ → StoredReading → Bool
is_reading_of document row = int_eq row.document document

-- the package with this id in this document
abbrev pub is_package : ℤ → List ℕ → StoredPackage → Bool
is_package document id row = int_eq row.document document && bytes_eq row.id id

-- the conclusion for this package of this document
abbrev pub is_conclusion : ℤ → List ℕ → StoredConclusion → Bool
is_conclusion document id row = int_eq row.document document && bytes_eq row.package_id id

-- the release with this name
abbrev pub is_release : List ℕ → StoredRelease → Bool
is_release name row = bytes_eq row.name name

-- this document, attached to this release
abbrev pub is_attachment : List ℕ → ℤ → StoredAttached → Bool
is_attachment release document row = bytes_eq row.release release && int_eq row.document document

-- the choices of a release, and those of a package in it
abbrev pub is_choice_in : List ℕ → StoredChoice → Bool
is_choice_in release row = bytes_eq row.release release

-- a term chosen for this package in this release
abbrev pub is_choice_of : List ℕ → ℤ → List ℕ → StoredChoice → Bool
is_choice_of release document id row = bytes_eq row.release release
    && (int_eq row.document document && bytes_eq row.package_id id)

-- a term that this release was frozen with
abbrev pub is_frozen_in : List ℕ → StoredFrozen → Bool
is_frozen_in release row = bytes_eq row.release release

-- the rule of a revision and a form with this spelling
abbrev pub is_rule_spelled : ℤ → List ℕ → List ℕ → StoredRule → Bool
is_rule_spelled revision form spelled row = int_eq row.revision revision
    && (bytes_eq row.form form && bytes_eq row.spelled spelled)

-- a change of this duty
abbrev pub is_change_of : ℤ → StoredChange → Bool
is_change_of duty row = int_eq row.duty duty

-- the change of this duty with this step
abbrev pub is_change_at : ℤ → ℤ → StoredChange → Bool
is_change_at duty step row = int_eq row.duty duty && int_eq row.step step

-- the last day for this step of this duty
abbrev pub is_waiver_at : ℤ → ℤ → StoredWaiver → Bool
is_waiver_at duty step row = int_eq row.duty duty && int_eq row.step step
