-- The order of findings, and what is noted.
use Rattle.std.specs.Prelude.{ℕ, Bool, true, false, List, [], ◌∷◌}
use Rattle.std.specs.declared.cmp.Ordering.{Ordering}
use Rattle.std.specs.Ordering.{nat_cmp, ordering_then}
use Rattle.desk_model.specs.declared.finding.Finding.{Finding}
use Rattle.desk_model.specs.declared.finding.FindingKind.{FindingKind}
use Rattle.desk_model.specs.FindingKinds.{kind_number, place_in_kind}

-- by line, then by kind, then in the stated order
abbrev pub finding_order : Finding → Finding → Ordering
finding_order a b =
    ordering_then (ordering_then (nat_cmp a.line b.line)
    (nat_cmp (kind_number a.kind) (kind_number b.kind)))
    (nat_cmp (place_in_kind a.kind) (place_in_kind b.kind))

-- the same as a key
abbrev pub finding_key : Finding → ℕ × ℕ × ℕ
finding_key f = (f.line, kind_number f.kind, place_in_kind f.kind)

-- a finding, if it holds
abbrev pub noted : Bool → ℕ → FindingKind → List Finding
noted true line kind = record { line = line; kind = kind } ∷ []
noted false line kind = []
