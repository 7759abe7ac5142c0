-- Rules in the order of their revisions, forms and spellings.
use Rattle.std.specs.Prelude.{◌≡◌, ℤ, ℕ, ◌&&◌, Bool, List, find}
use Rattle.std.specs.Option.{option_map}
use Rattle.std.specs.Ordering.{nat_cmp, int_cmp, int_eq, is_eq, on, ordering_then, then_cmp}
use Rattle.std.specs.Cmp.{IsTotalOrder}
use Rattle.std.specs.Cmp.Lexicographic.{slice_cmp}
use Rattle.std.specs.Str.{bytes_eq}
use Rattle.std.specs.declared.cmp.Ordering.{Ordering}
use Rattle.std.proofs.Common.{refl}
use Rattle.std.proofs.lemmas.Cmp.{int_cmp_total, on_total, then_total, nat_list_cmp_total}
use Rattle.desk_sorted.specs.Sorted.{IsSideOf}
use Rattle.desk_sorted.specs.Sides.{side_by, texts_meet, then_meets}
use Rattle.desk_snapshot.specs.Rows.{is_rule_spelled}
use Rattle.desk_snapshot.specs.declared.rows.StoredRule.{StoredRule}
use Rattle.desk_audit.specs.declared.rules.RuleAt.{RuleAt}

-- what a rule is looked up by
abbrev pub spelling : RuleAt → ℤ × List ℕ × List ℕ
spelling at = (at.rule.now.revision, at.rule.now.form, at.rule.now.spelled)

-- by revision, then by form, then by spelling
abbrev pub spelling_cmp : ℤ × List ℕ × List ℕ → ℤ × List ℕ × List ℕ → Ordering
spelling_cmp =
    then_cmp (on (λ p. p.0) int_cmp)
    (then_cmp (on (λ p. p.1) (slice_cmp nat_cmp)) (on (λ p. p.2) (slice_cmp nat_cmp)))

-- any two of them can be compared
pub spelling_total : IsTotalOrder spelling_cmp
spelling_total =
    then_total (on_total (λ p. p.0) int_cmp_total)
    (then_total (on_total (λ p. p.1) nat_list_cmp_total) (on_total (λ p. p.2) nat_list_cmp_total))

-- rules by what they are looked up by
abbrev pub spelled_order : RuleAt → RuleAt → Ordering
spelled_order = on spelling spelling_cmp

-- any two rules can be compared
pub spelled_total : IsTotalOrder spelled_order
spelled_total = on_total spelling spelling_total

-- on which side of a revision, a form and a spelling a rule is
abbrev pub spelled_side : ℤ → List ℕ → List ℕ → RuleAt → Ordering
spelled_side revision form spelled at =
    ordering_then (int_cmp at.rule.now.revision revision)
    (ordering_then (slice_cmp nat_cmp at.rule.now.form form)
    (slice_cmp nat_cmp at.rule.now.spelled spelled))

-- the rule of this revision and form with this spelling
abbrev pub is_spelled : ℤ → List ℕ → List ℕ → RuleAt → Bool
is_spelled revision form spelled at = is_rule_spelled revision form spelled at.rule.now

-- the first rule of each spelling among some is the first of a table
abbrev pub FindsAs : List RuleAt → List StoredRule → Type 0
FindsAs sorted rules =
    (revision : ℤ) (form spelled : List ℕ)
    → option_map (λ at. at.rule.now) (find (is_spelled revision form spelled) sorted)
    ≡ find (is_rule_spelled revision form spelled) rules

-- in the order of spellings the rules before this one come first, then those that have it, then the
-- others
pub spelled_splits : (revision : ℤ) (form spelled : List ℕ)
    → IsSideOf spelled_order (spelled_side revision form spelled)
spelled_splits revision form spelled =
    side_by spelled_order spelling spelling_cmp spelling_total (λ x y e. e)
    (revision, form, spelled)

-- a rule has this spelling if and only if its side is Equal
pub spelled_meets : (revision : ℤ) (form spelled : List ℕ) (at : RuleAt)
    → is_spelled revision form spelled at ≡ is_eq (spelled_side revision form spelled at)
spelled_meets revision form spelled at =
    let row = at.rule.now in
    then_meets (int_cmp row.revision revision)
    (ordering_then (slice_cmp nat_cmp row.form form) (slice_cmp nat_cmp row.spelled spelled))
    (int_eq row.revision revision) (bytes_eq row.form form && bytes_eq row.spelled spelled) refl
    (then_meets (slice_cmp nat_cmp row.form form) (slice_cmp nat_cmp row.spelled spelled)
    (bytes_eq row.form form) (bytes_eq row.spelled spelled)
    (texts_meet row.form form) (texts_meet row.spelled spelled))
