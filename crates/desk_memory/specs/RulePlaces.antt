-- The places of rules by revision, term and form.
use Rattle.std.specs.Prelude.{ℕ, ◌+◌, ◌==◌, ◌&&◌, Bool, List, [], ◌∷◌}
use Rattle.std.specs.Ordering.{nat_cmp, ordering_then, on, then_cmp}
use Rattle.std.specs.Cmp.Lexicographic.{slice_cmp}
use Rattle.std.specs.Str.{bytes_eq}
use Rattle.std.specs.declared.cmp.Ordering.{Ordering}
use Rattle.desk_model.specs.declared.row.RuleRow.{RuleRow}
use Rattle.desk_memory.specs.declared.keys.RulePlace.{RulePlace}

-- the entry of the rule of a revision for a term and a form
abbrev pub is_placed : ℕ → List ℕ → List ℕ → RulePlace → Bool
is_placed revision term form entry = ((entry.revision == revision) && bytes_eq entry.term term)
    && bytes_eq entry.form form

-- entries by revision, term and form
abbrev pub rule_order : RulePlace → RulePlace → Ordering
rule_order = then_cmp (then_cmp (on (λ entry. entry.revision) nat_cmp)
    (on (λ entry. entry.term) (slice_cmp nat_cmp))) (on (λ entry. entry.form) (slice_cmp nat_cmp))

-- Less for an entry before that of this rule, Equal for that one, Greater for an entry behind it
abbrev pub rule_side : ℕ → List ℕ → List ℕ → RulePlace → Ordering
rule_side revision term form entry = ordering_then
    (ordering_then (nat_cmp entry.revision revision) (slice_cmp nat_cmp entry.term term))
    (slice_cmp nat_cmp entry.form form)

-- the places of rules, counted from n
abbrev pub rule_places : ℕ → List RuleRow → List RulePlace
rule_places n [] = []
rule_places n (row ∷ rows) = (record {
  revision = row.revision;
  term = row.term;
  form = row.form;
  place = n;
}) ∷ rule_places (n + 1) rows
