-- Places of rules ascend.
use Rattle.std.specs.Prelude.{◌≡◌, ℕ, ◌==◌, ◌&&◌, true, false, List}
use Rattle.std.specs.Ordering.{nat_cmp, is_eq, ordering_then, on, then_cmp}
use Rattle.std.specs.Cmp.{IsTotalOrder}
use Rattle.std.specs.Cmp.Lexicographic.{slice_cmp}
use Rattle.std.specs.Str.{bytes_eq}
use Rattle.std.specs.declared.cmp.Ordering.{Ordering}
use Rattle.std.proofs.Common.{sym, ◌∙◌}
use Rattle.std.proofs.lemmas.Cmp.{on_total, then_total, nat_list_cmp_total, nat_cmp_total}
use Rattle.desk_model.specs.Keys.{below_by}
use Rattle.desk_memory.specs.declared.keys.RulePlace.{RulePlace}
use Rattle.desk_sorted.specs.Sorted.{IsSideOf}
use Rattle.desk_sorted.specs.Sides.{side_by, alike, texts_meet, numbers_meet, then_meets}
use Rattle.desk_memory.specs.RulePlaces.{is_placed, rule_order, rule_side}

-- keys made of a number and two texts, compared part by part
abbrev key_cmp : ℕ × List ℕ × List ℕ → ℕ × List ℕ × List ℕ → Ordering
key_cmp = then_cmp (then_cmp (on (λ p. p.0) nat_cmp) (on (λ p. p.1) (slice_cmp nat_cmp)))
    (on (λ p. p.2) (slice_cmp nat_cmp))

-- any two such keys can be compared
key_total : IsTotalOrder key_cmp
key_total = then_total (then_total (on_total (λ p. p.0) nat_cmp_total)
    (on_total (λ p. p.1) nat_list_cmp_total)) (on_total (λ p. p.2) nat_list_cmp_total)

-- any two entries can be compared
pub rule_total : IsTotalOrder rule_order
rule_total = then_total (then_total (on_total (λ entry. entry.revision) nat_cmp_total)
    (on_total (λ entry. entry.term) nat_list_cmp_total))
    (on_total (λ entry. entry.form) nat_list_cmp_total)

-- the entries before that of a rule come first, then it, then those behind it
pub rule_splits : (revision : ℕ) (term form : List ℕ)
    → IsSideOf rule_order (rule_side revision term form)
rule_splits revision term form = side_by rule_order
    (λ entry. (entry.revision, entry.term, entry.form)) key_cmp key_total (λ x y e. e)
    (revision, term, form)

-- an entry is that of a rule if and only if its side is Equal
pub rule_meets : (revision : ℕ) (term form : List ℕ) (entry : RulePlace)
    → is_placed revision term form entry ≡ is_eq (rule_side revision term form entry)
rule_meets revision term form entry =
    then_meets (ordering_then (nat_cmp entry.revision revision) (slice_cmp nat_cmp entry.term term))
    (slice_cmp nat_cmp entry.form form)
    ((entry.revision == revision) && bytes_eq entry.term term) (bytes_eq entry.form form)
    (then_meets (nat_cmp entry.revision revision) (slice_cmp nat_cmp entry.term term)
    (entry.revision == revision) (bytes_eq entry.term term) (numbers_meet entry.revision revision)
    (texts_meet entry.term term))
    (texts_meet entry.form form)

-- two entries of one rule: neither is before the other
pub placed_alike : (revision : ℕ) (term form : List ℕ) (x y : RulePlace)
    → is_placed revision term form x ≡ true → is_placed revision term form y ≡ true
    → below_by rule_order x y ≡ false
placed_alike revision term form x y e f =
    alike (λ entry. (entry.revision, entry.term, entry.form)) key_cmp key_total
    (revision, term, form) x y (sym (rule_meets revision term form x) ∙ e)
    (sym (rule_meets revision term form y) ∙ f)
