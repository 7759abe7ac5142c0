-- Places by namespaces ascend.
use Rattle.std.specs.Prelude.{◌≡◌, ℕ, true, false, List}
use Rattle.std.specs.Ordering.{nat_cmp}
use Rattle.std.specs.Cmp.{IsTotalOrder}
use Rattle.std.specs.Cmp.Lexicographic.{slice_cmp}
use Rattle.std.proofs.Common.{sym, ◌∙◌}
use Rattle.std.proofs.lemmas.Cmp.{on_total, nat_list_cmp_total}
use Rattle.desk_model.specs.Keys.{below_by}
use Rattle.desk_memory.specs.declared.keys.NamespacePlace.{NamespacePlace}
use Rattle.desk_sorted.specs.Sorted.{IsSideOf}
use Rattle.desk_sorted.specs.Sides.{side_by, alike, texts_meet}
use Rattle.desk_memory.specs.Namespaces.{is_named, namespace_order, namespace_side}

-- any two namespaces can be compared
pub namespace_total : IsTotalOrder namespace_order
namespace_total = on_total (λ entry. entry.namespace) nat_list_cmp_total

-- the entries before that of a namespace come first, then it, then those behind it
pub namespace_splits : (namespace : List ℕ) → IsSideOf namespace_order (namespace_side namespace)
namespace_splits namespace = side_by namespace_order (λ entry. entry.namespace) (slice_cmp nat_cmp)
    nat_list_cmp_total (λ x y e. e) namespace

-- two entries with one namespace: neither is before the other
pub named_alike : (namespace : List ℕ) (x y : NamespacePlace) → is_named namespace x ≡ true
    → is_named namespace y ≡ true → below_by namespace_order x y ≡ false
named_alike namespace x y e f =
    alike (λ entry. entry.namespace) (slice_cmp nat_cmp) nat_list_cmp_total namespace x y
    (sym (texts_meet x.namespace namespace) ∙ e) (sym (texts_meet y.namespace namespace) ∙ f)
