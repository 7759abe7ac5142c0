use Rattle.std.proofs.Common.{◌∙◌, sym, ap, subst, map}
use Rattle.std.specs.String.{string_bytes}
use Rattle.std.specs.List.Sorted.{IsSorted}
use Rattle.std.specs.Ordering.{nat_cmp}
use Rattle.std.specs.Cmp.Lexicographic.{slice_cmp}
use Rattle.desk_tree_files.proofs.OrderLemmas.{ok_along, sorted_map}
use Rattle.desk_tree_files.proofs.reading.files_of.Goals as goal

pub returns-then-len-gt-TREE_FILES : goal.returns-then-len-gt-TREE_FILES
returns-then-len-gt-TREE_FILES g c =
    ok_along c.unread_files.result c.unread_files.ensures (λ files same.
    subst (IsSorted (slice_cmp nat_cmp))
    (sym (same ∙ ap (map string_bytes) c.as_slice.ensures.value))
    (sorted_map string_bytes (slice_cmp nat_cmp) c.in_ok-paths.paths.items c.in_ok-paths.ensures))

pub returns : goal.returns
returns g c =
    ok_along c.read_and_clear.result c.read_and_clear.ensures (λ files same.
    subst (IsSorted (slice_cmp nat_cmp))
    (sym (same ∙ ap (map string_bytes) c.as_slice-2.ensures.value))
    (sorted_map string_bytes (slice_cmp nat_cmp) c.in_ok-paths.paths.items c.in_ok-paths.ensures))
