use Rattle.std.proofs.Common.{◌≡◌, ◌∙◌, ◌∷◌, ap, sym, rules}
use Rattle.std.specs.Option.{is_some}
use Rattle.std.specs.Vec.Iter.{into_iter_items}
use Rattle.desk_tree_gather.specs.Paths.{is_path}
use Rattle.desk_tree_gather.specs.Trees.{bytes_at, placed, put_file}
use Rattle.desk_tree_gather.specs.Shown.{left_in}
use Rattle.desk_tree_gather.proofs.OwnedLemmas.{bytes_at-owned, files_in, files_in-insert_entry}
use Rattle.desk_tree_gather.proofs.PlacedLemmas.{placed_first, placed_again}
use Rattle.desk_tree_gather.proofs.telling.place_files.Goals as goal

pub returns-then-is_some : goal.returns-then-is_some
returns-then-is_some c =
    let tree = left_in c.loop-file.left in
    let rest = into_iter_items c.next.new.self in
    let turn : into_iter_items c.loop-file.file-iterator ≡ c.in-Some.file ∷ rest = search rules in
    sym (ap (placed tree) (sym turn) ∙ c.loop-file.invariant)
    ∙ placed_again tree rest c.in-Some.file
    (ap is_path (sym c.as_str.ensures) ∙ sym c.in_ok-told.ensures ∙ c.if-not-told.false)
    (ap (λ p. is_some (bytes_at tree p))
    (sym (c.in_ok-path.ensures ∙ c.as_str-in-loop-file.ensures))
    ∙ ap is_some (sym (bytes_at-owned c.loop-file.left.entries c.in_ok-path.path))
    ∙ ap is_some (sym c.in_ok-other.ensures.old)
    ∙ sym c.is_some.ensures ∙ c.if-is_some.true)

pub loop-file-preserved : goal.loop-file-preserved
loop-file-preserved c =
    let tree = left_in c.loop-file.left in
    let rest = into_iter_items c.next.new.self in
    let turn : into_iter_items c.loop-file.file-iterator ≡ c.in-Some.file ∷ rest = search rules in
    ap (λ t. placed t rest)
    (ap files_in c.in_ok-other.ensures.entries
    ∙ files_in-insert_entry c.loop-file.left.entries c.in_ok-path.path c.in-Some.file.bytes
    ∙ ap (λ p. put_file (record { path = p; bytes = c.in-Some.file.bytes }) tree)
    (c.in_ok-path.ensures ∙ c.as_str-in-loop-file.ensures))
    ∙ sym (placed_first tree rest c.in-Some.file
    (ap is_path (sym c.as_str.ensures) ∙ sym c.in_ok-told.ensures ∙ c.if-not-told.false)
    (ap (λ p. is_some (bytes_at tree p))
    (sym (c.in_ok-path.ensures ∙ c.as_str-in-loop-file.ensures))
    ∙ ap is_some (sym (bytes_at-owned c.loop-file.left.entries c.in_ok-path.path))
    ∙ ap is_some (sym c.in_ok-other.ensures.old)
    ∙ sym c.is_some.ensures ∙ c.if-is_some.false))
    ∙ (ap (placed tree) (sym turn) ∙ c.loop-file.invariant)
