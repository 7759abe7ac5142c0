use Rattle.std.proofs.Common.{◌≡◌, List, rules, subst, map, ap, ◌∙◌}
use Rattle.std.specs.Prelude.{IsPermutation}
use Rattle.std.proofs.lemmas.Fn.{always_returns_same}
use Rattle.desk_snapshot.specs.declared.rows.StoredDuty.{StoredDuty}
use Rattle.desk_lists.specs.Held.{duties_held}
use Rattle.desk_lists.specs.Releases.{release_line}
use Rattle.desk_lists.specs.declared.lines.ReleaseLine.{ReleaseLine}
use Rattle.desk_lists.proofs.Totals.{lines-permutation}
use Rattle.desk_lists.proofs.release.releases.Goals as goal

pub returns-clause-members : goal.returns-clause-members
returns-clause-members c =
    let P : List ReleaseLine → Type 0 = λ lines. IsPermutation lines c.sort_by_key.new.self.items in
    let same : c.in_ok-lines.lines.items ≡ map (release_line
    c.args.snapshot.now.duty) c.args.snapshot.now.releases =
    lines-permutation c.args.snapshot.now.duty (duties_held c.in_ok-held.held.rows.items)
    c.args.snapshot.now.releases _
    (let Q : List StoredDuty → Type 0 =
    λ ds. IsPermutation ds (duties_held c.in_ok-held.held.rows.items) in
    subst Q c.as_slice.ensures c.in_ok-held.ensures)
    (c.in_ok-lines.ensures ∙ ap (map (release_line (duties_held c.in_ok-held.held.rows.items)))
    c.as_slice-2.ensures) in
    subst P same c.in_ok-sort_by_key.ensures.permutation

pub returns-clause-order : goal.returns-clause-order
returns-clause-order c =
    c.in_ok-sort_by_key.ensures.sorted (λ line. line.place)
    (always_returns_same _ _ _ (λ a r f k. search rules))
