use Rattle.std.proofs.Common.{◌≡◌, ap, of_z, pos, rules, sym, to_z, w64, ◌∙◌}
use Rattle.desk_snapshot.specs.declared.rows.StoredRelease.{StoredRelease}
use Rattle.desk_lists.proofs.Lists.{failing_more, passing_more}
use Rattle.desk_views.specs.Proposing.{is_open_with}
use Rattle.desk_views.proofs.proposing.open_releases.Goals as goal
use Rattle.desk_views.proofs.proposing.open_releases.Goals.{then-is_open_with+in_ok-clone+in_ok-push, else-is_open_with}

pub loop-release-preserved : goal.loop-release-preserved
loop-release-preserved c =
    let number : to_z w64 (of_z w64 c.from-document.result) ≡ pos c.args.number = search rules in
    let tested = simp number at c.is_open_with.ensures in
    let f = λ (row : StoredRelease). row.name in
    let p = is_open_with c.args.snapshot.now (pos c.args.number) in
    let rows = c.as_slice-release-items.result.now in
    elim c.if-is_open_with.branch [
      | then-is_open_with+in_ok-clone+in_ok-push w ↦
          ap (λ v. v.items) w.names-is
          ∙ passing_more f p rows c.loop-release.release-index c.release-item.result
          c.loop-release-test.true c.release-item.is c.loop-release.names.items
          c.loop-release.invariant w.push.new.self.items w.in_ok-clone.field-0
          (sym tested ∙ w.if-is_open_with.true)
          w.in_ok-clone.ensures.cases w.in_ok-push.ensures.items
      | else-is_open_with w ↦
          ap (λ v. v.items) w.names-is
          ∙ failing_more f p rows c.loop-release.release-index c.release-item.result
          c.loop-release-test.true c.release-item.is c.loop-release.names.items
          c.loop-release.invariant (sym tested ∙ w.if-is_open_with.false)
    ]
