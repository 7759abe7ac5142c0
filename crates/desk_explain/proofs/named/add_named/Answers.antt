use Rattle.std.proofs.Common.{ap, sym, take_all, ◌∙◌, ◌++◌}
use Rattle.std.specs.Prelude.{filter}
use Rattle.desk_explain.specs.Explanations.{is_named}
use Rattle.desk_explain.proofs.Joined.{failing_at, passing_at}
use Rattle.desk_explain.proofs.named.add_named.Goals as goal
use Rattle.desk_explain.proofs.named.add_named.Goals.{then-eq+in_ok-push, else-eq}

pub loop-entry-preserved : goal.loop-entry-preserved
loop-entry-preserved c =
    let p = is_named c.args.name.now in
    elim c.if-eq.branch [
      | then-eq+in_ok-push w ↦
          ap (λ v. v.items) w.found-is
          ∙ passing_at p c.args.table.now c.loop-entry.entry-index _ c.loop-entry-test.true
          c.args.found.now.items c.loop-entry.found.items
          c.loop-entry.invariant w.push.new.self.items (sym w.if-eq.ensures)
          w.in_ok-push.ensures.items
      | else-eq w ↦
          ap (λ v. v.items) w.found-is
          ∙ failing_at p c.args.table.now c.loop-entry.entry-index _ c.loop-entry-test.true
          c.args.found.now.items c.loop-entry.found.items
          c.loop-entry.invariant (sym w.if-eq.ensures)
    ]

pub returns : goal.returns
returns c =
    c.loop-entry.invariant
    ∙ ap (λ es. c.args.found.now.items ++ filter (is_named c.args.name.now) es)
    (take_all c.loop-entry.entry-index c.args.table.now c.loop-entry-test.false)
