use Rattle.std.proofs.Common.{◌≡◌, map, take}
use Rattle.desk_model.specs.Queries.{queried}
use Rattle.desk_model.specs.declared.command.Answer.TheVariants as answered
use Rattle.desk_model.specs.declared.command.Query.TheVariants as query
use Rattle.desk_access.specs.Seen.{Same}
use Rattle.desk_core.specs.Desks.{InHistory}
use Rattle.desk_views.proofs.paging.all_changes.Given as goal

abbrev pub invariant-loop-duty : goal.invariant-loop-duty
invariant-loop-duty g l = record {
  same : Same (g.D.Desk.seen l.fn.desk) (g.D.Desk.seen l.desk);
  found : InHistory g.D.Desk.are_right
      (λ w h. map (λ line. queried w h (query.Changes line.number)) (take l.duty-index l.duties)
      ≡ map answered.Changes l.changes.items)
      (g.D.Desk.seen l.fn.desk) (g.D.Desk.seen l.desk);
}
