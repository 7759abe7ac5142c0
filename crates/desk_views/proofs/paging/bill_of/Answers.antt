use Rattle.std.proofs.Common.{◌≡◌, List, ℕ, subst}
use Rattle.std.specs.Prelude.{IfOk}
use Rattle.desk_model.specs.Queries.{queried}
use Rattle.desk_model.specs.declared.command.Query.TheVariants as query
use Rattle.desk_core.specs.Desks.{InHistory}
use Rattle.desk_views.proofs.paging.bill_of.Goals as goal

pub returns-clause-told : goal.returns-clause-told
returns-clause-told g c =
    let Told : List ℕ → Type 0 =
    λ release. IfOk c.answer_of.result
    (λ answer. InHistory g.D.Desk.are_right (λ w h. answer ≡ queried w h (query.Bill release))
    (g.D.Desk.seen c.args.desk.now) (g.D.Desk.seen c.answer_of.new.desk)) in
    subst Told c.in_ok-release.ensures.cases c.answer_of.ensures.told
