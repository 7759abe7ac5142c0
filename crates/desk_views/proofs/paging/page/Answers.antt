use Rattle.desk_model.specs.declared.command.Outcome.TheVariants.{Answered}
use Rattle.desk_core.specs.Desks.{InHistory}
use Rattle.desk_subcommands.specs.Filing.{outcome_line}
use Rattle.desk_subcommands.proofs.FilingLemmas.{answered}
use Rattle.desk_views.specs.Paging.{IsOther}
use Rattle.desk_views.proofs.PageLemmas.{failed_told, other_told, page_told, page_written}
use Rattle.desk_views.proofs.paging.page.Goals as goal

pub returns-in-Ok-clause-done : goal.returns-in-Ok-clause-done
returns-in-Ok-clause-done g c =
    page_written g.D.Desk.are_right c.args.release.now (g.D.Desk.seen c.args.desk.now)
    (g.D.Desk.seen c.contents_of.new.desk)
    (g.W.Write.contents c.args.writer.now) (g.W.Write.contents c.write_page.new.writer)
    c.in-Ok.contents c.write_page.result c.in-Ok.ensures.found
    c.write_page.ensures.told

pub returns-in-Ok-clause-failed : goal.returns-in-Ok-clause-failed
returns-in-Ok-clause-failed g c = page_told _ c.write_page.result c.write_page.ensures.fails

pub returns-in-Err-clause-done : goal.returns-in-Err-clause-done
returns-in-Err-clause-done g c =
    let r = c.args.release.now in
    let a = g.D.Desk.seen c.args.desk.now in
    let b = g.D.Desk.seen c.contents_of.new.desk in
    let old = g.W.Write.contents c.args.writer.now in
    let new = g.W.Write.contents c.tell_instead.new.writer in
    other_told g.D.Desk.are_right r a b old new c.tell_instead.result
    (answered (λ o. InHistory g.D.Desk.are_right (λ w h. IsOther w h r o) a b)
    (λ answer. outcome_line (Answered answer)) old new c.in-Err.outcome
    c.tell_instead.result c.in-Err.ensures.found c.tell_instead.ensures.done)

pub returns-in-Err-clause-failed : goal.returns-in-Err-clause-failed
returns-in-Err-clause-failed g c =
    failed_told (g.W.Write.contents c.args.writer.now)
    (g.W.Write.contents c.tell_instead.new.writer) c.in-Err.outcome c.tell_instead.result
    c.tell_instead.ensures.failed
