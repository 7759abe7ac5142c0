use Rattle.std.proofs.Common.{refl, false}
use Rattle.desk_expr.proofs.ProgressLemmas.{nothing_read}
use Rattle.desk_expr.proofs.progress.Progress.new.Goals as goal

pub returns : goal.returns
returns c =
    nothing_read (record { reader = c.new.result; counts = c.new-2.result; started = false })
    c.new.ensures c.new-2.ensures.open_places c.new-2.ensures.terms c.new-2.ensures.after_with refl
