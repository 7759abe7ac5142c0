use Rattle.desk_base.proofs.Days.{written_day_is_text}
use Rattle.desk_base.proofs.day.Day.as_str.Goals as goal

pub unreachable-requires : goal.unreachable-requires
unreachable-requires c = c.in-Err.ensures.cases.0
    (written_day_is_text c.self.inside.text c.self.invariant)
