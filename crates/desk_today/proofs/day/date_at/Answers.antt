use Rattle.std.proofs.Common.{FitsSigned, w64}
use Rattle.std.proofs.lemmas.Int.{to_z-of_z}
use Rattle.jiff.specs.ZoneView.{plain_zone}
use Rattle.desk_today.proofs.Clocks.{date_shown}
use Rattle.desk_today.proofs.day.date_at.Goals as goal

pub returns-in-Ok-clause-day : goal.returns-in-Ok-clause-day
returns-in-Ok-clause-day c =
    let fits : FitsSigned w64 c.args.seconds = c.ranges.seconds in
    let same = simp to_z-of_z at c.in-Ok.ensures.value in
    date_shown c.args.seconds c.in-Ok.instant.nanosecond (plain_zone c.args.zone.now)
    c.to_datetime.result c.date.result same c.to_datetime.ensures c.date.ensures
