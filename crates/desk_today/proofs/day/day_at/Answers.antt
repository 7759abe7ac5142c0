use Rattle.std.proofs.Common.{◌∙◌, FitsSigned, w64}
use Rattle.std.proofs.lemmas.Int.{to_z-of_z}
use Rattle.desk_today.proofs.day.day_at.Goals as goal

pub returns-in_ok-of-in-Some-clause-day : goal.returns-in_ok-of-in-Some-clause-day
returns-in_ok-of-in-Some-clause-day c =
    let fits : FitsSigned w64 c.args.seconds = c.ranges.seconds in
    let shows = simp to_z-of_z at c.in-Some.ensures.day in (
      c.in-Some.date,
      shows,
      c.in_ok-of-in-Some.ensures ∙ (c.as_str.ensures.value ∙ c.in_ok-text-in-Some.ensures.ok),
    )
