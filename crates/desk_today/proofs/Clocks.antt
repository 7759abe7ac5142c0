-- The day of what a clock shows.
use Rattle.std.proofs.Common.{◌≡◌, ℤ, pos, ◌+ℤ◌, ◌*ℤ◌, arith, subst, sym}
use Rattle.jiff_core.specs.DateTime.{civil_nanos}
use Rattle.jiff_core.specs.Timestamp.{nanos_of_seconds}
use Rattle.jiff_core.specs.declared.civil.date.Date.{Date}
use Rattle.jiff_core.specs.declared.civil.datetime.DateTime.{DateTime}
use Rattle.jiff_core.proofs.DateTimeLemmas.{civil_nanos-parts, time_nanos_bound}
use Rattle.jiff_core.proofs.SignedLemmas.{signed_arith}
use Rattle.jiff_tz.specs.Zone.{offset_at}
use Rattle.jiff_tz.specs.declared.timezone.TimeZone.{TimeZone}
use Rattle.desk_today.specs.Days.{ShowsDay}

-- the date of a datetime is the day of its second
pub shows_day : (seconds : ℤ) (zone : TimeZone) (dt : DateTime)
    → civil_nanos dt ≡ seconds *ℤ pos 1_000_000_000
    +ℤ nanos_of_seconds (offset_at zone (seconds *ℤ pos 1_000_000_000))
    → ShowsDay seconds zone dt.date
shows_day seconds zone dt shown = (
  omega (arith, signed_arith, civil_nanos-parts dt, time_nanos_bound dt.time),
  omega (arith, signed_arith, civil_nanos-parts dt, time_nanos_bound dt.time),
)

-- the same of a date that was taken from the datetime of an instant
pub date_shown : (seconds nanos : ℤ) (zone : TimeZone) (dt : DateTime) (date : Date)
    → nanos ≡ seconds *ℤ pos 1_000_000_000
    → civil_nanos dt ≡ nanos +ℤ nanos_of_seconds (offset_at zone nanos) → date ≡ dt.date
    → ShowsDay seconds zone date
date_shown seconds nanos zone dt date same shown is =
    subst (λ (d : Date). ShowsDay seconds zone d) (sym is)
    (shows_day seconds zone dt
    (subst (λ n. civil_nanos dt ≡ n +ℤ nanos_of_seconds (offset_at zone n)) same shown))
