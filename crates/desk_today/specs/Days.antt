-- The day that a clock shows at an instant.
use Rattle.std.specs.Prelude.{◌≡◌, ℕ, List, ℤ, pos, ◌+ℤ◌, ◌*ℤ◌, ◌≤ℤ◌, ◌<ℤ◌, ⊤}
use Rattle.jiff_core.specs.Date.{epoch_day}
use Rattle.jiff_core.specs.Timestamp.{IsTimestampNanos, nanos_of_seconds}
use Rattle.jiff_core.specs.declared.civil.date.Date.{Date}
use Rattle.jiff_fmt.specs.Text.{date_text}
use Rattle.jiff_tz.specs.Zone.{offset_at}
use Rattle.jiff_tz.specs.declared.timezone.TimeZone.{TimeZone}
use Rattle.desk_today.specs.declared.day.NoDay.{NoDay}
use Rattle.desk_today.specs.declared.day.NoDay.TheVariants.{Memory, Range}

-- what a clock in a zone shows, in seconds, so many seconds after 1970-01-01T00:00:00Z
abbrev pub shown_seconds : ℤ → TimeZone → ℤ
shown_seconds seconds zone = seconds +ℤ offset_at zone (nanos_of_seconds seconds)

-- the first second of a day
abbrev pub first_second : ℤ → ℤ
first_second day = day *ℤ pos 86400

-- the second that the clock shows is one of the 86,400 of this day
abbrev pub ShowsDay : ℤ → TimeZone → Date → Type 0
ShowsDay seconds zone date =
    (first_second (epoch_day date) ≤ℤ shown_seconds seconds zone)
    × (shown_seconds seconds zone <ℤ first_second (epoch_day date +ℤ pos 1))

-- only an instant outside the years -9999 to 9999 has no day
abbrev pub IsFaultAt : ℤ → NoDay → Type 0
IsFaultAt seconds Memory = ⊤
IsFaultAt seconds Range = IsTimestampNanos (nanos_of_seconds seconds) → ⊥

-- a text is the day that some clock shows in some zone, as ISO 8601-1 writes it
abbrev pub IsSomeDay : List ℕ → Type 0
IsSomeDay text = (seconds : ℤ) × ((zone : TimeZone) × ((date : Date) × ShowsDay seconds zone date
    × (text ≡ date_text date)))
