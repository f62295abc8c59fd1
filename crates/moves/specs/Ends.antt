-- Where a measuring ends.
use Rattle.std.specs.Prelude.{ℕ, ◌≤◌, ℤ, pos, negsuc, ◌+ℤ◌, ◌≤ℤ◌}
use Rattle.calendar.specs.Calendars.{last_day}
use Rattle.span_law.specs.declared.way.Way.{Way}
use Rattle.span_law.specs.Stepping.{signed}

-- the day n days off the day s is there, and its reach r lies near the range of instants
pub record EndDay (way : Way) (s n : ℕ) (r : ℤ) : Type 0 where
  pub few : n ≤ last_day
  pub first : pos 1 ≤ℤ (pos s +ℤ signed way n)
  pub last : (pos s +ℤ signed way n) ≤ℤ pos last_day
  pub low : negsuc 62135683198999999 ≤ℤ r
  pub high : r ≤ℤ pos 253402387198999999
