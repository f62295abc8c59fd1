-- The known moves.
use Rattle.std.proofs.Common.{ℕ, List, ℤ, pos, Ok, Result, refl, ap, arith, ◌*ℤ◌, ◌+ℤ◌}
use Rattle.std.proofs.lemmas.Int.{ints}
use Rattle.timebase.specs.declared.fault.Fault.{Fault}
use Rattle.calendar.specs.Joining.{joined as calendars_joined}
use Rattle.calendar.specs.Singles.{single}
use Rattle.zone.specs.Joining.{joined as zones_joined}
use Rattle.zone_rule.specs.Naming.{named_zone}
use Rattle.local_times.specs.Chains.{◌>>=◌}
use Rattle.known_days.specs.Moves.{gregorian_calendar, KnownMoves}
use Rattle.known_days.proofs.Days.{gregorian_day}
use Rattle.known_days.proofs.Zones.{utc, test_h}
use Rattle.known_days.proofs.ByDay.{short_of_a_day, over_a_day}
use Rattle.known_days.proofs.Hebrew.{carried_a_year}
use Rattle.known_days.proofs.Uncut.{measured_uncut}
use Rattle.known_days.proofs.Meetings.{met_skipped, met_first}

-- the meeting of a second, as an instant
as_instant : Result ℤ Fault → Result ℤ Fault
as_instant r = r >>= λ s. Ok ((s *ℤ pos 1000000) +ℤ pos 0)

pub known_moves : (one two : List ℕ) → KnownMoves one two
unfolding as_instant zones_joined calendars_joined named_zone single test_h utc
known_moves one two = record {
  gregorian_there = (omega arith, refl);
  hebrew_there = (omega arith, refl);
  utc_there = (omega arith, refl);
  test_h_there = (omega arith, refl);
  skipped = record { date = gregorian_day tt refl; met = ap as_instant met_skipped };
  repeated = record { date = gregorian_day tt refl; met = ap as_instant (met_first (pos 1998000) (pos 2005200) (omega (arith, ints)) (omega (arith, ints)) refl) };
  short_of_a_day = short_of_a_day gregorian_calendar;
  over_a_day = over_a_day gregorian_calendar;
  carried_a_year = carried_a_year;
  measured_uncut = measured_uncut;
}
