-- Two spans by day over Test/H, in whatever calendar.
use Rattle.std.proofs.Common.{◌≡◌, ℕ, ◌*◌, ◌/◌, ◌<◌, ◌≤◌, false, ℤ, pos, ◌+ℤ◌, Ok, Result, refl, ap, subst, ⊎_elim, arith}
use Rattle.std.proofs.lemmas.Int.{ints}
use Rattle.std.proofs.lemmas.Bool.{cases_lt}
use Rattle.timebase.specs.declared.fault.Fault.{Fault}
use Rattle.timebase.specs.Splits.{floor_quotient, floor_rest}
use Rattle.calendar.specs.Calendars.{Calendar}
use Rattle.local_times.specs.Locals.{Known}
use Rattle.span_law.specs.declared.unit.Unit.TheVariants.{Day}
use Rattle.span_law.specs.declared.way.Way.TheVariants.{Onward as onward}
use Rattle.span_law.specs.Measuring.{result_not_past, reach, measure_answer}
use Rattle.known_days.specs.Moves.{at_second, span}
use Rattle.known_days.proofs.Zones.{test_h, in_summer, in_autumn, clear_h, laws_h}
use Rattle.known_days.proofs.Meetings.{met_first, met_late}
use Rattle.known_days.proofs.Reaching.{At, reach_met, none_past, apart_at, measured_at}

known_h : (s : ℕ) → s ≤ 3000000 → Known test_h (at_second s)
known_h s h = record { low = omega (arith, ints); high = omega (arith, ints); sure = clear_h (pos (s * 1000000 / 1000000)) }

-- ── from the second 05:00 ──

second_five : At test_h (at_second 2001600) 719186 18000 0
second_five =
    let ahead = in_autumn (pos 2001600) (omega (arith, ints)) in
    record {
      known = known_h 2001600 (omega arith);
      day_is = ap (λ (o : ℤ). floor_quotient (pos 2001600 +ℤ o) 86400 +ℤ pos 719163) ahead;
      clock_is = ap (λ (o : ℤ). floor_rest (pos 2001600 +ℤ o) 86400) ahead;
      micros_is = refl;
      day_one = omega arith;
    }

-- a day on it is past the end
not_a_day : (j : ℕ) → 0 < j → result_not_past onward (reach test_h (at_second 2001600) onward j) (at_second 2086200) ≡ false
not_a_day j h =
    ⊎_elim
    (λ (k : 1 < j). none_past test_h (at_second 2001600) 719186 18000 0 second_five laws_h (at_second 2086200) 1 (omega (arith, ints)) j k)
    (λ (k : j ≤ 1).
    let one : 1 ≡ j = omega arith in
    subst (λ (n : ℕ). result_not_past onward (reach test_h (at_second 2001600) onward n) (at_second 2086200) ≡ false) one
    (ap (λ (o : Result ℤ Fault). result_not_past onward o (at_second 2086200))
    (reach_met test_h (at_second 2001600) 719186 18000 0 second_five 1 (pos 2088000) (omega arith) (omega arith) (met_late (pos 2088000) (pos 2091600) (omega (arith, ints)) refl))))
    (cases_lt 1 j)

own : reach test_h (at_second 2001600) onward 0 ≡ Ok (at_second 2001600)
unfolding reach
own = refl

pub short_of_a_day : (c : Calendar) → measure_answer test_h c Day (at_second 2001600) (at_second 2086200) ≡ Ok (span 0 0 0 23 30)
short_of_a_day c =
    measured_at test_h (at_second 2001600) 719186 18000 0 second_five c Day (at_second 2086200) (at_second 2001600) 0 (known_h 2086200 (omega arith)) (omega (arith, ints)) refl
    (apart_at test_h (at_second 2001600) 719186 18000 0 second_five (at_second 2086200) (at_second 2001600) 0 (omega arith) (omega (arith, ints)) own (omega (arith, ints)) not_a_day)
    own

-- ── from 05:20 on the day before ──

day_before : At test_h (at_second 1912800) 719185 19200 0
day_before =
    let ahead = in_summer (pos 1912800) (omega (arith, ints)) (omega (arith, ints)) in
    record {
      known = known_h 1912800 (omega arith);
      day_is = ap (λ (o : ℤ). floor_quotient (pos 1912800 +ℤ o) 86400 +ℤ pos 719163) ahead;
      clock_is = ap (λ (o : ℤ). floor_rest (pos 1912800 +ℤ o) 86400) ahead;
      micros_is = refl;
      day_one = omega arith;
    }

first_twenty_past : reach test_h (at_second 1912800) onward 1 ≡ Ok (at_second 1999200)
first_twenty_past = reach_met test_h (at_second 1912800) 719185 19200 0 day_before 1 (pos 1999200) (omega arith) (omega arith) (met_first (pos 1999200) (pos 2006400) (omega (arith, ints)) (omega (arith, ints)) refl)

pub over_a_day : (c : Calendar) → measure_answer test_h c Day (at_second 1912800) (at_second 2001600) ≡ Ok (span 0 0 1 0 40)
over_a_day c =
    measured_at test_h (at_second 1912800) 719185 19200 0 day_before c Day (at_second 2001600) (at_second 1999200) 1 (known_h 2001600 (omega arith)) (omega (arith, ints)) refl
    (apart_at test_h (at_second 1912800) 719185 19200 0 day_before (at_second 2001600) (at_second 1999200) 1 (omega arith) (omega (arith, ints)) first_twenty_past (omega (arith, ints))
    (none_past test_h (at_second 1912800) 719185 19200 0 day_before laws_h (at_second 2001600) 1 (omega (arith, ints))))
    first_twenty_past
