-- How near a meeting lies to its local time, and a day's reach to the instant that many days off.
use Rattle.std.proofs.Common.{◌≡◌, ℕ, zero, suc, ◌≤◌, ℤ, pos, negsuc, ◌+ℤ◌, ◌-ℤ◌, ◌*ℤ◌, neg_ℤ, ◌≤ℤ◌, Ok, Err, Result, sym, refl, arith}
use Rattle.std.proofs.lemmas.Int.{ints}
use Rattle.timebase.specs.declared.fault.Fault.{Fault}
use Rattle.timebase.specs.Splits.{floor_quotient}
use Rattle.zone.specs.Zones.{Zone, ZoneLaws, offset}
use Rattle.local_times.specs.Meeting.{meeting, Near}
use Rattle.local_times.proofs.Locals.{floor_day, floor_second}
use Rattle.local_times.proofs.Nearness.{offset_bounds, meeting_near}
use Rattle.local_times.proofs.Results.{err_ok, ok_same}
use Rattle.calendar.specs.Calendars.{last_day}
use Rattle.span_law.specs.declared.way.Way.{Way}
use Rattle.span_law.specs.declared.way.Way.TheVariants.{Onward as onward, Back as back}
use Rattle.local_times.specs.Chains.{◌>>=◌}
use Rattle.local_times.specs.Locals.{second_of, micros_of, local_second, clock_second, count_of}
use Rattle.span_law.specs.Carrying.{met_on}
use Rattle.span_law.specs.Measuring.{far_day, reach}
use Rattle.span_law.specs.Stepping.{signed}
use Rattle.span_law.proofs.Reaches.{met_far, reach_none}

-- the second met on a day
pub record Met (zone : Zone) (a day r : ℤ) : Type 0 where
  pub second : ℤ
  pub near : Near (count_of day (clock_second zone a)) second
  pub is : r ≡ (second *ℤ pos 1000000) +ℤ pos (micros_of a)

met_by : (zone : Zone) (laws : ZoneLaws zone) (a day r : ℤ) (o : Result ℤ Fault) → meeting zone (count_of day (clock_second zone a)) ≡ o →
    (o >>= λ s. Ok ((s *ℤ pos 1000000) +ℤ pos (micros_of a))) ≡ Ok r → Met zone a day r
met_by zone laws a day r (Ok s) f e = record { second = s; near = meeting_near zone laws (count_of day (clock_second zone a)) s f; is = sym (ok_same e) }
met_by zone laws a day r (Err x) f e = err_ok e

pub met_is : (zone : Zone) (laws : ZoneLaws zone) (a day r : ℤ) → met_on zone a day ≡ Ok r → Met zone a day r
met_is zone laws a day r e = met_by zone laws a day r (meeting zone (count_of day (clock_second zone a))) refl e

-- what is met on a day in range lies less than two days outside the range of all days
pub met_range : (zone : Zone) → ZoneLaws zone → (a day r : ℤ) → pos 1 ≤ℤ day → day ≤ℤ pos last_day → met_on zone a day ≡ Ok r → (neg_ℤ (pos 62135683199000000) ≤ℤ r) × (r ≤ℤ pos 253402387198999999)
met_range zone laws a day r l h e =
    let m = met_is zone laws a day r e in
    by day (clock_second zone a) (micros_of a) m.second l h (floor_day (local_second zone a)).1 (floor_second a).1 m.near m.is
  where
    by : (d : ℤ) (k u : ℕ) (s : ℤ) → pos 1 ≤ℤ d → d ≤ℤ pos last_day → k ≤ 86399 → u ≤ 999999 → Near (count_of d k) s → r ≡ (s *ℤ pos 1000000) +ℤ pos u → (neg_ℤ (pos 62135683199000000) ≤ℤ r) × (r ≤ℤ pos 253402387198999999)
    by d k u s l h k1 u1 n e = let p = n.low in let q = n.high in omega (arith, ints)

-- and less than two days from the instant that many days off
pub reach_near : (zone : Zone) → ZoneLaws zone → (a : ℤ) (way : Way) (n : ℕ) (r : ℤ) → reach zone a way n ≡ Ok r →
    (((a +ℤ (signed way n *ℤ pos 86400000000)) -ℤ pos 172798000000) ≤ℤ r) × (r ≤ℤ ((a +ℤ (signed way n *ℤ pos 86400000000)) +ℤ pos 172798000000))
reach_near zone laws a way zero r e = by way (reach_none zone a way r e)
  where
    by : (w : Way) → r ≡ a → (((a +ℤ (signed w 0 *ℤ pos 86400000000)) -ℤ pos 172798000000) ≤ℤ r) × (r ≤ℤ ((a +ℤ (signed w 0 *ℤ pos 86400000000)) +ℤ pos 172798000000))
    by onward e = omega (arith, ints)
    by back e = omega (arith, ints)
reach_near zone laws a way (suc n) r e =
    let m = met_is zone laws a (far_day zone a way (suc n)) r (met_far zone a way (suc n) r (omega arith) e) in
    by (signed way (suc n)) (second_of a) (micros_of a) (offset (zone (second_of a))) (floor_quotient (local_second zone a) 86400) (clock_second zone a) m.second
    (floor_second a).0 (offset_bounds (zone (second_of a)) (laws.sound (second_of a))) (floor_day (local_second zone a)).0 m.near m.is
  where
    by : (n s : ℤ) (u : ℕ) (o q : ℤ) (k : ℕ) (t : ℤ) → (s *ℤ pos 1000000) +ℤ pos u ≡ a → (negsuc 86398 ≤ℤ o) × (o ≤ℤ pos 86399) → (q *ℤ pos 86400) +ℤ pos k ≡ s +ℤ o →
        Near (count_of ((q +ℤ pos 719163) +ℤ n) k) t → r ≡ (t *ℤ pos 1000000) +ℤ pos u →
        (((a +ℤ (n *ℤ pos 86400000000)) -ℤ pos 172798000000) ≤ℤ r) × (r ≤ℤ ((a +ℤ (n *ℤ pos 86400000000)) +ℤ pos 172798000000))
    by n s u o q k t e1 e2 e3 near e4 = let p = near.low in let w = near.high in omega (arith, ints)
