-- The end day, and the span by dates from what the code has.
use Rattle.std.proofs.Common.{◌≡◌, ℕ, zero, suc, ◌≤◌, ℤ, pos, negsuc, ◌+ℤ◌, ◌-ℤ◌, ◌≤ℤ◌, Ok, sym, refl, ap, ◌∙◌, subst, arith}
use Rattle.std.proofs.lemmas.Int.{ints}
use Rattle.zone.specs.Zones.{Zone, ZoneLaws}
use Rattle.calendar.specs.Calendars.{Calendar, last_day}
use Rattle.span_law.specs.declared.way.Way.{Way}
use Rattle.span_law.specs.declared.way.Way.TheVariants.{Onward as onward, Back as back}
use Rattle.span_law.specs.declared.unit.Unit.{Unit as Measure}
use Rattle.span_law.specs.declared.unit.Unit.TheVariants.{Year, Month, Week, Day, Hour}
use Rattle.local_times.specs.declared.local_time.LocalTime.{LocalTime}
use Rattle.local_times.specs.Locals.{Known, Shows}
use Rattle.moves.specs.Ends.{EndDay}
use Rattle.span_law.specs.Standing.{Leads}
use Rattle.span_law.specs.Carrying.{natural}
use Rattle.span_law.specs.Measuring.{far_day, reach, days_apart, start_day, end_day, time_from, parts_by, span_of, measured_dates, measured_by}
use Rattle.span_law.specs.Stepping.{signed}
use Rattle.local_times.proofs.Locals.{start_inside}
use Rattle.span_law.proofs.Reaches.{reach_none, met_far, far_inside}
use Rattle.span_law.proofs.Meetings.{met_range}

-- a reach lies near the range of instants
record ReachRange (r : ℤ) : Type 0 where
  pub low : negsuc 62135683198999999 ≤ℤ r
  pub high : r ≤ℤ pos 253402387198999999

range_of : (zone : Zone) → ZoneLaws zone → (a : ℤ) → Known zone a → (way : Way) (n : ℕ) (r : ℤ) → reach zone a way n ≡ Ok r → ReachRange r
range_of zone laws a k way zero r e =
    let s = reach_none zone a way r e in
    let l = k.low in
    let h = k.high in
    record { low = omega (arith, ints); high = omega (arith, ints) }
range_of zone laws a k way (suc n) r e =
    let i = far_inside zone a way (suc n) r (start_inside zone a laws k) e in
    let m = met_range zone laws a (far_day zone a way (suc n)) r i.0 i.1 (met_far zone a way (suc n) r (omega arith) e) in
    record { low = omega (arith, ints, m.0); high = m.1 }

pub end_of : (zone : Zone) → ZoneLaws zone → (a : ℤ) (l : LocalTime) → Shows zone a l → (way : Way) (n : ℕ) (r : ℤ) → n ≤ last_day → reach zone a way n ≡ Ok r → EndDay way l.day n r
end_of zone laws a l s way n r h e =
    let g = range_of zone laws a s.known way n r e in
    let i = far_inside zone a way n r (start_inside zone a laws s.known) e in
    record {
      first = subst (λ (z : ℤ). pos 1 ≤ℤ (z +ℤ signed way n)) (sym s.day_is) i.0;
      last = subst (λ (z : ℤ). (z +ℤ signed way n) ≤ℤ pos last_day) (sym s.day_is) i.1;
      few = h;
      low = g.low;
      high = g.high;
    }

pub leads_to : (way : Way) (s e n : ℕ) → pos e ≡ pos s +ℤ signed way n → Leads way s e
leads_to onward s e n h = omega (arith, ints)
leads_to back s e n h = omega (arith, ints)

pub dates_are : (zone : Zone) (c : Calendar) (a b : ℤ) (way : Way) (unit : Measure) (l : LocalTime) → Shows zone a l → (n e : ℕ) (r t : ℤ) → pos e ≡ pos l.day +ℤ signed way n → n ≡ days_apart zone a way b → reach zone a way n ≡ Ok r → t ≡ b -ℤ r →
    span_of way (parts_by c way l.day e unit) t ≡ measured_dates zone a way b c unit
dates_are zone c a b way unit l s n e r t h f g i =
    let start : l.day ≡ start_day zone a way = ap natural s.day_is in
    let end : e ≡ end_day zone a way b = ap natural (h ∙ ap (λ (z : ℤ). z +ℤ signed way n) s.day_is ∙ ap (far_day zone a way) f) in
    let time : t ≡ time_from zone a way b (reach zone a way (days_apart zone a way b)) = i ∙ ap (time_from zone a way b) (sym g ∙ ap (reach zone a way) f) in
    ap (λ (d : ℕ). span_of way (parts_by c way d e unit) t) start
    ∙ ap (λ (x : ℕ). span_of way (parts_by c way (start_day zone a way) x unit) t) end
    ∙ ap (span_of way (parts_by c way (start_day zone a way) (end_day zone a way b) unit)) time

pub not_hour : (zone : Zone) (a : ℤ) (way : Way) (b : ℤ) (c : Calendar) (unit : Measure) → (unit ≡ Hour → ⊥) → measured_dates zone a way b c unit ≡ measured_by zone a way b c unit
not_hour zone a way b c Year h = refl
not_hour zone a way b c Month h = refl
not_hour zone a way b c Week h = refl
not_hour zone a way b c Day h = refl
not_hour zone a way b c Hour h = absurd (h refl)
