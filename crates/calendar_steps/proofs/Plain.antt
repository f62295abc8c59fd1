-- The code's facts at plain numbers and at the calendar's own dates.
use Rattle.std.proofs.Common.{◌≡◌, ℕ, zero, suc, ◌+◌, ◌-◌, ◌/◌, ◌%◌, Bool, ℤ, pos, ◌-ℤ◌, nat_abs, Some, None, sym, refl, ap, ◌∙◌, subst, arith}
use lib.Signed.{quot_z, rem_z}
use Rattle.std.proofs.lemmas.Int.{ints}
use Rattle.years.specs.declared.date.Date.{Date}
use Rattle.calendar.specs.Calendars.{Calendar}
use Rattle.span_law.specs.declared.way.Way.{Way}
use Rattle.span_law.specs.declared.way.Way.TheVariants.{Onward as onward, Back as back}
use Rattle.span_law.specs.declared.year_month.YearMonth.{YearMonth}
use Rattle.timebase.specs.declared.span.Span.{Span}
use Rattle.calendar_steps.specs.declared.dated.Dated.{Dated}
use Rattle.span_law.specs.Standing.{Leads}
use Rattle.calendar_steps.specs.Standing.{IsDated, Between}
use Rattle.calendar_steps.specs.Days.{weeks_of}
use Rattle.span_law.specs.declared.unit.Unit.TheVariants.{Week}
use Rattle.span_law.specs.Measuring.{parts_by, date_not_past, distance, days_left, span_of}
use Rattle.span_law.specs.Stepping.{signed, year_on, month_day_on}
use Rattle.span_law.proofs.Steps.{month_at, month_of}

module _ (c : Calendar) (way : Way) (d x years : ℕ) where
  -- the month after the years
  pub year_is : (p : YearMonth) (from : Date) (z : ℤ) → from ≡ c.date d → z ≡ signed way years → Some p ≡ year_on c from z → year_on c (c.date d) (signed way years) ≡ Some p
  year_is p from z e f g = sym (g ∙ ap (λ (q : Date). year_on c q z) e ∙ ap (year_on c (c.date d)) f)

  -- the end's month
  pub month_is : (to : Date) (y : ℤ) → to ≡ c.date x → y ≡ to.year → month_at y to.month ≡ month_of (c.date x)
  month_is to y e f = ap (λ (z : ℤ). month_at z to.month) f ∙ ap month_of e

  pub test_is : (t : Bool) (from to : Date) (y : ℤ) → from ≡ c.date d → to ≡ c.date x → y ≡ to.year → t ≡ date_not_past way (month_at y to.month) from.day to →
      date_not_past way (month_of (c.date x)) (c.date d).day (c.date x) ≡ t
  test_is t from to y e f g h =
      sym (h ∙ ap (λ (q : YearMonth). date_not_past way q from.day to) (month_is to y f g)
      ∙ ap (λ (q : Date). date_not_past way (month_of (c.date x)) q.day to) e
      ∙ ap (date_not_past way (month_of (c.date x)) (c.date d).day) f)

  module _ (months : ℕ) (y m : ℤ) (e : y ≡ signed way years) (f : m ≡ signed way months) where
    pub left_some : (n r : ℕ) → Some n ≡ month_day_on c d y m → r ≡ (x - n) + (n - x) → r ≡ days_left c way d x years months
    unfolding days_left
    left_some n r g h =
        let q : (x - n) + (n - x) ≡ nat_abs (pos x -ℤ pos n) = omega (arith, ints) in
        h ∙ q ∙ ap (distance c way d x) (g ∙ ap (λ (z : ℤ). month_day_on c d z m) e ∙ ap (month_day_on c d (signed way years)) f)

    pub left_none : None ≡ month_day_on c d y m → 0 ≡ days_left c way d x years months
    unfolding days_left
    left_none g = ap (distance c way d x) (g ∙ ap (λ (z : ℤ). month_day_on c d z m) e ∙ ap (month_day_on c d (signed way years)) f)

pub between_them : (c : Calendar) (way : Way) (start end : ℕ) (from to : Dated) → from.number ≡ start → to.number ≡ end → IsDated c from → IsDated c to → Leads way start end → Between c way from to
between_them c way start end from to e f h k l =
    record { start = h; end = k; leads = subst (λ (n : ℕ). Leads way n to.number) (sym e) (subst (λ (n : ℕ). Leads way start n) (sym f) l) }

-- ── weeks ──

days_are : (way : Way) (s e : ℕ) → Leads way s e → pos e -ℤ pos s ≡ signed way (nat_abs (pos e -ℤ pos s))
days_are onward s e h = omega (arith, ints)
days_are back s e h = omega (arith, ints)

quot_signed : (way : Way) (n : ℕ) → quot_z (signed way n) (pos 7) ≡ signed way (n / 7)
quot_signed onward n = refl
quot_signed back zero = refl
quot_signed back (suc n) = refl

rem_signed : (way : Way) (n : ℕ) → rem_z (signed way n) (pos 7) ≡ signed way (n % 7)
rem_signed onward n = refl
rem_signed back zero = refl
rem_signed back (suc n) = refl

module _ (way : Way) (s e : ℕ) (l : Leads way s e) (z : ℤ) (f : z ≡ pos e -ℤ pos s) where
  pub weeks_are : quot_z z (pos 7) ≡ signed way (nat_abs (pos e -ℤ pos s) / 7)
  weeks_are = ap (λ (x : ℤ). quot_z x (pos 7)) (f ∙ days_are way s e l) ∙ quot_signed way (nat_abs (pos e -ℤ pos s))

  pub rest_is : rem_z z (pos 7) ≡ signed way (nat_abs (pos e -ℤ pos s) % 7)
  rest_is = ap (λ (x : ℤ). rem_z x (pos 7)) (f ∙ days_are way s e l) ∙ rem_signed way (nat_abs (pos e -ℤ pos s))

week_span : (way : Way) (n m : ℕ) (w d : ℤ) → w ≡ signed way n → d ≡ signed way m →
    ◌≡◌ {A = Span} (record { years = pos 0; months = pos 0; weeks = w; days = d; time = pos 0 }) (span_of way (record { years = 0; months = 0; weeks = n; days = m }) (pos 0))
week_span onward n m w d e f = λ i. record { years = pos 0; months = pos 0; weeks = e i; days = f i; time = pos 0 }
week_span back n m w d e f = λ i. record { years = pos 0; months = pos 0; weeks = e i; days = f i; time = pos 0 }

pub weeks_span : (c : Calendar) (way : Way) (s e : ℕ) → Leads way s e → weeks_of (pos e -ℤ pos s) ≡ span_of way (parts_by c way s e Week) (pos 0)
weeks_span c way s e l =
    week_span way (nat_abs (pos e -ℤ pos s) / 7) (nat_abs (pos e -ℤ pos s) % 7) (quot_z (pos e -ℤ pos s) (pos 7)) (rem_z (pos e -ℤ pos s) (pos 7))
    (weeks_are way s e l (pos e -ℤ pos s) refl) (rest_is way s e l (pos e -ℤ pos s) refl)
