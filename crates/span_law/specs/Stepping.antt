-- Stepping over a calendar: by years to the twin month, by months, and by days.
use Rattle.std.specs.Prelude.{ℕ, zero, suc, ◌+◌, ◌-◌, min, cond, ℤ, pos, negsuc, ◌+ℤ◌, ◌-ℤ◌, ◌*ℤ◌, neg_ℤ, Some, None, Option, int_lt, nat_lt, unsigned_abs}
use Rattle.timebase.specs.declared.span.Span.{Span}
use Rattle.years.specs.declared.date.Date.{Date}
use Rattle.calendar.specs.Calendars.{Calendar, last_day, within}
use Rattle.span_law.specs.declared.way.Way.{Way}
use Rattle.span_law.specs.declared.way.Way.TheVariants.{Onward as onward, Back as back}
use Rattle.span_law.specs.declared.year_month.YearMonth.{YearMonth}

-- a number in a direction
abbrev pub signed : Way → ℕ → ℤ
signed onward n = pos n
signed back n = neg_ℤ (pos n)

-- the direction of a number: nought is onward
abbrev pub way_of : ℤ → Way
way_of (pos n) = onward
way_of (negsuc n) = back

-- a day number, where there is such a day
abbrev pub in_days : ℤ → Option ℤ
in_days n = cond (within (pos 1) (pos last_day) n) (Some n) None

-- f of what is there
abbrev pub and_then : {A B : Type 0} → Option A → (A → Option B) → Option B
and_then (Some a) f = f a
and_then None f = None

module _ (c : Calendar) where
  abbrev pub month_after : YearMonth → Option YearMonth
  month_after p =
      cond (nat_lt p.month (c.months p.year))
      (Some (record { year = p.year; month = p.month + 1 }))
      (cond (int_lt p.year c.last) (Some (record { year = p.year +ℤ pos 1; month = 1 })) None)

  abbrev pub month_before : YearMonth → Option YearMonth
  month_before p =
      cond (nat_lt 1 p.month)
      (Some (record { year = p.year; month = p.month - 1 }))
      (cond (int_lt c.first p.year)
      (Some (record { year = p.year -ℤ pos 1; month = c.months (p.year -ℤ pos 1) }))
      None)

  abbrev pub month_beside : Way → YearMonth → Option YearMonth
  month_beside onward p = month_after p
  month_beside back p = month_before p

  -- n months further
  unfoldable pub months_on : Way → ℕ → YearMonth → Option YearMonth
  months_on way zero p = Some p
  months_on way (suc n) p = and_then (months_on way n p) (month_beside way)

  -- the same month of another year, where the calendar has that year
  unfoldable pub year_on : Date → ℤ → Option YearMonth
  year_on d years =
      cond (within c.first c.last (d.year +ℤ years))
      (Some (record { year = d.year +ℤ years; month = c.twin d.year d.month (d.year +ℤ years) }))
      None

  abbrev pub cut : ℕ → YearMonth → Date
  cut day p = record { year = p.year; month = p.month; day = min day (c.size p.year p.month) }

  -- the day number after years and months
  unfoldable pub month_day_on : ℕ → ℤ → ℤ → Option ℕ
  month_day_on day years months =
      and_then (year_on (c.date day) years) λ p.
      and_then (months_on (way_of months) (unsigned_abs months) p) λ q.
      c.number (cut (c.date day).day q)

  -- the day number after years, months, weeks and days
  unfoldable pub day_on : ℕ → Span → Option ℤ
  day_on day s =
      and_then (month_day_on day s.years s.months) λ n.
      in_days (pos n +ℤ ((pos 7 *ℤ s.weeks) +ℤ s.days))
