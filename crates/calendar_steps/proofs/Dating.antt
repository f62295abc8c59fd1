-- The day after years, months, weeks and days, step by step.
use Rattle.std.proofs.Common.{◌≡◌, ℕ, ◌<◌, ◌≤◌, true, ltb, ℤ, pos, ◌+ℤ◌, ◌*ℤ◌, nat_abs, IfSome, Some, None, Option, sym, ap, ◌∙◌}
use Rattle.std.proofs.lemmas.Bool.{cond-true, lt-ltb}
use Rattle.years.specs.declared.date.Date.{Date}
use Rattle.calendar.specs.Calendars.{Calendar, CalendarLaws, Calendars, day_of}
use Rattle.span_law.specs.declared.year_month.YearMonth.{YearMonth}
use Rattle.timebase.specs.declared.span.Span.{Span}
use Rattle.calendar_steps.specs.Days.{is_day, day_after}
use Rattle.span_law.specs.Stepping.{way_of, and_then, months_on, year_on, cut, month_day_on, in_days, day_on}

-- where the calendar is there, it answers
pub day_asked : (s : Calendars) (k : ℕ) (d : Date) → k < s.count → day_of s k d ≡ (s.calendar k).number d
day_asked s k d h = cond-true (ltb k s.count) ((s.calendar k).number d) None (lt-ltb k s.count h)

-- a number that a date has is a day's
pub numbered_inside : (c : Calendar) → CalendarLaws c → (d : Date) (r : Option ℕ) → r ≡ c.number d → IfSome r (λ n. n ≤ 3652059)
numbered_inside c laws d (Some n) e = (laws.dated d n (sym e)).1
numbered_inside c laws d None e = tt

module _ (c : Calendar) (day : ℕ) (years months : ℤ) (d : Date) (e : d ≡ c.date day) where
  from : (y : ℤ) (o : Option YearMonth) → y ≡ years → o ≡ year_on c d y →
      and_then o (λ p. and_then (months_on c (way_of months) (nat_abs months) p) (λ q. c.number (cut c d.day q))) ≡ month_day_on c day years months
  unfolding month_day_on
  from y o h f =
      ap (λ (z : Option YearMonth). and_then z (λ p. and_then (months_on c (way_of months) (nat_abs months) p) (λ q. c.number (cut c d.day q)))) (f ∙ ap (year_on c d) h)
      ∙ ap (λ (x : Date). and_then (year_on c x years) (λ p. and_then (months_on c (way_of months) (nat_abs months) p) (λ q. c.number (cut c x.day q)))) e

  -- no such year
  pub no_year : (y : ℤ) → y ≡ years → None ≡ year_on c d y → None ≡ month_day_on c day years months
  no_year y h f = from y None h f

  on_by : (y m : ℤ) (p : YearMonth) (o : Option YearMonth) → y ≡ years → m ≡ months → Some p ≡ year_on c d y → o ≡ months_on c (way_of m) (nat_abs m) p →
      and_then o (λ q. c.number (cut c d.day q)) ≡ month_day_on c day years months
  on_by y m p o h i f g =
      ap (λ (z : Option YearMonth). and_then z (λ q. c.number (cut c d.day q))) (g ∙ ap (λ (z : ℤ). months_on c (way_of z) (nat_abs z) p) i) ∙ from y (Some p) h f

  -- no such month
  pub no_month : (y m : ℤ) (p : YearMonth) → y ≡ years → m ≡ months → Some p ≡ year_on c d y → None ≡ months_on c (way_of m) (nat_abs m) p → None ≡ month_day_on c day years months
  no_month y m p h i f g = on_by y m p None h i f g

  -- the day, cut to the month's length
  pub a_month : (y m : ℤ) (p q : YearMonth) → y ≡ years → m ≡ months → Some p ≡ year_on c d y → Some q ≡ months_on c (way_of m) (nat_abs m) p → c.number (cut c d.day q) ≡ month_day_on c day years months
  a_month y m p q h i f g = on_by y m p (Some q) h i f g

module _ (c : Calendar) (day : ℕ) (s : Span) (y m : ℤ) (h : y ≡ s.years) (i : m ≡ s.months) where
  -- no such date
  pub no_day : None ≡ month_day_on c day y m → None ≡ day_on c day s
  unfolding day_on
  no_day f = ap (λ (o : Option ℕ). and_then o (λ n. in_days (pos n +ℤ ((pos 7 *ℤ s.weeks) +ℤ s.days)))) (f ∙ ap (λ (z : ℤ). month_day_on c day z m) h ∙ ap (month_day_on c day s.years) i)

  -- the weeks and days are added
  pub a_day : (n : ℕ) (z : ℤ) → Some n ≡ month_day_on c day y m → z ≡ pos n +ℤ ((pos 7 *ℤ s.weeks) +ℤ s.days) → in_days z ≡ day_on c day s
  unfolding day_on
  a_day n z f j = ap in_days j ∙ ap (λ (o : Option ℕ). and_then o (λ n. in_days (pos n +ℤ ((pos 7 *ℤ s.weeks) +ℤ s.days)))) (f ∙ ap (λ (z : ℤ). month_day_on c day z m) h ∙ ap (month_day_on c day s.years) i)

-- a day that is there
pub day_there : (c : Calendar) (day : ℕ) (s : Span) → is_day day ≡ true → day_on c day s ≡ day_after c day s
day_there c day s h = sym (cond-true (is_day day) (day_on c day s) None h)
