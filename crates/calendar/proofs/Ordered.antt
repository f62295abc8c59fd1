-- In every lawful calendar, days and their dates are ordered alike.
use Rattle.std.proofs.Common.{◌≡◌, ℕ, zero, suc, ◌+◌, ◌<◌, ◌≤◌, Bool, true, false, cond, ltb, Some, None, sym, refl, subst, inl, inr, add-one, arith}
use Rattle.std.proofs.lemmas.Bool.{cases_lt, cases_order, ltb-true, lt-ltb}
use Rattle.years.specs.declared.date.Date.{Date}
use Rattle.years.specs.Dates.{Shape, Before}
use Rattle.years.proofs.Order.{before_trans, before_irrefl, next_later}
use Rattle.calendar.specs.Calendars.{Calendar, CalendarLaws, Calendars, CalendarsLaws, last_day, day_of}
use Rattle.calendar.specs.Orders.{OrderIs}

module _ (c : Calendar) (laws : CalendarLaws c) where
  abbrev shape : Shape
  shape = record { months = c.months; size = c.size }

  one_later : (n : ℕ) → 1 ≤ n → n < last_day → Before (c.date n) (c.date (n + 1))
  one_later n low high = subst (Before (c.date n)) (sym (laws.next n low high)) (next_later shape (c.date n))

  -- a later day has a later date
  rises : (m n : ℕ) → 1 ≤ m → m < n → n ≤ last_day → Before (c.date m) (c.date n)
  rises m zero low less high = absurd (omega arith)
  rises m (suc n) low less high = elim (cases_lt m n) [
    | inl l ↦ before_trans (c.date m) (c.date n) (c.date (suc n)) (rises m n low l (omega arith)) (subst (λ k. Before (c.date n) (c.date k)) (add-one n) (one_later n (omega arith) (omega arith)))
    | inr g ↦ let e : n ≡ m = omega arith in subst (λ k. Before (c.date k) (c.date (suc n))) e (subst (λ k. Before (c.date n) (c.date k)) (add-one n) (one_later n (omega arith) (omega arith)))
  ]

  -- and a later date is a later day's
  later : (m n : ℕ) → 1 ≤ m → m ≤ last_day → 1 ≤ n → n ≤ last_day → Before (c.date m) (c.date n) → m < n
  later m n low high low' high' h = elim (cases_order m n) [
    | inl e ↦ absurd (before_irrefl (c.date n) (subst (λ k. Before (c.date k) (c.date n)) e h))
    | inr o ↦ elim o [ inl l ↦ l | inr l ↦ absurd (before_irrefl (c.date m) (before_trans (c.date m) (c.date n) (c.date m) h (rises n m low' l high))) ]
  ]

-- a day that a table gives for a date
day_tells : (s : Calendars) (k : ℕ) (d : Date) (n : ℕ) → day_of s k d ≡ Some n → (k < s.count) × ((s.calendar k).number d ≡ Some n)
day_tells s k d n e = by (ltb k s.count) refl e
  where
    by : (b : Bool) → ltb k s.count ≡ b → cond b ((s.calendar k).number d) None ≡ Some n → (k < s.count) × ((s.calendar k).number d ≡ Some n)
    by true h g = (ltb-true k s.count h, g)
    by false h g = let z : ◌≡◌ {A = ℕ} 0 1 = cc in absurd (omega arith)

module _ (s : Calendars) (laws : CalendarsLaws s) (k : ℕ) (a b : Date) where
  pub told : (m n : ℕ) → Some m ≡ day_of s k a → Some n ≡ day_of s k b → OrderIs s k a b (Some (ltb m n))
  told m n p q =
      let x = day_tells s k a m (sym p) in
      let y = day_tells s k b n (sym q) in
      let l = laws.each k x.0 in
      let u = l.dated a m x.1 in
      let v = l.dated b n y.1 in (
        record { day = m; is = sym p },
        record { day = n; is = sym q },
        (
          λ t. subst (λ (d : Date). Before d b) u.2 (subst (λ (d : Date). Before ((s.calendar k).date m) d) v.2 (rises (s.calendar k) l m n u.0 (ltb-true m n t) v.1)),
          λ h. lt-ltb m n (later (s.calendar k) l m n u.0 u.1 v.0 v.1 (subst (λ (d : Date). Before ((s.calendar k).date m) d) (sym v.2) (subst (λ (d : Date). Before d b) (sym u.2) h))),
        ),
      )
