-- A calendar told by its years is lawful.
use Rattle.std.specs.Prelude.{◌≡◌, ℕ, zero, suc, ◌+◌, ◌-◌, ◌<◌, ◌≤◌, Bool, true, false, cond, ◌&&◌, ltb, leb, List, ℤ, pos, ◌+ℤ◌, ◌-ℤ◌, ◌≤ℤ◌, ◌<ℤ◌, is_ok, Some, None, Option, int_le, int_lt, nat_le, nat_lt, slice_index, unsigned_abs}
use Rattle.std.proofs.Math.Path.{refl, sym}
use Rattle.std.proofs.Common.{ap, ◌∙◌}
use native.Mathlib.Omega.{arith}
use Rattle.std.proofs.lemmas.Int.{ints, by_lt_z}
use Rattle.std.proofs.lemmas.Bool.{and_parts, and_from, leb-true, le-leb, lt-ltb, le-ltb}
use Rattle.names.specs.Scanning.{read_calendar_name}
use Rattle.years.specs.declared.date.Date.{Date}
use Rattle.years.specs.Dates.{Years, Valid, after, next, number}
use Rattle.years.specs.declared.rule.Year.{Year}
use Rattle.years.specs.Rules.{year_in, length_in}
use Rattle.years.specs.Days.{Fitting, Bounded, Twins, YearsLaws, InRange, DateAnswer, DayAnswer}
use Rattle.years.proofs.Numbers.{There, there, there_is, found, start_rises, number_high}
use Rattle.years.proofs.Told.{IsYear, is_year, answered, low_test, high_test, low_tells, high_tells}
use Rattle.calendar.specs.Calendars.{Calendar, CalendarLaws, CalendarsLaws, last_day, year_there, month_there, asked, date_in, day_of}
use Rattle.calendar.specs.Singles.{valid_date, in_days, day_number, calendar_of, single, single_count}

module _ (ys : Years) (laws : YearsLaws ys) where
  f : Fitting ys
  f = laws.fitting

  b : Bounded ys
  b = laws.bounded

  t : Twins ys
  t = laws.twins

  abbrev c : Calendar
  c = calendar_of ys

  in_range : (n : ℕ) → 1 ≤ n → n ≤ last_day → InRange n
  in_range n low high = record { low = low; high = high }

  -- ── the number of a date ──

  valid_test : (d : Date) → ys.first ≤ℤ d.year → d.year <ℤ ys.past → Valid ys.shape d → valid_date ys d ≡ true
  valid_test d low high v =
      and_from _ _ (and_from _ _ (low_test ys.first d.year low) (high_test d.year ys.past high))
      (and_from _ _ (and_from _ _ (le-leb 1 d.month v.month_low) (le-leb d.month (ys.shape.months d.year) v.month_high))
      (and_from _ _ (le-leb 1 d.day v.day_low) (le-leb d.day (ys.shape.size d.year d.month) v.day_high)))

  pub numbered : (d : Date) (n : ℕ) → InRange n → There ys d n → day_number ys d ≡ Some n
  numbered d n r h =
      let v = valid_test d h.low h.high h.valid in
      let e = h.is in
      let low : int_le (pos 1) (number ys.shape ys.start d) ≡ true = ap (int_le (pos 1)) e ∙ le-leb 1 n r.low in
      let high : int_le (number ys.shape ys.start d) (pos last_day) ≡ true = ap (λ z. int_le z (pos last_day)) e ∙ le-leb n last_day r.high in
      ap (λ x. cond x (in_days ys (number ys.shape ys.start d)) None) v
      ∙ (ap (λ x. cond x (Some (unsigned_abs (number ys.shape ys.start d))) None) (and_from _ _ low high) ∙ ap (λ z. Some (unsigned_abs z)) e)

  -- a number is given only to a date of a day
  pub dated : (d : Date) (n : ℕ) → day_number ys d ≡ Some n → InRange n × There ys d n
  dated d n e = by_valid (valid_date ys d) refl e
    where
      by_range : Valid ys.shape d → ys.first ≤ℤ d.year → d.year <ℤ ys.past → (x : Bool) → (int_le (pos 1) (number ys.shape ys.start d) && int_le (number ys.shape ys.start d) (pos last_day)) ≡ x
          → cond x (Some (unsigned_abs (number ys.shape ys.start d))) None ≡ Some n → InRange n × There ys d n
      by_range v low high true h e =
          let p = and_parts (int_le (pos 1) (number ys.shape ys.start d)) (int_le (number ys.shape ys.start d) (pos last_day)) h in
          let one = low_tells (pos 1) (number ys.shape ys.start d) p.0 in
          let last = low_tells (number ys.shape ys.start d) (pos last_day) p.1 in
          let m : unsigned_abs (number ys.shape ys.start d) ≡ n = cc in
          let is : number ys.shape ys.start d ≡ pos n = omega (arith, ints) in
          (record { low = omega (arith, ints); high = omega (arith, ints) }, record { valid = v; low = low; high = high; is = is })
      by_range v low high false h e = let z : ◌≡◌ {A = ℕ} 0 1 = cc in absurd (omega arith)

      by_valid : (x : Bool) → valid_date ys d ≡ x → cond x (in_days ys (number ys.shape ys.start d)) None ≡ Some n → InRange n × There ys d n
      by_valid true h e =
          let p = and_parts _ _ h in
          let y = and_parts (int_le ys.first d.year) (int_lt d.year ys.past) p.0 in
          let q = and_parts _ _ p.1 in
          let m = and_parts (nat_le 1 d.month) (nat_le d.month (ys.shape.months d.year)) q.0 in
          let w = and_parts (nat_le 1 d.day) (nat_le d.day (ys.shape.size d.year d.month)) q.1 in
          by_range (record { month_low = leb-true 1 d.month m.0; month_high = leb-true d.month (ys.shape.months d.year) m.1; day_low = leb-true 1 d.day w.0; day_high = leb-true d.day (ys.shape.size d.year d.month) w.1 })
          (low_tells ys.first d.year y.0) (high_tells d.year ys.past y.1) _ refl e
      by_valid false h e = let z : ◌≡◌ {A = ℕ} 0 1 = cc in absurd (omega arith)

  -- ── the laws ──

  -- the year of the last day
  last_year : (after ys.shape ys.origin (last_day - 1)).year ≡ ys.past -ℤ pos 1
  last_year =
      let r = in_range last_day (omega arith) (omega arith) in
      let h = there_is ys f last_day r in
      let d = after ys.shape ys.origin (last_day - 1) in
      by_lt_z (after ys.shape ys.origin (last_day - 1)).year (ys.past -ℤ pos 1)
      (λ less.
      let up = number_high ys f.adds (after ys.shape ys.origin (last_day - 1)) h.valid h.low h.high in
      let rise = start_rises ys f.adds ((after ys.shape ys.origin (last_day - 1)).year +ℤ pos 1) (ys.past -ℤ pos 1) (omega (arith, ints, h.low)) (omega (arith, ints)) (omega (arith, ints)) in
      absurd (omega (arith, ints, up, rise, h.is, b.last)))
      (λ not_less. omega (arith, ints, h.high))

  next_on : (n : ℕ) → 1 ≤ n → after ys.shape ys.origin (n + 1 - 1) ≡ next ys.shape (after ys.shape ys.origin (n - 1))
  unfolding after
  next_on (suc n) h = let e : suc n + 1 - 1 ≡ suc (suc n - 1) = omega arith in rw e refl
  next_on zero h = absurd (omega arith)

  first_date : after ys.shape ys.origin (1 - 1) ≡ ys.origin
  unfolding after
  first_date = refl

  pub calendar_laws : CalendarLaws c
  calendar_laws = record {
    lowest = omega (arith, ints, f.near);
    highest = omega (arith, ints, f.far);
    starts = ap (λ (d : Date). d.year) first_date ∙ b.first;
    ends = last_year;
    some_months = λ y low high. (f.filled.some_month y, f.few y);
    some_days = λ y m low high one most. (f.filled.some_day y m one most, f.short y m);
    month_inside = λ n low high. let v = (there_is ys f n (in_range n low high)).valid in (v.month_low, v.month_high);
    day_inside = λ n low high. let v = (there_is ys f n (in_range n low high)).valid in (v.day_low, v.day_high);
    next = λ n low high. next_on n low;
    numbered = λ n low high. let r = in_range n low high in numbered (after ys.shape ys.origin (n - 1)) n r (there_is ys f n r);
    dated = λ d n e. let p = dated d n e in (p.0.low, p.0.high, sym (found ys f d n p.0 p.1));
    twin_inside = λ y m z a b' one most e g. t.inside y m z a (omega (arith, ints)) one most e (omega (arith, ints));
    twin_same = λ y m a b' one most. t.same y m a (omega (arith, ints)) one most;
  }

  pub single_laws : (name : List ℕ) → CalendarsLaws (single ys name)
  unfolding single
  single_laws name = by (is_ok (read_calendar_name name)) refl
    where
      by : (x : Bool) → is_ok (read_calendar_name name) ≡ x → CalendarsLaws (record { count = cond x 1 0; name = λ _. name; calendar = λ _. c })
      by true h = record { few = omega arith; named = λ k l. h; each = λ k l. calendar_laws }
      by false h = record { few = omega arith; named = λ k l. absurd (omega arith); each = λ k l. absurd (omega arith) }

-- ── questions to one calendar ──

module _ (ys : Years) where
  abbrev one : Calendar
  one = calendar_of ys

  in_years : (y : ℤ) → ys.first ≤ℤ y → y <ℤ ys.past → year_there one y ≡ true
  in_years y low high = and_from (int_le ys.first y) (int_le y (ys.past -ℤ pos 1)) (let h = low in grind (arith, ints)) (let k : y ≤ℤ (ys.past -ℤ pos 1) = omega (arith, ints) in grind (arith, ints))

  pub out_of_years : (y : ℤ) → (ys.first ≤ℤ y → y <ℤ ys.past → ⊥) → year_there one y ≡ false
  out_of_years y out = by (year_there one y) refl
    where
      by : (x : Bool) → year_there one y ≡ x → year_there one y ≡ false
      by false h = h
      by true h =
          let p = and_parts (int_le ys.first y) (int_le y (ys.past -ℤ pos 1)) h in
          let low : ys.first ≤ℤ y = grind (arith, ints) in
          let high : y ≤ℤ (ys.past -ℤ pos 1) = grind (arith, ints) in
          absurd (out low (omega (arith, ints)))

  pub year_answer : (y : ℤ) (r : Option Year) → r ≡ year_in ys y → (x : Year → Option ℕ) (z : Option ℕ)
      → ((w : Year) → IsYear ys y w → x w ≡ z) → (elim r [ Some w ↦ x w | None ↦ None ]) ≡ cond (year_there one y) z None
  year_answer y (Some w) e x z f = let a = answered ys y (Some w) e in f w (is_year ys y w a.2) ∙ ap (λ b. cond b z None) (sym (in_years y a.0 a.1))
  year_answer y None e x z f = ap (λ b. cond b z None) (sym (out_of_years y (answered ys y None e)))

  both : {a b c d : Bool} → a ≡ b → c ≡ d → ◌≡◌ {A = Bool × Bool} (a, c) (b, d)
  both p q = cc

  -- the length of a month
  length_is : (y : ℤ) (m : ℕ) (w : Year) → IsYear ys y w → ys.shape.months y ≤ 14 → length_in w m ≡ cond (nat_le 1 m && nat_le m (ys.shape.months y)) (Some (ys.shape.size y m)) None
  length_is y m w i few = by (nat_le 1 m) refl (nat_le m w.months) refl
    where
      same : (b : Bool) → nat_le m w.months ≡ b → nat_le m (ys.shape.months y) ≡ b
      same b h = ap (leb m) (sym i.months) ∙ h

      by : (a : Bool) → nat_le 1 m ≡ a → (b : Bool) → nat_le m w.months ≡ b → length_in w m ≡ cond (nat_le 1 m && nat_le m (ys.shape.months y)) (Some (ys.shape.size y m)) None
      by false p b q = ap (λ t. cond (t && (nat_le m w.months && nat_lt (m - 1) 14)) (Some (slice_index w.lengths (m - 1))) None) p ∙ sym (ap (λ t. cond (t && nat_le m (ys.shape.months y)) (Some (ys.shape.size y m)) None) p)
      by true p false q =
          ap (λ (t : Bool × Bool). cond (t.0 && (t.1 && nat_lt (m - 1) 14)) (Some (slice_index w.lengths (m - 1))) None) (both p q)
          ∙ sym (ap (λ (t : Bool × Bool). cond (t.0 && t.1) (Some (ys.shape.size y m)) None) (both p (same false q)))
      by true p true q =
          let low : 1 ≤ m = leb-true 1 m p in
          let high : m ≤ ys.shape.months y = leb-true m (ys.shape.months y) (same true q) in
          let l : ltb (m - 1) 14 ≡ true = lt-ltb (m - 1) 14 (omega arith) in
          ap (λ (t : Bool × Bool). cond (t.0 && (t.1 && nat_lt (m - 1) 14)) (Some (slice_index w.lengths (m - 1))) None) (both p q)
          ∙ (ap (λ t. cond t (Some (slice_index w.lengths (m - 1))) None) l
          ∙ (ap Some (i.lengths m low high) ∙ sym (ap (λ (t : Bool × Bool). cond (t.0 && t.1) (Some (ys.shape.size y m)) None) (both p (same true q)))))

  pub length_there : (y : ℤ) (m : ℕ) (w : Year) → Some w ≡ year_in ys y → ys.shape.months y ≤ 14 → length_in w m ≡ cond (month_there one y m) (Some (ys.shape.size y m)) None
  length_there y m w e few =
      let a = answered ys y (Some w) e in
      length_is y m w (is_year ys y w a.2) few ∙ ap (λ b. cond (b && (nat_le 1 m && nat_le m (ys.shape.months y))) (Some (ys.shape.size y m)) None) (sym (in_years y a.0 a.1))

  -- ── questions to the source ──

  module _ (name : List ℕ) (k : ℕ) where
    pub none_one : {X : Type 0} (there : Calendar → Bool) (answer : Calendar → X) → single_count name ≤ k → None ≡ asked (single ys name) k there answer
    unfolding single
    none_one there answer out = sym (ap (λ b. cond (b && there one) (Some (answer one)) None) (le-ltb k (single_count name) out))

    pub some_one : {X : Type 0} (there : Calendar → Bool) (answer : Calendar → X) → k < single_count name → cond (there one) (Some (answer one)) None ≡ asked (single ys name) k there answer
    unfolding single
    some_one there answer in_table = sym (ap (λ b. cond (b && there one) (Some (answer one)) None) (lt-ltb k (single_count name) in_table))

    pub none_day : (d : Date) → single_count name ≤ k → None ≡ day_of (single ys name) k d
    unfolding single
    none_day d out = sym (ap (λ b. cond b (one.number d) None) (le-ltb k (single_count name) out))

    pub some_day : (d : Date) → k < single_count name → day_number ys d ≡ day_of (single ys name) k d
    unfolding single
    some_day d in_table = sym (ap (λ b. cond b (one.number d) None) (lt-ltb k (single_count name) in_table))

    pub count_is : (single ys name).count ≡ single_count name
    unfolding single
    count_is = refl

    pub name_is : (single ys name).name k ≡ name
    unfolding single
    name_is = refl

-- the answers of a rule's years to the questions for a day's date and for a date's day
module _ (ys : Years) (laws : YearsLaws ys) where
  pub date_is : (n : ℕ) (r : Option Date) → DateAnswer ys n r → r ≡ date_in (calendar_of ys) n
  date_is n (Some d) a =
      let inside : (nat_le 1 n && nat_le n last_day) ≡ true = and_from _ _ (le-leb 1 n a.0.low) (le-leb n last_day a.0.high) in
      ap Some a.1 ∙ sym (ap (λ t. cond t (Some (after ys.shape ys.origin (n - 1))) None) inside)
  date_is n None a = by (nat_le 1 n && nat_le n last_day) refl
    where
      by : (x : Bool) → (nat_le 1 n && nat_le n last_day) ≡ x → None ≡ date_in (calendar_of ys) n
      by true h = let p = and_parts (nat_le 1 n) (nat_le n last_day) h in absurd (a (record { low = leb-true 1 n p.0; high = leb-true n last_day p.1 }))
      by false h = sym (ap (λ t. cond t (Some (after ys.shape ys.origin (n - 1))) None) h)

  pub day_is : (d : Date) (r : Option ℕ) → DayAnswer ys d r → r ≡ day_number ys d
  day_is d (Some n) a = sym (numbered ys laws d n a.0 (there ys laws.fitting d n a.0 a.1))
  day_is d None a = by (day_number ys d) refl
    where
      by : (r : Option ℕ) → day_number ys d ≡ r → None ≡ day_number ys d
      by None e = sym e
      by (Some n) e = let p = dated ys laws d n e in absurd (a n p.0 (found ys laws.fitting d n p.0 p.1))
