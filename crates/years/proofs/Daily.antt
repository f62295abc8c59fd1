-- Dates of days and days of dates, from the year in which they lie.
use Rattle.std.proofs.Common.{◌≡◌, ℕ, ◌+◌, ◌-◌, ◌<◌, ◌≤◌, Bool, true, false, not, T, ℤ, pos, ◌+ℤ◌, ◌-ℤ◌, ◌≤ℤ◌, ◌<ℤ◌, Some, None, Option, sym, ◌∙◌, subst, arith}
use lib.Signed.{lt_z, le_z, lt_z_yes, lt_z_no, le_z_yes}
use Rattle.std.specs.Int.{int_max, int_min}
use Rattle.std.proofs.lemmas.Int.{ints, clamps, by_lt_z}
use Rattle.years.specs.declared.date.Date.{Date}
use Rattle.years.specs.declared.rule.Year.{Year}
use Rattle.years.specs.Dates.{Years, Valid, number, days_in}
use Rattle.years.specs.Days.{Fitting, InRange, DateAnswer, DayAnswer, Near}
use Rattle.years.specs.Rules.{year_of, year_in}
use Rattle.years.specs.Lengths.{first_days, Stands, HasDay, NumberAnswer}
use Rattle.years.specs.Places.{Lies, Beside, LabelAnswer, PlaceAnswer}
use Rattle.years.proofs.Numbers.{there, found, start_rises}
use Rattle.years.proofs.Told.{IsYear, answered, is_year}
use Rattle.years.proofs.Within.{same_days, stands, none_past}

module _ (ys : Years) (f : Fitting ys) where
  none_is : (d : Date) (a : Option ℕ) → a ≡ None → DayAnswer ys d None → DayAnswer ys d a
  none_is d a e h = subst (DayAnswer ys d) (sym e) h

  -- a date of no year of the calendar is no day's
  pub no_year : (d : Date) (z : ℤ) → z ≡ d.year → None ≡ year_in ys z → (a : Option ℕ) → a ≡ None → DayAnswer ys d a
  no_year d z e h a none =
      none_is d a none (λ n r q. let t = there ys f d n r q in answered ys z None h (subst (λ (x : ℤ). ys.first ≤ℤ x) (sym e) t.low) (subst (λ (x : ℤ). x <ℤ ys.past) (sym e) t.high))

  -- nor is one that its year does not have
  pub no_day : (d : Date) (r : Year) (z : ℤ) → z ≡ d.year → Some r ≡ year_in ys z → (HasDay r d.month d.day → ⊥) → (a : Option ℕ) → a ≡ None → DayAnswer ys d a
  no_day d r z e y h a none =
      none_is d a none
      (λ n g q.
      let v = (there ys f d n g q).valid in
      let is = subst (λ (x : ℤ). IsYear ys x r) e (is_year ys z r (answered ys z (Some r) y).2) in
      let l = is.lengths d.month v.month_low v.month_high in
      let m = is.months in
      h (record { month_low = v.month_low; month_high = omega arith; day_low = v.day_low; day_high = omega arith }))

  -- a date that its year has is the day's that its number tells
  pub numbers : (d : Date) (r : Year) (z : ℤ) (into : ℕ) → z ≡ d.year → Some r ≡ year_in ys z → HasDay r d.month d.day →
      into ≡ first_days r (d.month - 1) + (d.day - 1) → (b : ℤ) → b ≡ r.start → (a : Option ℕ) → NumberAnswer (b +ℤ pos into) a → DayAnswer ys d a
  numbers d r z into e y h i b be a n = told a n
    where
      got : (ys.first ≤ℤ z) × (z <ℤ ys.past) × (r ≡ year_of ys z)
      got = answered ys z (Some r) y

      is : IsYear ys d.year r
      is = subst (λ (x : ℤ). IsYear ys x r) e (is_year ys z r got.2)

      valid : Valid ys.shape d
      valid =
          let m = is.months in
          let high : d.month ≤ ys.shape.months d.year = let k = h.month_high in omega arith in
          let l = is.lengths d.month h.month_low high in
          let k = h.day_high in
          record { month_low = h.month_low; month_high = high; day_low = h.day_low; day_high = omega arith }

      total : b +ℤ pos into ≡ number ys.shape ys.start d
      total =
          let k = valid.month_high in
          let same = same_days ys d.year r is (d.month - 1) (omega arith) in
          let st = is.starts in
          omega (arith, ints)

      told : (a : Option ℕ) → NumberAnswer (b +ℤ pos into) a → DayAnswer ys d a
      told (Some n) (g, q) =
          (g, found ys f d n g (record { valid = valid; low = subst (λ (x : ℤ). ys.first ≤ℤ x) e got.0; high = subst (λ (x : ℤ). x <ℤ ys.past) e got.1; is = sym total ∙ q }))
      told None q = λ n g x. q n g (total ∙ (there ys f d n g x).is)

-- what a test of the code tells
lt_yes : (a b : ℤ) (t : Bool) → t ≡ lt_z a b → t ≡ true → a <ℤ b
lt_yes a b t e u = lt_z_yes (subst T (sym u ∙ e) tt)

lt_no : (a b : ℤ) (t : Bool) → t ≡ lt_z a b → t ≡ false → b ≤ℤ a
lt_no a b t e u = lt_z_no (subst (λ (x : Bool). T (not x)) (sym u ∙ e) tt)

le_yes : (a b : ℤ) (t : Bool) → t ≡ le_z a b → t ≡ true → a ≤ℤ b
le_yes a b t e u = le_z_yes (subst T (sym u ∙ e) tt)

le_no : (a b : ℤ) (t : Bool) → t ≡ le_z a b → t ≡ false → b <ℤ a
le_no a b t e u = by_lt_z b a (λ l. l) (λ (m : a ≤ℤ b). absurd (subst T (sym e ∙ u) m.le))

module _ (ys : Years) (f : Fitting ys) where
  -- a guess, held within the calendar's years, stays near
  pub beside : (n : ℕ) (guess g least most z : ℤ) → (InRange n → Near ys n guess) → g ≡ guess → least ≡ ys.first → most ≡ ys.past -ℤ pos 1 →
      z ≡ int_max least (int_min g most) → Beside ys n z
  beside n guess g least most z k e p q h =
      let some = f.some in
      record { from = omega (arith, ints, clamps); upto = omega (arith, ints, clamps); near = λ r. held (k r) }
    where
      held : Near ys n guess → Near ys n z
      held k =
          let a = k.low in
          let b = k.high in
          let c = k.not_before in
          let d = k.not_after in
          record { year = k.year; low = a; high = b; starts = k.starts; ends = k.ends; not_before = omega (arith, ints, clamps); not_after = omega (arith, ints, clamps) }

  lies_at : (n : ℕ) (guess y : ℤ) (k : Near ys n guess) → k.year ≡ y → Lies ys n y
  lies_at n guess y k e = subst (Lies ys n) e (record { from = k.low; upto = k.high; low = k.starts; high = k.ends })

  -- a day before the guessed year lies in the year before
  pub lies_before : (n : ℕ) (guess : ℤ) → Near ys n guess → ys.first ≤ℤ guess → guess <ℤ ys.past → pos n <ℤ ys.start guess → Lies ys n (guess -ℤ pos 1)
  lies_before n guess k from upto h =
      let p : k.year <ℤ guess = by_lt_z k.year guess (λ l. l) (λ l. let r = start_rises ys f.adds guess k.year from l (let b = k.high in omega (arith, ints)) in let a = k.starts in absurd (omega (arith, ints))) in
      let d = k.not_after in
      lies_at n guess (guess -ℤ pos 1) k (omega (arith, ints))

  -- one past its end, in the year after
  pub lies_after : (n : ℕ) (guess : ℤ) → Near ys n guess → ys.first ≤ℤ guess → guess <ℤ ys.past → ys.start (guess +ℤ pos 1) ≤ℤ pos n → Lies ys n (guess +ℤ pos 1)
  lies_after n guess k from upto h =
      let low = k.low in
      let p : guess <ℤ k.year = by_lt_z guess k.year (λ l. l)
      (λ l. let r = start_rises ys f.adds (k.year +ℤ pos 1) (guess +ℤ pos 1) (omega (arith, ints)) (omega (arith, ints)) (omega (arith, ints)) in let a = k.ends in absurd (omega (arith, ints))) in
      let d = k.not_before in
      lies_at n guess (guess +ℤ pos 1) k (omega (arith, ints))

  module _ (n : ℕ) (guess z : ℤ) (r : Year) (k : Beside ys n guess) (g : InRange n) (e : z ≡ guess) (y : Some r ≡ year_in ys z) where
    is : IsYear ys guess r
    is = subst (λ (x : ℤ). IsYear ys x r) e (is_year ys z r (answered ys z (Some r) y).2)

    pub turn_before : (b : Bool) → b ≡ lt_z (pos n) r.start → b ≡ true → Lies ys n (guess -ℤ pos 1)
    turn_before b t u =
        let h : pos n <ℤ r.start = lt_yes (pos n) r.start b t u in
        let st = is.starts in
        lies_before n guess (k.near g) k.from k.upto (omega (arith, ints))

    pub turn_after : (b : Bool) → b ≡ le_z (r.start +ℤ pos r.days) (pos n) → b ≡ true → Lies ys n (guess +ℤ pos 1)
    turn_after b t u =
        let h : (r.start +ℤ pos r.days) ≤ℤ pos n = le_yes (r.start +ℤ pos r.days) (pos n) b t u in
        let st = is.starts in
        let all = is.days in
        let a = f.adds guess k.from k.upto in
        lies_after n guess (k.near g) k.from k.upto (omega (arith, ints))

    pub stay : (b c : Bool) → b ≡ lt_z (pos n) r.start → b ≡ false → c ≡ le_z (r.start +ℤ pos r.days) (pos n) → c ≡ false → Lies ys n z
    stay b c t u v w =
        let low : r.start ≤ℤ pos n = lt_no (pos n) r.start b t u in
        let high : pos n <ℤ (r.start +ℤ pos r.days) = le_no (r.start +ℤ pos r.days) (pos n) c v w in
        let st = is.starts in
        let all = is.days in
        let a = f.adds guess k.from k.upto in
        subst (Lies ys n) (sym e) (record { from = k.from; upto = k.upto; low = omega (arith, ints); high = omega (arith, ints) })

  -- the year that the rule answers for the year of a day
  pub placed : (n : ℕ) (y z : ℤ) → InRange n → z ≡ y → Lies ys n y → (a : Option (ℤ × Year)) → LabelAnswer ys z a → PlaceAnswer ys n a
  placed n y z g e l (Some (x, r)) (p, a) = (g, subst (Lies ys n) (sym (p ∙ e)) l, subst (λ (v : ℤ). r ≡ year_of ys v) (sym p) (answered ys z (Some r) a).2)
  placed n y z g e l None a = let m = subst (Lies ys n) (sym e) l in λ h. answered ys z None a m.from m.upto

  -- the rule has every year that may be a day's
  pub some_near : (n : ℕ) (y z : ℤ) → z ≡ y → Beside ys n y → None ≡ year_in ys z → (a : Option (ℤ × Year)) → a ≡ None → PlaceAnswer ys n a
  some_near n y z e k h a none =
      subst (PlaceAnswer ys n) (sym none) (λ r. answered ys z None h (subst (λ (x : ℤ). ys.first ≤ℤ x) (sym e) k.from) (subst (λ (x : ℤ). x <ℤ ys.past) (sym e) k.upto))

  module _ (n rest : ℕ) (y : ℤ) (r : Year) (g : InRange n) (l : Lies ys n y) (same : r ≡ year_of ys y) (e : r.start +ℤ pos rest ≡ pos n) where
    here : IsYear ys y r
    here = is_year ys y r same

    within : rest < days_in ys.shape y (ys.shape.months y)
    within =
        let a = f.adds y l.from l.upto in
        let st = here.starts in
        let h = l.high in
        omega (arith, ints)

    -- the date of the day, by its month and day in the year
    pub dated : (m d : ℕ) (z : ℤ) → z ≡ y → Stands r rest m d → DateAnswer ys n (Some (record { year = z; month = m; day = d }))
    dated m d z ze w =
        let k = stands ys y r here rest m d within w in
        let st = here.starts in
        let i = k.is in
        let c : Date = record { year = y; month = m; day = d } in
        let v : Valid ys.shape c = record { month_low = k.month_low; month_high = k.month_high; day_low = k.day_low; day_high = k.day_high } in
        let q = found ys f c n g (record { valid = v; low = l.from; high = l.upto; is = omega (arith, ints) }) in
        subst (λ (x : ℤ). DateAnswer ys n (Some (record { year = x; month = m; day = d }))) (sym ze) (g, q)

    pub not_dateless : first_days r 14 ≤ rest → (a : Option Date) → a ≡ None → DateAnswer ys n a
    not_dateless past a none = absurd (none_past ys y r here rest (f.few y) within past)
