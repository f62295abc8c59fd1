-- Day numbers from the starts of years: they go up by one from date to date.
use Rattle.std.proofs.Common.{◌≡◌, ℕ, zero, suc, ◌+◌, ◌-◌, ◌≤◌, ℤ, pos, ◌+ℤ◌, ◌-ℤ◌, nat_abs, ◌≤ℤ◌, ◌<ℤ◌, sym, ap, ◌∙◌, subst, inl, inr, ⊎_elim, not-suc-le-zero, arith}
use Rattle.std.proofs.lemmas.Int.{ints, by_lt_z}
use Rattle.std.proofs.lemmas.Bool.{cases_lt}
use Rattle.years.specs.declared.date.Date.{Date}
use Rattle.years.specs.Dates.{Shape, Years, Valid, Filled, next, after, Before, days_in, number, Adds}
use Rattle.years.specs.Days.{Fitting, InRange}
use Rattle.years.proofs.Order.{by_next, after_valid, compare_dates}

pub days_step : (s : Shape) (y : ℤ) (m : ℕ) → 1 ≤ m → days_in s y m ≡ days_in s y (m - 1) + s.size y m
days_step s y zero h = absurd (not-suc-le-zero h)
days_step s y (suc m) h = let e : m ≡ suc m - 1 = omega arith in ap (λ k. days_in s y k + s.size y (suc m)) e

pub days_rise : (s : Shape) (y : ℤ) (m n : ℕ) → m ≤ n → days_in s y m ≤ days_in s y n
days_rise s y m zero h = let e : m ≡ 0 = omega arith in rw e (omega arith)
days_rise s y m (suc n) h =
    ⊎_elim (λ l. let r = days_rise s y m n (omega arith) in omega arith) (λ (l : suc n ≤ m). let e : m ≡ suc n = omega arith in rw e (omega arith)) (cases_lt m (suc n))

module _ (ys : Years) (adds : Adds ys) where
  pub number_next : (d : Date) → Valid ys.shape d → ys.first ≤ℤ d.year → d.year <ℤ ys.past → number ys.shape ys.start (next ys.shape d) ≡ number ys.shape ys.start d +ℤ pos 1
  number_next d v low high =
      let step = days_step ys.shape d.year d.month v.month_low in
      by_next ys.shape d (λ x. number ys.shape ys.start x ≡ number ys.shape ys.start d +ℤ pos 1)
      (λ h. omega (arith, ints))
      (λ h k. let e : d.month + 1 - 1 ≡ d.month = omega arith in rw e (omega (arith, ints)))
      (λ h k. let e : ys.shape.months d.year ≡ d.month = omega arith in let a = adds d.year low high in let b = ap (days_in ys.shape d.year) e in omega (arith, ints))

  start_far : (y : ℤ) (k : ℕ) → ys.first ≤ℤ y → (y +ℤ pos k) ≤ℤ ys.past → ys.start y ≤ℤ ys.start (y +ℤ pos k)
  start_far y zero low high = let e : y +ℤ pos 0 ≡ y = omega (arith, ints) in rw e (omega (arith, ints))
  start_far y (suc k) low high =
      let i = start_far y k low (omega (arith, ints)) in
      let a = adds (y +ℤ pos k) (omega (arith, ints)) (omega (arith, ints)) in
      let e : y +ℤ pos (suc k) ≡ y +ℤ pos k +ℤ pos 1 = omega (arith, ints) in
      rw e (omega (arith, ints))

  pub start_rises : (y z : ℤ) → ys.first ≤ℤ y → y ≤ℤ z → z ≤ℤ ys.past → ys.start y ≤ℤ ys.start z
  start_rises y z low l high =
      let k = nat_abs (z -ℤ y) in
      let e : y +ℤ pos k ≡ z = omega (arith, ints) in
      let r = start_far y k low (omega (arith, ints)) in
      subst (λ (x : ℤ). ys.start y ≤ℤ ys.start x) e r

  -- a date's day lies within its year
  pub number_high : (d : Date) → Valid ys.shape d → ys.first ≤ℤ d.year → d.year <ℤ ys.past → number ys.shape ys.start d <ℤ ys.start (d.year +ℤ pos 1)
  number_high d v low high =
      let step = days_step ys.shape d.year d.month v.month_low in
      let m = days_rise ys.shape d.year d.month (ys.shape.months d.year) v.month_high in
      let a = adds d.year low high in
      omega (arith, ints)

  pub number_rises : (a b : Date) → Valid ys.shape a → Valid ys.shape b → ys.first ≤ℤ a.year → b.year <ℤ ys.past → Before a b → number ys.shape ys.start a <ℤ number ys.shape ys.start b
  number_rises a b va vb low high (inl y) =
      let h = number_high a va low (omega (arith, ints)) in
      let r = start_rises (a.year +ℤ pos 1) b.year (omega (arith, ints)) (omega (arith, ints)) (omega (arith, ints)) in
      omega (arith, ints)
  number_rises a b va vb low high (inr (y, inl m)) =
      let step = days_step ys.shape a.year a.month va.month_low in
      let r = days_rise ys.shape a.year a.month (b.month - 1) (omega arith) in
      subst (λ (x : ℤ). number ys.shape ys.start a <ℤ (ys.start x +ℤ pos (days_in ys.shape x (b.month - 1) + (b.day - 1)))) y (omega (arith, ints))
  number_rises a b va vb low high (inr (y, inr (m, d))) =
      subst (λ (x : ℤ). number ys.shape ys.start a <ℤ (ys.start x +ℤ pos (days_in ys.shape x (b.month - 1) + (b.day - 1)))) y
      (subst (λ (x : ℕ). number ys.shape ys.start a <ℤ (ys.start a.year +ℤ pos (days_in ys.shape a.year (x - 1) + (b.day - 1)))) m (omega (arith, ints)))

  pub number_injective : (a b : Date) → Valid ys.shape a → Valid ys.shape b → ys.first ≤ℤ a.year → a.year <ℤ ys.past → ys.first ≤ℤ b.year → b.year <ℤ ys.past → number ys.shape ys.start a ≡ number ys.shape ys.start b → a ≡ b
  number_injective a b va vb la ha lb hb e =
      ⊎_elim (λ p. p)
      (⊎_elim (λ p. let r = number_rises a b va vb la hb p in absurd (omega (arith, ints)))
      (λ p. let r = number_rises b a vb va lb ha p in absurd (omega (arith, ints))))
      (compare_dates a b)

  next_low : (d : Date) → ys.first ≤ℤ d.year → ys.first ≤ℤ (next ys.shape d).year
  next_low d low = by_next ys.shape d (λ x. ys.first ≤ℤ x.year) (λ h. low) (λ h k. low) (λ h k. omega (arith, ints))

  next_high : (d : Date) → d.year <ℤ ys.past → number ys.shape ys.start (next ys.shape d) <ℤ ys.start ys.past → (next ys.shape d).year <ℤ ys.past
  next_high d high =
      by_next ys.shape d (λ x. number ys.shape ys.start x <ℤ ys.start ys.past → x.year <ℤ ys.past) (λ h n. high) (λ h k n. high)
      (λ h k n. by_lt_z (d.year +ℤ pos 1) ys.past (λ l. l) (λ l. let e : d.year +ℤ pos 1 ≡ ys.past = omega (arith, ints) in let a = ap ys.start e in absurd (omega (arith, ints))))

  -- the date k days on has the number k higher, up to the last year's end
  pub record Numbered (d : Date) (k : ℕ) : Type 0 where
    pub low : ys.first ≤ℤ (after ys.shape d k).year
    pub high : (after ys.shape d k).year <ℤ ys.past
    pub is : number ys.shape ys.start (after ys.shape d k) ≡ number ys.shape ys.start d +ℤ pos k

  pub after_number : (d : Date) → Filled ys.shape → Valid ys.shape d → ys.first ≤ℤ d.year → d.year <ℤ ys.past → (k : ℕ) → (number ys.shape ys.start d +ℤ pos k) <ℤ ys.start ys.past → Numbered d k
  unfolding after
  after_number d f v low high zero h = record { low = low; high = high; is = omega (arith, ints) }
  after_number d f v low high (suc k) h =
      let i = after_number d f v low high k (omega (arith, ints)) in
      let e = after ys.shape d k in
      let ve = after_valid ys.shape d f v k in
      let n = number_next e ve i.low i.high in
      record { low = next_low e i.low; high = next_high e i.high (omega (arith, ints)); is = omega (arith, ints) }

-- of the date of a day number: it is valid, lies in the calendar's years, and its number is that
pub record There (ys : Years) (d : Date) (n : ℕ) : Type 0 where
  pub valid : Valid ys.shape d
  pub low : ys.first ≤ℤ d.year
  pub high : d.year <ℤ ys.past
  pub is : number ys.shape ys.start d ≡ pos n

module _ (ys : Years) (f : Fitting ys) where
  pub there_is : (n : ℕ) → InRange n → There ys (after ys.shape ys.origin (n - 1)) n
  there_is n r =
      let one = f.day_one in
      let a = after_number ys f.adds ys.origin f.filled f.origin_valid f.origin_low f.origin_high (n - 1) (let l = f.last_day in omega (arith, ints)) in
      record { valid = after_valid ys.shape ys.origin f.filled f.origin_valid (n - 1); low = a.low; high = a.high; is = let i = a.is in omega (arith, ints) }

  pub there : (d : Date) (n : ℕ) → InRange n → d ≡ after ys.shape ys.origin (n - 1) → There ys d n
  there d n r e = subst (λ (x : Date). There ys x n) (sym e) (there_is n r)

  pub found : (d : Date) (n : ℕ) → InRange n → There ys d n → d ≡ after ys.shape ys.origin (n - 1)
  found d n r t =
      let u = there_is n r in
      number_injective ys f.adds d (after ys.shape ys.origin (n - 1)) t.valid u.valid t.low t.high u.low u.high (t.is ∙ sym u.is)
