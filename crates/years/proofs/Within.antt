-- Within one year: its lengths tell the months and days that the calendar means.
use Rattle.std.proofs.Common.{◌≡◌, ℕ, zero, suc, ◌+◌, ◌-◌, ◌<◌, ◌≤◌, get_or, length, take, ℤ, pos, refl, ⊎_elim, add-one, arith}
use Rattle.std.specs.List.{sum}
use Rattle.std.proofs.lemmas.List.Sums.{sum_by_more}
use Rattle.std.proofs.lemmas.Bool.{cases_lt}
use Rattle.years.specs.declared.rule.Year.{Year}
use Rattle.years.specs.Dates.{Years, days_in, MonthDay}
use Rattle.years.specs.Lengths.{alone, first_days, Stands}
use Rattle.years.proofs.Numbers.{days_step, days_rise}
use Rattle.years.proofs.Told.{IsYear}

pub one_more : (r : Year) (k : ℕ) → first_days r (k + 1) ≡ first_days r k + get_or r.lengths k 0
one_more r k = let e : k + 1 - 1 ≡ k = omega arith in simp e at (days_step (alone r) (pos 0) (k + 1) (omega arith))

-- the days of the first months are the sum of their lengths
pub first_days_sum : (r : Year) (m : ℕ) → m ≤ length r.lengths → first_days r m ≡ sum (take m r.lengths)
first_days_sum r zero h = refl
first_days_sum r (suc m) h =
    let i = first_days_sum r m (omega arith) in
    let more = rw add-one at (one_more r m) in
    let all = rw add-one at (sum_by_more (λ x. x) r.lengths m 0 h) in
    omega arith

module _ (ys : Years) (y : ℤ) (r : Year) (is : IsYear ys y r) where
  pub same_days : (m : ℕ) → m ≤ ys.shape.months y → first_days r m ≡ days_in ys.shape y m
  same_days zero h = refl
  same_days (suc m) h =
      let i = same_days m (omega arith) in
      let l = is.lengths (suc m) (omega arith) h in
      omega arith

  -- a day of the year stands in one of its months
  pub stands : (rest m d : ℕ) → rest < days_in ys.shape y (ys.shape.months y) → Stands r rest m d → MonthDay ys.shape y rest m d
  stands rest m d within w =
      let low = w.month_low in
      let all = same_days (ys.shape.months y) (omega arith) in
      let inside : m ≤ ys.shape.months y = ⊎_elim (λ (l : m - 1 < ys.shape.months y). let k : m ≤ ys.shape.months y = omega arith in k)
      (λ (l : ys.shape.months y ≤ m - 1). let g = days_rise (alone r) (pos 0) (ys.shape.months y) (m - 1) l in let i = w.is in absurd (omega arith)) (cases_lt (m - 1) (ys.shape.months y)) in
      let here = is.lengths m low inside in
      let before = same_days (m - 1) (omega arith) in
      let i = w.is in
      record { month_low = low; month_high = inside; day_low = w.day_low; day_high = omega arith; is = omega arith }

  -- and the year's lengths leave out none of its days
  pub none_past : (rest : ℕ) → ys.shape.months y ≤ 14 → rest < days_in ys.shape y (ys.shape.months y) → first_days r 14 ≤ rest → ⊥
  none_past rest few within past =
      let all = same_days (ys.shape.months y) (omega arith) in
      let g = days_rise (alone r) (pos 0) (ys.shape.months y) 14 few in
      omega arith
