-- The day numbers from 1 to 3,652,059 of a calendar, and their dates.
use Rattle.std.specs.Prelude.{◌≡◌, ℕ, ◌-◌, ◌≤◌, ℤ, pos, ◌+ℤ◌, ◌-ℤ◌, neg_ℤ, ◌≤ℤ◌, ◌<ℤ◌, Some, None, Option, ◌≢◌}
use Rattle.years.specs.declared.date.Date.{Date}
use Rattle.years.specs.Dates.{Years, Valid, Filled, after, number, Adds}

-- what makes the years of a calendar fit
pub record Fitting (ys : Years) : Type 0 where
  pub filled : Filled ys.shape
  pub adds : Adds ys
  pub few : (y : ℤ) → ys.shape.months y ≤ 14
  pub short : (y : ℤ) (m : ℕ) → ys.shape.size y m ≤ 31
  pub near : neg_ℤ (pos 10000000) ≤ℤ ys.first
  pub far : ys.past ≤ℤ pos 10000000
  pub origin_valid : Valid ys.shape ys.origin
  pub origin_low : ys.first ≤ℤ ys.origin.year
  pub origin_high : ys.origin.year <ℤ ys.past
  pub some : ys.first <ℤ ys.past
  pub day_one : number ys.shape ys.start ys.origin ≡ pos 1
  pub last_day : pos 3652059 <ℤ ys.start ys.past
  pub start_low : neg_ℤ (pos 2000000) ≤ℤ ys.start ys.first
  pub start_high : ys.start ys.past ≤ℤ pos 6000000

pub record InRange (n : ℕ) : Type 0 where
  pub low : 1 ≤ n
  pub high : n ≤ 3652059

-- day n has the date d: the one n - 1 days after that of day 1
abbrev pub HasDate : Years → ℕ → Date → Type 0
HasDate ys n d = InRange n × (d ≡ after ys.shape ys.origin (n - 1))

-- the answer to "which date has day n"
abbrev pub DateAnswer : Years → ℕ → Option Date → Type 0
DateAnswer ys n (Some d) = HasDate ys n d
DateAnswer ys n None = InRange n → ⊥

-- the answer to "which day has this date"
abbrev pub DayAnswer : Years → Date → Option ℕ → Type 0
DayAnswer ys d (Some n) = HasDate ys n d
DayAnswer ys d None = (n : ℕ) → InRange n → d ≢ after ys.shape ys.origin (n - 1)

-- a guess at the year in which day n lies: that year, or one beside it
pub record Near (ys : Years) (n : ℕ) (guess : ℤ) : Type 0 where
  pub year : ℤ
  pub low : ys.first ≤ℤ year
  pub high : year <ℤ ys.past
  pub starts : ys.start year ≤ℤ pos n
  pub ends : pos n <ℤ ys.start (year +ℤ pos 1)
  pub not_before : (year -ℤ pos 1) ≤ℤ guess
  pub not_after : guess ≤ℤ (year +ℤ pos 1)

-- the first year is that of day 1, and the last that of the last day
pub record Bounded (ys : Years) : Type 0 where
  pub first : ys.origin.year ≡ ys.first
  pub last : ys.start (ys.past -ℤ pos 1) ≤ℤ pos 3652059

-- the twin of a month in another year is a month of that year; in its own year it is itself
pub record Twins (ys : Years) : Type 0 where
  pub inside : (y : ℤ) (m : ℕ) (z : ℤ) → ys.first ≤ℤ y → y <ℤ ys.past → 1 ≤ m → m ≤ ys.shape.months y → ys.first ≤ℤ z → z <ℤ ys.past → (1 ≤ ys.twin y m z) × (ys.twin y m z ≤ ys.shape.months z)
  pub same : (y : ℤ) (m : ℕ) → ys.first ≤ℤ y → y <ℤ ys.past → 1 ≤ m → m ≤ ys.shape.months y → ys.twin y m y ≡ m

-- all that a calendar owes
pub record YearsLaws (ys : Years) : Type 0 where
  pub fitting : Fitting ys
  pub bounded : Bounded ys
  pub twins : Twins ys
  pub guessed : (n : ℕ) → InRange n → Near ys n (ys.guess n)
