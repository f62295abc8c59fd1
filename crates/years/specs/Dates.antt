-- Dates of a calendar, and the way from one to the next.
use Rattle.std.specs.Prelude.{◌≡◌, ℕ, zero, suc, ◌+◌, ◌-◌, ◌<◌, ◌≤◌, cond, ◌⊎◌, ℤ, pos, ◌+ℤ◌, ◌≤ℤ◌, ◌<ℤ◌, nat_lt}
use Rattle.years.specs.declared.date.Date.{Date}

-- the months of each year, and the length of each month
pub record Shape : Type 0 where
  pub months : ℤ → ℕ
  pub size : ℤ → ℕ → ℕ

-- the years of a calendar: their shape, the day number on which each starts, the first and one past the last, the date of day 1, the
-- month of a second year that is the twin of a month of a first, and a guess at the year of a day number
pub record Years : Type 0 where
  pub shape : Shape
  pub start : ℤ → ℤ
  pub first : ℤ
  pub past : ℤ
  pub origin : Date
  pub twin : ℤ → ℕ → ℤ → ℕ
  pub guess : ℕ → ℤ

pub record Valid (s : Shape) (d : Date) : Type 0 where
  pub month_low : 1 ≤ d.month
  pub month_high : d.month ≤ s.months d.year
  pub day_low : 1 ≤ d.day
  pub day_high : d.day ≤ s.size d.year d.month

-- every year has a month, and every month a day
pub record Filled (s : Shape) : Type 0 where
  pub some_month : (y : ℤ) → 1 ≤ s.months y
  pub some_day : (y : ℤ) (m : ℕ) → 1 ≤ m → m ≤ s.months y → 1 ≤ s.size y m

abbrev pub day_on : Date → Date
day_on d = record { year = d.year; month = d.month; day = d.day + 1 }

abbrev pub month_on : Date → Date
month_on d = record { year = d.year; month = d.month + 1; day = 1 }

abbrev pub year_on : Date → Date
year_on d = record { year = d.year +ℤ pos 1; month = 1; day = 1 }

-- the next day of the month, else the first of the next month, else of the next year
abbrev pub next : Shape → Date → Date
next s d =
    cond (nat_lt d.day (s.size d.year d.month)) (day_on d)
    (cond (nat_lt d.month (s.months d.year)) (month_on d) (year_on d))

-- k days after a date
unfoldable pub after : Shape → Date → ℕ → Date
after s d zero = d
after s d (suc k) = next s (after s d k)

-- the order of dates: by year, then month, then day
abbrev pub Before : Date → Date → Type 0
Before a b = (a.year <ℤ b.year) ⊎ ((a.year ≡ b.year) × ((a.month < b.month) ⊎ ((a.month ≡ b.month) × (a.day < b.day))))

-- the days of the first m months of year y
abbrev pub days_in : Shape → ℤ → ℕ → ℕ
days_in s y zero = 0
days_in s y (suc m) = days_in s y m + s.size y (suc m)

-- the day number of a date, from the day on which each year starts
abbrev pub number : Shape → (ℤ → ℤ) → Date → ℤ
number s start d = start d.year +ℤ pos (days_in s d.year (d.month - 1) + (d.day - 1))

-- each year starts where the months of the year before end
abbrev pub Adds : Years → Type 0
Adds ys = (y : ℤ) → ys.first ≤ℤ y → y <ℤ ys.past → ys.start (y +ℤ pos 1) ≡ ys.start y +ℤ pos (days_in ys.shape y (ys.shape.months y))

-- the month and the day of the day that comes `rest` days after the first of year y
pub record MonthDay (s : Shape) (y : ℤ) (rest m d : ℕ) : Type 0 where
  pub month_low : 1 ≤ m
  pub month_high : m ≤ s.months y
  pub day_low : 1 ≤ d
  pub day_high : d ≤ s.size y m
  pub is : days_in s y (m - 1) + (d - 1) ≡ rest
