-- The Gregorian calendar, carried back to year 1.
use Rattle.std.specs.Prelude.{ℕ, ◌+◌, ◌-◌, ◌*◌, ◌/◌, ◌%◌, min, Bool, cond, not, ◌&&◌, ◌||◌, List, [], ◌∷◌, ℤ, pos, ◌==◌, slice_index, unsigned_abs}
use Rattle.years.specs.declared.date.Date.{Date}
use Rattle.years.specs.Dates.{Shape, Years}

abbrev pub leap : ℕ → Bool
leap y = y % 4 == 0 && (not (y % 100 == 0) || y % 400 == 0)

abbrev pub february : Bool → ℕ
february b = cond b 29 28

-- the lengths of the months, January first
abbrev pub lengths : Bool → List ℕ
lengths b = 31 ∷ february b ∷ 31 ∷ 30 ∷ 31 ∷ 30 ∷ 31 ∷ 31 ∷ 30 ∷ 31 ∷ 30 ∷ 31 ∷ 0 ∷ 0 ∷ []

abbrev pub gregorian : Shape
gregorian = record { months = λ y. 12; size = λ y m. slice_index (lengths (leap (unsigned_abs y))) (m - 1) }

-- the day number of 1 January: day 1 in year 1
abbrev pub start_of : ℕ → ℕ
start_of y = 365 * (y - 1) + (y - 1) / 4 - (y - 1) / 100 + (y - 1) / 400 + 1

abbrev pub gregorian_start : ℤ → ℤ
gregorian_start y = pos (start_of (unsigned_abs y))

abbrev pub first_of_january : Date
first_of_january = record { year = pos 1; month = 1; day = 1 }

-- a month's place in another year: every year has the same months
abbrev pub twin : ℤ → ℕ → ℤ → ℕ
twin year month other = month

-- a guess at the year of a day: 400 years have 146,097 days
abbrev pub guess : ℕ → ℕ
guess n = min n 3652059 * 400 / 146097 + 1

-- years 1 to 9999
abbrev pub gregorian_years : Years
gregorian_years = record {
  shape = gregorian;
  start = gregorian_start;
  first = pos 1;
  past = pos 10000;
  origin = first_of_january;
  twin = twin;
  guess = λ n. pos (guess n);
}
