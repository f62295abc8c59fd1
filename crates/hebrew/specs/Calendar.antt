-- The Hebrew calendar, its months counted from Tishri. Years here are natural numbers; all divisions round downward.
use Rattle.std.specs.Prelude.{ℕ, ◌+◌, ◌-◌, ◌*◌, ◌/◌, ◌%◌, min, Bool, true, false, cond, not, ◌&&◌, ◌||◌, List, [], ◌∷◌, ℤ, pos, ◌-ℤ◌, ◌==◌, nat_le, nat_lt, unsigned_abs}
use Rattle.years.specs.declared.date.Date.{Date}
use Rattle.years.specs.Dates.{Shape, Years}
use Rattle.years.specs.Rules.{listed}

-- the months before a year
abbrev pub elapsed : ℕ → ℕ
elapsed y = (235 * y - 234) / 19

-- the day of the molad, the mean new moon, after e months
abbrev pub molad_day : ℕ → ℕ
molad_day e = 29 * e + (12084 + 13753 * e) / 25920

-- a year does not begin on three days of the week
abbrev pub postponed : ℕ → ℕ
postponed q = cond (nat_lt (3 * (q + 1) % 7) 3) (q + 1) q

unfoldable pub new_year : ℕ → ℕ
new_year y = postponed (molad_day (elapsed y))

-- a year's first day, from the days found for the year before, for itself and for the year after: a year of 356 days
-- begins two days later, and one after a year of 382 days a day later
abbrev pub corrected : ℕ → ℕ → ℕ → ℕ
corrected before here next = here + cond (next - here == 356) 2 (cond (here - before == 382) 1 0)

-- counted so that day number 1 is 1,373,428
unfoldable pub year_start : ℕ → ℕ
year_start y = corrected (new_year (y - 1)) (new_year y) (new_year (y + 1))

abbrev pub length_of_year : ℕ → ℕ
length_of_year y = year_start (y + 1) - year_start y

abbrev pub leap : ℕ → Bool
leap y = nat_lt ((7 * y + 1) % 19) 7

abbrev pub months_of : Bool → ℕ
months_of b = cond b 13 12

-- Marheshvan is longer in a complete year
abbrev pub marheshvan : ℕ → ℕ
marheshvan n = cond (n == 355 || n == 385) 30 29

-- Kislev is shorter in a deficient year
abbrev pub kislev : ℕ → ℕ
kislev n = cond (n == 353 || n == 383) 29 30

-- 30 and 29 by turns
abbrev pub by_turns : ℕ → ℕ
by_turns m = cond (m % 2 == 1) 30 29

-- in a leap year the sixth month is one more, of 30 days
abbrev pub with_sixth : ℕ → ℕ
with_sixth m = cond (nat_lt m 6) (by_turns m) (cond (m == 6) 30 (by_turns (m - 1)))

-- the length of month m in a year that is leap or not, and has n days
abbrev pub month_length : Bool → ℕ → ℕ → ℕ
month_length b n m = cond (m == 2) (marheshvan n) (cond (m == 3) (kislev n) (cond b (with_sixth m) (by_turns m)))

-- the lengths of the months, and 0 up to the fourteenth
abbrev pub leap_lengths : ℕ → List ℕ
leap_lengths n = listed (month_length true n) 1 13 (0 ∷ [])

abbrev pub common_lengths : ℕ → List ℕ
common_lengths n = listed (month_length false n) 1 12 (0 ∷ 0 ∷ [])

abbrev pub lengths : Bool → ℕ → List ℕ
lengths b n = cond b (leap_lengths n) (common_lengths n)

abbrev pub hebrew : Shape
hebrew = record { months = λ y. months_of (leap (unsigned_abs y)); size = λ y m. month_length (leap (unsigned_abs y)) (length_of_year (unsigned_abs y)) m }

abbrev pub hebrew_start : ℤ → ℤ
hebrew_start y = pos (year_start (unsigned_abs y)) -ℤ pos 1373427

abbrev pub day_one : Date
day_one = record { year = pos 3761; month = 4; day = 18 }

-- a month of one year in another, each leap or not: Adar is the sixth of a common year and the seventh of a leap year, so the
-- months from it on gain one or lose one
abbrev pub moved : Bool → Bool → ℕ → ℕ
moved here there m = cond (not here && (there && (nat_le 6 m && nat_le m 12))) (m + 1) (cond (here && (not there && nat_le 7 m)) (m - 1) m)

-- the month of the other year that stands for a month of this one
abbrev pub twin : ℤ → ℕ → ℤ → ℕ
twin year month other = moved (leap (unsigned_abs year)) (leap (unsigned_abs other)) month

-- a guess at the year of a day: 400 years have about 146,099 days
abbrev pub guess : ℕ → ℕ
guess n = (min n 3652059 + 475) * 400 / 146099 + 3760

-- years 3761 to 13,760
abbrev pub hebrew_years : Years
hebrew_years = record {
  shape = hebrew;
  start = hebrew_start;
  first = pos 3761;
  past = pos 13761;
  origin = day_one;
  twin = twin;
  guess = λ n. pos (guess n);
}
