-- Known days, computed: a date that is valid, lies in the calendar's years and has the number n is the date of day n.
use Rattle.std.proofs.Common.{◌≡◌, ℕ, ◌+◌, ◌-◌, ◌≤◌, Bool, ◌&&◌, T, leb, pos, sym, refl, arith, leb→le}
use Rattle.std.proofs.lemmas.Int.{ints}
use Rattle.years.specs.Dates.{Shape, Years, after, number}
use Rattle.years.specs.Days.{Fitting}
use Rattle.years.proofs.Numbers.{found}
use Rattle.iso8601.specs.Gregorian.{gregorian, gregorian_start, gregorian_years}
use Rattle.iso8601.specs.Proleptic.{gregorian_fits}
use Rattle.hebrew.specs.Calendar.{hebrew, hebrew_start, hebrew_years, year_start, new_year}
use Rattle.hebrew.specs.Tables.{both_left, both_right}
use Rattle.hebrew.specs.Tishri.{hebrew_fits}
use Rattle.known_days.specs.Days.{dated, GregorianDay, HebrewDay, GregorianDays, HebrewDays}

-- numbers from one up to another
abbrev from_to : ℕ → ℕ → ℕ → Bool
from_to a b n = leb a n && leb n b

low : (a b n : ℕ) → T (from_to a b n) → a ≤ n
low a b n t = leb→le a n (both_left (leb a n) (leb n b) t)

high : (a b n : ℕ) → T (from_to a b n) → n ≤ b
high a b n t = leb→le n b (both_right (leb a n) (leb n b) t)

-- what is computed of a day: its number is in range, and its date is valid and in the years from lo to hi
abbrev valid : Shape → ℕ → ℕ → ℕ → Bool
valid s y m d = from_to 1 (s.months (pos y)) m && from_to 1 (s.size (pos y) m) d

abbrev counted : ℕ → ℕ → ℕ → ℕ → Bool
counted lo hi n y = from_to 1 3652059 n && from_to lo hi y

module _ (ys : Years) (lo hi : ℕ) (f : Fitting ys) (first : ys.first ≡ pos lo) (past : ys.past ≡ pos (hi + 1)) where
  known : (n y m d : ℕ) → T (counted lo hi n y && valid ys.shape y m d) → number ys.shape ys.start (dated y m d) ≡ pos n → after ys.shape ys.origin (n - 1) ≡ dated y m d
  known n y m d t is =
      let c = both_left (counted lo hi n y) (valid ys.shape y m d) t in
      let v = both_right (counted lo hi n y) (valid ys.shape y m d) t in
      let number_in = both_left (from_to 1 3652059 n) (from_to lo hi y) c in
      let year_in = both_right (from_to 1 3652059 n) (from_to lo hi y) c in
      let months = ys.shape.months (pos y) in
      let size = ys.shape.size (pos y) m in
      let month_in = both_left (from_to 1 months m) (from_to 1 size d) v in
      let day_in = both_right (from_to 1 months m) (from_to 1 size d) v in
      let year_low = low lo hi y year_in in
      let year_high = high lo hi y year_in in
      sym (found ys f (dated y m d) n (record { low = low 1 3652059 n number_in; high = high 1 3652059 n number_in })
      (record { valid = record { month_low = low 1 months m month_in; month_high = high 1 months m month_in; day_low = low 1 size d day_in; day_high = high 1 size d day_in }; low = omega (arith, ints); high = omega (arith, ints); is = is }))

pub gregorian_day : {n y m d : ℕ} → T (counted 1 9999 n y && valid gregorian y m d) → number gregorian gregorian_start (dated y m d) ≡ pos n → GregorianDay n y m d
gregorian_day {n} {y} {m} {d} t is = record { is = known gregorian_years 1 9999 gregorian_fits refl refl n y m d t is }

pub hebrew_day : {n y m d : ℕ} → T (counted 3761 13760 n y && valid hebrew y m d) → number hebrew hebrew_start (dated y m d) ≡ pos n → HebrewDay n y m d
hebrew_day {n} {y} {m} {d} t is = record { is = known hebrew_years 3761 13760 hebrew_fits refl refl n y m d t is }

pub gregorian_days : GregorianDays
gregorian_days = record {
  first = gregorian_day tt refl;
  last = gregorian_day tt refl;
  leap_4 = gregorian_day tt refl;
  february_100 = gregorian_day tt refl;
  march_100 = gregorian_day tt refl;
  february_1900 = gregorian_day tt refl;
  march_1900 = gregorian_day tt refl;
  leap_400 = gregorian_day tt refl;
  leap_2000 = gregorian_day tt refl;
  new_year_2000 = gregorian_day tt refl;
  march_2024 = gregorian_day tt refl;
  march_2025 = gregorian_day tt refl;
}

pub hebrew_days : HebrewDays
unfolding year_start new_year
hebrew_days = record {
  first = hebrew_day tt refl;
  last = hebrew_day tt refl;
  new_year_2000 = hebrew_day tt refl;
  deficient = record { first = hebrew_day tt refl; last = hebrew_day tt refl; next = hebrew_day tt refl; long = refl; days = refl };
  regular = record { first = hebrew_day tt refl; last = hebrew_day tt refl; next = hebrew_day tt refl; long = refl; days = refl };
  complete = record { first = hebrew_day tt refl; last = hebrew_day tt refl; next = hebrew_day tt refl; long = refl; days = refl };
  deficient_leap = record { first = hebrew_day tt refl; last = hebrew_day tt refl; next = hebrew_day tt refl; long = refl; days = refl };
  regular_leap = record { first = hebrew_day tt refl; last = hebrew_day tt refl; next = hebrew_day tt refl; long = refl; days = refl };
  complete_leap = record { first = hebrew_day tt refl; last = hebrew_day tt refl; next = hebrew_day tt refl; long = refl; days = refl };
  march_2024 = hebrew_day tt refl;
  day_on_2024 = hebrew_day tt refl;
  march_2025 = hebrew_day tt refl;
  day_on_2025 = hebrew_day tt refl;
}
