-- Known days of both calendars: which date each day number has, by the rules that the calendars' contracts cite.
use Rattle.std.specs.Prelude.{◌≡◌, ℕ, ◌+◌, ◌-◌, pos}
use Rattle.years.specs.declared.date.Date.{Date}
use Rattle.years.specs.Dates.{after}
use Rattle.iso8601.specs.Gregorian.{gregorian, first_of_january}
use Rattle.hebrew.specs.Calendar.{hebrew, day_one, length_of_year}

abbrev pub dated : ℕ → ℕ → ℕ → Date
dated y m d = record { year = pos y; month = m; day = d }

-- day n is the date y-m-d
pub record GregorianDay (n y m d : ℕ) : Type 0 where
  pub is : after gregorian first_of_january (n - 1) ≡ dated y m d

-- months are counted from Tishri
pub record HebrewDay (n y m d : ℕ) : Type 0 where
  pub is : after hebrew day_one (n - 1) ≡ dated y m d

-- year y has the days from `start` to `end`, n of them, and ends on the 29th of month m
pub record HebrewYear (y n m start end : ℕ) : Type 0 where
  pub first : HebrewDay start y 1 1
  pub last : HebrewDay end y m 29
  pub next : HebrewDay (end + 1) (y + 1) 1 1
  pub long : length_of_year y ≡ n
  pub days : end + 1 - start ≡ n

pub record GregorianDays : Type 0 where
  pub first : GregorianDay 1 1 1 1
  pub last : GregorianDay 3652059 9999 12 31
  -- every fourth year has a 29 February
  pub leap_4 : GregorianDay 1155 4 2 29
  -- but not year 100 nor 1900
  pub february_100 : GregorianDay 36218 100 2 28
  pub march_100 : GregorianDay 36219 100 3 1
  pub february_1900 : GregorianDay 693654 1900 2 28
  pub march_1900 : GregorianDay 693655 1900 3 1
  -- years 400 and 2000 have one
  pub leap_400 : GregorianDay 145791 400 2 29
  pub leap_2000 : GregorianDay 730179 2000 2 29
  pub new_year_2000 : GregorianDay 730120 2000 1 1
  pub march_2024 : GregorianDay 738955 2024 3 10
  pub march_2025 : GregorianDay 739339 2025 3 29

pub record HebrewDays : Type 0 where
  pub first : HebrewDay 1 3761 4 18
  pub last : HebrewDay 3652059 13760 2 28
  pub new_year_2000 : HebrewDay 730120 5760 4 23
  -- a year of each length: common years of 12 months, then leap years of 13
  pub deficient : HebrewYear 5781 353 12 737687 738039
  pub regular : HebrewYear 5786 354 12 739517 739870
  pub complete : HebrewYear 5785 355 12 739162 739516
  pub deficient_leap : HebrewYear 5784 383 13 738779 739161
  pub regular_leap : HebrewYear 5782 384 13 738040 738423
  pub complete_leap : HebrewYear 5779 385 13 736947 737331
  -- the sixth month has 30 days in a leap year, and 29 in a common year
  pub march_2024 : HebrewDay 738955 5784 6 30
  pub day_on_2024 : HebrewDay 738956 5784 7 1
  pub march_2025 : HebrewDay 739339 5785 6 29
  pub day_on_2025 : HebrewDay 739340 5785 7 1
