-- What a rule answers of a year.
use Rattle.std.specs.Prelude.{ℕ, zero, suc, ◌-◌, cond, ◌&&◌, List, ◌∷◌, replicate, ℤ, Some, None, Option, int_le, int_lt, nat_le, nat_lt, slice_index}
use Rattle.years.specs.declared.rule.Year.{Year}
use Rattle.years.specs.Dates.{Shape, Years, days_in}

-- the length of a month of a year; none where it has no such month
abbrev pub length_in : Year → ℕ → Option ℕ
length_in r m = cond (nat_le 1 m && (nat_le m r.months && nat_lt (m - 1) 14)) (Some (slice_index r.lengths (m - 1))) None

-- the values of f at k numbers from m on, before the rest
abbrev pub listed : (ℕ → ℕ) → ℕ → ℕ → List ℕ → List ℕ
listed f m zero rest = rest
listed f m (suc k) rest = f m ∷ listed f (suc m) k rest

-- the lengths of the months of year y, and 0 past them up to the fourteenth
abbrev pub lengths_of : Shape → ℤ → List ℕ
lengths_of s y = listed (s.size y) 1 (s.months y) (replicate (14 - s.months y) 0)

-- year y of a calendar
abbrev pub year_of : Years → ℤ → Year
year_of ys y = record {
  start = ys.start y;
  days = days_in ys.shape y (ys.shape.months y);
  months = ys.shape.months y;
  lengths = lengths_of ys.shape y;
}

-- the same; none where the calendar has no such year
abbrev pub year_in : Years → ℤ → Option Year
year_in ys y = cond (int_le ys.first y && int_lt y ys.past) (Some (year_of ys y)) None
