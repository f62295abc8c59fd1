-- A calendar told by its years, and a source of it alone.
use Rattle.std.specs.Prelude.{ℕ, ◌-◌, Bool, cond, ◌&&◌, List, ℤ, pos, ◌-ℤ◌, is_ok, Some, None, Option, int_le, int_lt, nat_le, unsigned_abs}
use Rattle.names.specs.Scanning.{read_calendar_name}
use Rattle.years.specs.declared.date.Date.{Date}
use Rattle.years.specs.Dates.{Years, after, number}
use Rattle.calendar.specs.Calendars.{Calendar, Calendars, last_day}

abbrev pub single_count : List ℕ → ℕ
single_count name = cond (is_ok (read_calendar_name name)) 1 0

module _ (ys : Years) where
  -- a date of the calendar's years and months
  abbrev pub valid_date : Date → Bool
  valid_date d =
      (int_le ys.first d.year && int_lt d.year ys.past)
      && ((nat_le 1 d.month && nat_le d.month (ys.shape.months d.year)) && (nat_le 1 d.day && nat_le d.day (ys.shape.size d.year d.month)))

  -- a day number that is there
  abbrev pub in_days : ℤ → Option ℕ
  in_days z = cond (int_le (pos 1) z && int_le z (pos last_day)) (Some (unsigned_abs z)) None

  abbrev pub day_number : Date → Option ℕ
  day_number d = cond (valid_date d) (in_days (number ys.shape ys.start d)) None

  -- the date of day n is n - 1 days after that of day 1
  abbrev pub calendar_of : Calendar
  calendar_of = record {
    first = ys.first;
    last = ys.past -ℤ pos 1;
    months = ys.shape.months;
    size = ys.shape.size;
    date = λ n. after ys.shape ys.origin (n - 1);
    number = day_number;
    twin = ys.twin;
  }

  -- one calendar, or none where its name is out of form
  unfoldable pub single : List ℕ → Calendars
  single name = record { count = single_count name; name = λ _. name; calendar = λ _. calendar_of }
