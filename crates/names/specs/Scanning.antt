-- The steps by which a name is read.
use Rattle.std.specs.Prelude.{ℕ, Bool, cond, ◌&&◌, ◌||◌, List, length, Some, None, Option, Result, ◌==◌, nat_le}
use Rattle.reading.specs.declared.Misread.{Misread}
use Rattle.reading.specs.Reading.{read_on, limited}
use Rattle.names.specs.declared.Progress.{Progress}
use Rattle.names.specs.declared.Progress.TheVariants.{Begin, Run}
use Rattle.names.specs.declared.InForm.{InForm}

abbrev pub is_letter_or_digit : ℕ → Bool
is_letter_or_digit b = (nat_le 97 b && nat_le b 122) || ((nat_le 65 b && nat_le b 90) || (nat_le 48 b && nat_le b 57))

abbrev pub stepped : Progress → ℕ → ℕ → Option Progress
stepped Begin at b = cond (is_letter_or_digit b) (Some Run) None
stepped Run at b = cond (is_letter_or_digit b) (Some Run) (cond (b == 45) (Some Begin) None)

abbrev pub ended : Progress → Option InForm
ended Begin = None
ended Run = Some (record {})

-- a name of any length
abbrev pub scan_calendar_name : List ℕ → Result InForm Misread
scan_calendar_name name = read_on stepped ended Begin 0 name

abbrev pub read_calendar_name : List ℕ → Result InForm Misread
read_calendar_name name = limited 16 (length name) (scan_calendar_name name)
