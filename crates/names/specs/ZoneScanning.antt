-- The steps by which zones' names are read.
use Rattle.std.specs.Prelude.{ℕ, Bool, cond, ◌&&◌, ◌||◌, List, length, Some, None, Option, Result, ◌==◌, nat_le}
use Rattle.reading.specs.declared.Misread.{Misread}
use Rattle.reading.specs.Reading.{read_on, limited}
use Rattle.names.specs.Scanning.{is_letter_or_digit}
use Rattle.names.specs.declared.InForm.{InForm}
use Rattle.names.specs.declared.zone_form.ZoneProgress.{ZoneProgress}
use Rattle.names.specs.declared.zone_form.ZoneProgress.TheVariants.{Begin, Inside}

abbrev pub is_letter : ℕ → Bool
is_letter b = (nat_le 97 b && nat_le b 122) || (nat_le 65 b && nat_le b 90)

abbrev pub is_first_of_zone_name : ℕ → Bool
is_first_of_zone_name b = is_letter b || (b == 95 || b == 46)

abbrev pub is_in_zone_name : ℕ → Bool
is_in_zone_name b = is_letter_or_digit b || (b == 46 || (b == 95 || (b == 45 || (b == 43 || b == 47))))

abbrev pub zone_stepped : ZoneProgress → ℕ → ℕ → Option ZoneProgress
zone_stepped Begin at b = cond (is_first_of_zone_name b) (Some Inside) None
zone_stepped Inside at b = cond (is_in_zone_name b) (Some Inside) None

abbrev pub zone_ended : ZoneProgress → Option InForm
zone_ended Begin = None
zone_ended Inside = Some (record {})

-- a name of any length
abbrev pub scan_zone_name : List ℕ → Result InForm Misread
scan_zone_name name = read_on zone_stepped zone_ended Begin 0 name

abbrev pub read_zone_name : List ℕ → Result InForm Misread
read_zone_name name = limited 32 (length name) (scan_zone_name name)
