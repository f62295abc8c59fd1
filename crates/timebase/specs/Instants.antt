-- Which microseconds from 1970-01-01T00:00:00Z are instants of marks.
use Rattle.std.specs.Prelude.{Bool, ◌&&◌, ℤ, pos, negsuc, int_le}

-- 0001-01-02T00:00:00Z
abbrev pub first_instant : ℤ
first_instant = negsuc 62135510399999999

-- 9999-12-30T23:59:59.999999Z
abbrev pub last_instant : ℤ
last_instant = pos 253402214399999999

abbrev pub is_instant : ℤ → Bool
is_instant i = int_le first_instant i && int_le i last_instant
