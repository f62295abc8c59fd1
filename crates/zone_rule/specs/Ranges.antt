-- The range of a zone's seconds.
use Rattle.std.specs.Prelude.{cond, ℤ, pos, int_lt}
use Rattle.zone.specs.Zones.{least_second, greatest_second}

-- the second whose value holds at s: beyond the range the value at its end
abbrev pub held : ℤ → ℤ
held s = cond (int_lt s least_second) least_second (cond (int_lt greatest_second s) greatest_second s)

-- a stretch of seconds, cut to where the range can have changes
abbrev pub cut_low : ℤ → ℤ
cut_low a = cond (int_lt a least_second) least_second a

abbrev pub cut_high : ℤ → ℤ
cut_high b = cond (int_lt greatest_second b) (pos 253402387200) b
