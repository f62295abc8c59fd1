-- Zones by a first offset and changes of it.
use Rattle.std.specs.Prelude.{Bool, true, cond, ◌&&◌, ◌||◌, List, [], ◌∷◌, length, ℤ, Some, None, Option, int_le, int_lt, nat_le}
use Rattle.zone.specs.declared.value.Value.TheVariants.{Offset, Blank}
use Rattle.zone.specs.Offsets.{is_offset}
use Rattle.zone.specs.Zones.{Zone}
use Rattle.zone_rule.specs.declared.step.Step.{Step}

-- the offset at second s: o before the first change, then that of the last change at or before s
abbrev pub offset_at : ℤ → List Step → ℤ → ℤ
offset_at o [] s = o
offset_at o (c ∷ cs) s = cond (int_lt s c.at) o (offset_at c.offset cs s)

abbrev pub is_after : Option ℤ → ℤ → Bool
is_after None t = true
is_after (Some a) t = int_lt a t

-- the changes come after a second, if there is one, in strictly rising order, to offsets that a zone may have
abbrev pub rising : Option ℤ → List Step → Bool
rising a [] = true
rising a (c ∷ cs) = is_after a c.at && (is_offset c.offset && rising (Some c.at) cs)

-- well made: at most 8 changes, rising, and every offset one that a zone may have
abbrev pub is_well_made : ℤ → List Step → Bool
is_well_made o cs = nat_le (length cs) 8 && (is_offset o && rising None cs)

-- what a zone of steps tells: blank throughout where it is badly made
abbrev pub steps_tell : ℤ → List Step → Zone
steps_tell o cs s = cond (is_well_made o cs) (Offset (offset_at o cs s)) (Blank 1 0)

-- ── the first change, as it is found ──

-- the change at second t from offset o to offset n counts after second a
abbrev pub alters_at : ℤ → ℤ → ℤ → ℤ → Bool
alters_at o a t n = int_lt a t && (int_lt o n || int_lt n o)

abbrev pub change_in : ℤ → List Step → ℤ → ℤ → Option ℤ
change_in o [] a b = None
change_in o (c ∷ cs) a b =
    cond (int_le b c.at) None
    (cond (alters_at o a c.at c.offset) (Some c.at) (change_in c.offset cs a b))
