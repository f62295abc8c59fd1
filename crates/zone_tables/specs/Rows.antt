-- What is asked of the first zone of a source.
use Rattle.std.specs.Prelude.{◌≡◌, ◌<◌, ℤ}
use Rattle.zone.specs.declared.value.Value.TheVariants.{Offset, Blank}
use Rattle.zone.specs.Zones.{Zones}

-- the zone is there, and has this offset at the second
abbrev pub HasOffset : Zones → ℤ → ℤ → Type 0
HasOffset z s o = (0 < z.count) × (Offset o ≡ z.value 0 s)

-- the zone is there, and blank at the second as a badly made one is
abbrev pub IsBlankAt : Zones → ℤ → Type 0
IsBlankAt z s = (0 < z.count) × (Blank 1 0 ≡ z.value 0 s)

-- at every second
abbrev pub IsBlank : Zones → Type 0
IsBlank z = (0 < z.count) × ((s : ℤ) → Blank 1 0 ≡ z.value 0 s)
