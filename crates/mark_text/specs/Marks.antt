-- Which marks a text can enter, over two sources.
use Rattle.std.specs.Prelude.{◌≡◌, ◌≢◌, ℕ, zero, suc, ◌<◌, Bool, false, not, cond, ◌&&◌, ◌==◌, List, ℤ, Some, None, Option}
use Rattle.std.specs.Str.{bytes_eq}
use Rattle.timebase.specs.Instants.{is_instant}
use Rattle.zone.specs.Zones.{Zone, Zones, is_blank}
use Rattle.calendar.specs.Calendars.{Calendars}
use Rattle.local_times.specs.Locals.{second_of, Known}
use Rattle.mark_text.specs.declared.mark.Mark.{Mark}

-- i is the lowest number below a count that bears a name
pub record Lowest (name : ℕ → List ℕ) (count : ℕ) (n : List ℕ) (i : ℕ) : Type 0 where
  pub there : i < count
  pub bears : name i ≡ n
  pub lowest : (k : ℕ) → k < i → name k ≢ n

-- a mark that is there: its zone and calendar are, by the lowest numbers that bear their names, and its instant is in range, where
-- the zone has an offset
pub record IsThere (zs : Zones) (cs : Calendars) (m : Mark) : Type 0 where
  pub zone : Lowest zs.name zs.count (zs.name m.zone) m.zone
  pub calendar : Lowest cs.name cs.count (cs.name m.calendar) m.calendar
  pub known : Known (zs.value m.zone) m.instant

-- ── the same as a test ──

-- the lowest number below a count that bears a name
abbrev pub number_of : (ℕ → List ℕ) → ℕ → List ℕ → Option ℕ
number_of name zero n = None
number_of name (suc k) n = elim (number_of name k n) [ Some i ↦ Some i | None ↦ cond (bytes_eq (name k) n) (Some k) None ]

abbrev pub is_at : ℕ → Option ℕ → Bool
is_at i None = false
is_at i (Some k) = k == i

-- a number is found by the name that it bears
abbrev pub is_lowest : (ℕ → List ℕ) → ℕ → ℕ → Bool
is_lowest name count i = is_at i (number_of name count (name i))

-- an instant in range at which the zone has an offset
abbrev pub is_known : Zone → ℤ → Bool
is_known zone i = is_instant i && not (is_blank (zone (second_of i)))

unfoldable pub mark_there : Zones → Calendars → Mark → Bool
mark_there zs cs m = is_known (zs.value m.zone) m.instant && (is_lowest zs.name zs.count m.zone && is_lowest cs.name cs.count m.calendar)
