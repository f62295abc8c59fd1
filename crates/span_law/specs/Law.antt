-- The law that measured spans keep, over every zone and every calendar.
use Rattle.std.specs.Prelude.{◌≡◌, ℕ, ◌<◌, ◌≢◌, ◌⊎◌, ℤ, pos, ◌≤ℤ◌, ◌<ℤ◌, Ok, unsigned_abs}
use Rattle.timebase.specs.declared.span.Span.{Span}
use Rattle.timebase.specs.Spans.{InLimits}
use Rattle.zone.specs.Zones.{Zone, ZoneLaws, Zones}
use Rattle.calendar.specs.Calendars.{Calendar, CalendarLaws, Calendars}
use Rattle.span_law.specs.declared.unit.Unit.{Unit as Measure}
use Rattle.span_law.specs.declared.unit.Unit.TheVariants.{Day}
use Rattle.span_law.specs.declared.way.Way.{Way}
use Rattle.span_law.specs.declared.way.Way.TheVariants.{Onward as onward, Back as back}
use Rattle.span_law.specs.Carrying.{carry_answer}
use Rattle.span_law.specs.Measuring.{way_between, no_span, measure_answer}

-- a part is nought or points the way
abbrev pub Points : Way → ℤ → Type 0
Points onward part = pos 0 ≤ℤ part
Points back part = part ≤ℤ pos 0

pub record Aligned (way : Way) (s : Span) : Type 0 where
  pub years : Points way s.years
  pub months : Points way s.months
  pub weeks : Points way s.weeks
  pub days : Points way s.days
  pub time : Points way s.time

pub record OnlyDays (s : Span) : Type 0 where
  pub years : s.years ≡ pos 0
  pub months : s.months ≡ pos 0
  pub weeks : s.weeks ≡ pos 0

-- compared from years down, signs aside
abbrev pub Smaller : Span → Span → Type 0
Smaller s t =
    (unsigned_abs s.years < unsigned_abs t.years) ⊎
    ((s.years ≡ t.years) ×
    ((unsigned_abs s.months < unsigned_abs t.months) ⊎
    ((s.months ≡ t.months) ×
    ((unsigned_abs s.weeks < unsigned_abs t.weeks) ⊎
    ((s.weeks ≡ t.weeks) ×
    ((unsigned_abs s.days < unsigned_abs t.days) ⊎
    ((s.days ≡ t.days) × (unsigned_abs s.time < unsigned_abs t.time))))))))

-- b lies beyond m, seen from a
abbrev pub Beyond : ℤ → ℤ → ℤ → Type 0
Beyond a m b = ((a <ℤ m) × (m <ℤ b)) ⊎ ((m <ℤ a) × (b <ℤ m))

-- each part is nought or points the way, and all are nought between equal instants
pub record Keeps (a b : ℤ) (s : Span) : Type 0 where
  pub aligned : Aligned (way_between a b) s
  pub nought : a ≡ b → s ≡ no_span

-- what the span s that was measured from the instant a to the instant b keeps
pub record TrueSpan (zone : Zone) (c : Calendar) (unit : Measure) (a b : ℤ) (s : Span) : Type 0 where
  -- carried from a, it is accepted and arrives at b
  pub arrives : carry_answer zone c a s ≡ Ok b
  pub keeps : Keeps a b s
  pub limits : InLimits s
  -- measured by day, it has more days than any other span of days and time that keeps this and arrives at b
  pub most_days : unit ≡ Day → (t : Span) → OnlyDays t → Keeps a b t → carry_answer zone c a t ≡ Ok b → t ≢ s → unsigned_abs t.days < unsigned_abs s.days
  -- of an instant farther off on the same side, the span is larger
  pub farther : (e : ℤ) (t : Span) → Beyond a b e → measure_answer zone c unit a e ≡ Ok t → Smaller s t

-- every span that measuring answers is true
abbrev pub SpansAreTrue : Type 0
SpansAreTrue = (zone : Zone) (c : Calendar) → ZoneLaws zone → CalendarLaws c → (unit : Measure) (a b : ℤ) (s : Span) → measure_answer zone c unit a b ≡ Ok s → TrueSpan zone c unit a b s

-- the same of two sources: of each of their zones and calendars
abbrev pub SpansTrueOver : Zones → Calendars → Type 0
SpansTrueOver zs cs =
    (z k : ℕ) → z < zs.count → k < cs.count → (unit : Measure) (a b : ℤ) (s : Span) → measure_answer (zs.value z) (cs.calendar k) unit a b ≡ Ok s → TrueSpan (zs.value z) (cs.calendar k) unit a b s
