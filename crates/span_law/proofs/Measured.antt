-- What a measured span keeps, between instants that are known to be there.
use Rattle.std.proofs.Common.{◌≡◌, ◌≢◌, ◌<◌, ℤ, nat_abs, Ok}
use Rattle.timebase.specs.declared.span.Span.{Span}
use Rattle.zone.specs.Zones.{Zone, ZoneLaws}
use Rattle.calendar.specs.Calendars.{Calendar, CalendarLaws}
use Rattle.local_times.specs.Locals.{Known}
use Rattle.span_law.specs.declared.unit.Unit.{Unit as Measure}
use Rattle.span_law.specs.declared.unit.Unit.TheVariants.{Day}
use Rattle.span_law.specs.Carrying.{carried}
use Rattle.span_law.specs.Measuring.{measured}
use Rattle.span_law.specs.Law.{Keeps, OnlyDays, Smaller, Beyond}

pub record TrueMeasure (zone : Zone) (c : Calendar) (unit : Measure) (a b : ℤ) (s : Span) : Type 0 where
  pub arrives : carried zone c a s ≡ Ok b
  pub keeps : Keeps a b s
  pub most_days : unit ≡ Day → (t : Span) → OnlyDays t → Keeps a b t → carried zone c a t ≡ Ok b → t ≢ s → nat_abs t.days < nat_abs s.days
  pub farther : (e : ℤ) (t : Span) → Known zone e → Beyond a b e → measured zone c unit a e ≡ Ok t → Smaller s t

abbrev pub MeasuresAreTrue : Type 0
MeasuresAreTrue =
    (zone : Zone) (c : Calendar) → ZoneLaws zone → CalendarLaws c → (unit : Measure) (a b : ℤ) (s : Span) →
    Known zone a → Known zone b → measured zone c unit a b ≡ Ok s → TrueMeasure zone c unit a b s
