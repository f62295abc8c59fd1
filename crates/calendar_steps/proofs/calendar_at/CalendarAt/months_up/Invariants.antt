use Rattle.calendar_steps.proofs.Climbs.{Climbed}
use Rattle.calendar_steps.proofs.calendar_at.CalendarAt.months_up.Given as goal

abbrev pub invariant-loop-year : goal.invariant-loop-year
invariant-loop-year g l = Climbed ((g.C.CalendarSource.calendars l.self.source.now).calendar l.self.number) l.from l.to l.year l.count
