use Rattle.std.proofs.Common.{pos, ◌+ℤ◌, ◌-ℤ◌, nat_abs}
use Rattle.calendar_steps.proofs.Strides.{Behind}
use Rattle.calendar_steps.proofs.calendar_at.CalendarAt.months_before.Given as goal

abbrev pub invariant-loop-year : goal.invariant-loop-year
invariant-loop-year g l = Behind ((g.C.CalendarSource.calendars l.self.source.now).calendar l.self.number) l.fn.from l.fn.months l.year l.back

abbrev pub decreases-loop-year : goal.decreases-loop-year
decreases-loop-year g l = nat_abs ((l.year +ℤ pos 1) -ℤ l.first)
