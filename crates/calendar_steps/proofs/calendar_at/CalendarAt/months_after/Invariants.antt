use Rattle.std.proofs.Common.{pos, ◌+ℤ◌, ◌-ℤ◌, nat_abs}
use Rattle.calendar_steps.proofs.Strides.{Onto}
use Rattle.calendar_steps.proofs.calendar_at.CalendarAt.months_after.Given as goal

abbrev pub invariant-loop-year : goal.invariant-loop-year
invariant-loop-year g l = Onto ((g.C.CalendarSource.calendars l.self.source.now).calendar l.self.number) l.fn.from l.fn.months l.year l.left

abbrev pub decreases-loop-year : goal.decreases-loop-year
decreases-loop-year g l = nat_abs ((l.last +ℤ pos 1) -ℤ l.year)
