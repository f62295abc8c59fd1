use Rattle.std.proofs.Common.{◌≡◌, ◌+◌}
use Rattle.years.specs.Lengths.{first_days}
use Rattle.years.proofs.days.month_and_day.Given as goal

abbrev pub invariant-loop-before : goal.invariant-loop-before
invariant-loop-before l = first_days l.year l.before + l.left ≡ l.rest
