use Rattle.std.proofs.Common.{refl}
use Rattle.hebrew.specs.Calendar.{year_start, new_year}
use Rattle.known_days.proofs.Days.{gregorian_day, hebrew_day}
use Rattle.known_days.proofs.Known.{known_days}
use Rattle.known_days.proofs.known_days_hold.Goals as goal

-- the example is computed from the numbers in the contract, whatever they are
pub returns : goal.returns
unfolding year_start new_year
returns c = record { example = (gregorian_day tt refl, hebrew_day tt refl); all = known_days }
