-- The one list.
use Rattle.known_days.specs.Known.{KnownDays}
use Rattle.known_days.proofs.Days.{gregorian_days, hebrew_days}
use Rattle.known_days.proofs.Moves.{known_moves}

pub known_days : KnownDays
known_days = (gregorian_days, hebrew_days, known_moves)
