-- The one list of what is known: days of both calendars, and moves from day to day over the board's own zones and calendars,
-- whatever its two files hold.
use Rattle.std.specs.Prelude.{ℕ, List}
use Rattle.known_days.specs.Days.{GregorianDays, HebrewDays}
use Rattle.known_days.specs.Moves.{KnownMoves}

abbrev pub KnownDays : Type 0
KnownDays = GregorianDays × HebrewDays × ((one two : List ℕ) → KnownMoves one two)
