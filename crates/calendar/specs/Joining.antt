-- Two tables of calendars side by side.
use Rattle.side_by_side.specs.Places.{joined_count, at_place}
use Rattle.calendar.specs.Calendars.{Calendars}

-- the first's calendars, then the second's; above 64 in all, only the first's
unfoldable pub joined : Calendars → Calendars → Calendars
joined a b = record { count = joined_count a.count b.count; name = at_place a.count a.name b.name; calendar = at_place a.count a.calendar b.calendar }
