-- What the sources of `board` mean.
use Rattle.std.specs.Prelude.{ℕ, List, [], ◌∷◌, pos, codes}
use Rattle.calendar.specs.Calendars.{Calendars}
use Rattle.calendar.specs.Joining.{joined as calendars_joined}
use Rattle.calendar.specs.Singles.{single}
use Rattle.hebrew.specs.Calendar.{hebrew_years}
use Rattle.iso8601.specs.Gregorian.{gregorian_years}
use Rattle.file_zone.specs.Files.{file_tells}
use Rattle.zone.specs.Joining.{joined as zones_joined}
use Rattle.zone.specs.Zones.{Zone, Zones}
use Rattle.zone_rule.specs.declared.step.Step.{Step}
use Rattle.zone_rule.specs.Naming.{named_zone}
use Rattle.zone_rule.specs.Steps.{steps_tell}

-- UTC at all times
abbrev pub utc : Zone
utc = steps_tell (pos 0) []

-- the changes of Test/H
abbrev pub test_changes : List Step
test_changes = record { at = pos 1000000; offset = pos 7200 } ∷ (record { at = pos 2000000; offset = pos 3600 } ∷ [])

-- an hour ahead of UTC, but two from second 1,000,000 up to 2,000,000
abbrev pub test_h : Zone
test_h = steps_tell (pos 3600) test_changes

-- zone 0 is UTC, and zone 1 Test/H
abbrev pub home_zones : Zones
home_zones = zones_joined (named_zone (codes "UTC") utc) (named_zone (codes "Test/H") test_h)

-- two zones that view the bytes of two files
abbrev pub site_zones : List ℕ → List ℕ → Zones
site_zones one two = zones_joined (named_zone (codes "Site/One") (file_tells one)) (named_zone (codes "Site/Two") (file_tells two))

-- two pairs side by side, over the bytes of two files
abbrev pub board_zones : List ℕ → List ℕ → Zones
board_zones one two = zones_joined home_zones (site_zones one two)

-- the Gregorian calendar, then the Hebrew one
abbrev pub board_calendars : Calendars
board_calendars = calendars_joined (single gregorian_years (codes "iso8601")) (single hebrew_years (codes "hebrew"))
