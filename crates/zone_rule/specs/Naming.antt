-- A source of one zone.
use Rattle.std.specs.Prelude.{ℕ, cond, List, is_ok}
use Rattle.names.specs.ZoneScanning.{read_zone_name}
use Rattle.zone.specs.Zones.{Zone, Zones}
use Rattle.zone_rule.specs.Ranges.{held}

-- no zone where the name is out of form
abbrev pub one_or_none : List ℕ → ℕ
one_or_none name = cond (is_ok (read_zone_name name)) 1 0

-- what a rule tells, under a name; the ends of the range hold beyond it
unfoldable pub named_zone : List ℕ → Zone → Zones
named_zone name told = record { count = one_or_none name; name = λ _. name; value = λ _ s. told (held s) }
