-- What a clause reads of a zone of steps.
use Rattle.std.specs.Prelude.{Some, None, Option}
use Rattle.zone.specs.declared.value.Value.TheVariants.{Offset, Blank}
use Rattle.zone.specs.Zones.{Zone}
use Rattle.zone_rule.specs.declared.steps.Offsets.{Offsets}
use Rattle.zone_rule.specs.declared.steps.Steps.{Steps}
use Rattle.zone_rule.specs.Steps.{offset_at}

-- blank throughout where there are no offsets
abbrev pub offsets_tell : Option Offsets → Zone
offsets_tell None s = Blank 1 0
offsets_tell (Some o) s = Offset (offset_at o.first o.changes.now s)

abbrev pub told_by : Steps → Zone
told_by z = offsets_tell z.offsets
