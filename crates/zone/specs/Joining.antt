-- Two tables of zones side by side.
use Rattle.std.specs.Prelude.{◌+◌, min}
use Rattle.side_by_side.specs.Places.{joined_count, at_place}
use Rattle.zone.specs.declared.value.Value.{Value}
use Rattle.zone.specs.declared.value.Value.TheVariants.{Offset, Blank}
use Rattle.zone.specs.Zones.{Zones}

-- a blank from below is one deeper; 255 stays
abbrev pub deeper_of : Value → Value
deeper_of (Offset o) = Offset o
deeper_of (Blank cause depth) = Blank cause (min (depth + 1) 255)

-- the same zones, seen from one layer above
abbrev pub deepened : Zones → Zones
deepened z = record { count = z.count; name = z.name; value = λ i s. deeper_of (z.value i s) }

-- the first's zones, then the second's, each seen from one layer above; above 64 in all, only the first's
unfoldable pub joined : Zones → Zones → Zones
joined a b = record {
  count = joined_count a.count b.count;
  name = at_place a.count a.name b.name;
  value = λ i s. deeper_of (at_place a.count a.value b.value i s);
}
