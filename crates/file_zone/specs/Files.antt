-- What a file tells of every second.
use Rattle.std.specs.Prelude.{ℕ, ◌+◌, ◌*◌, List, ℤ, None, Ok, Err, Option, Result}
use Rattle.std.specs.List.{between}
use Rattle.timebase.specs.declared.fault.Fault.{Fault}
use Rattle.tzif.specs.declared.layout.Layout.{Layout}
use Rattle.tzif.specs.File.{checked}
use Rattle.zone.specs.declared.value.Value.TheVariants.{Offset, Blank}
use Rattle.zone.specs.Zones.{Zone}
use Rattle.zone_rule.specs.Steps.{offset_at, change_in}
use Rattle.file_zone.specs.Blocks.{offset_of, steps_of}

-- the second block of a file, from its transition seconds to its type records
abbrev pub part_of : List ℕ → Layout → List ℕ
part_of f l = between l.block (l.block + 9 * l.times + 6 * l.types) f

-- by the file's bytes and what its check came to: type 0's offset before the first transition, then that of the last one at or
-- before the second; a bad file is blank throughout
abbrev pub told_in : List ℕ → Result Layout Fault → Zone
told_in f (Ok l) s = Offset (offset_at (offset_of (part_of f l) l.times 0) (steps_of (part_of f l) l.times) s)
told_in f (Err _) s = Blank 1 0

abbrev pub file_tells : List ℕ → Zone
file_tells f = told_in f (checked f)

-- the first change of offset after a and before b, as it is found
abbrev pub change_of : List ℕ → Result Layout Fault → ℤ → ℤ → Option ℤ
change_of f (Ok l) a b = change_in (offset_of (part_of f l) l.times 0) (steps_of (part_of f l) l.times) a b
change_of f (Err _) a b = None
