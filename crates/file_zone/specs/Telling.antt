-- What a clause reads of a zone that views a file.
use Rattle.std.specs.Prelude.{◌≡◌, ℕ, List, ℤ, Ok, Err, Result}
use Rattle.timebase.specs.declared.fault.Fault.{Fault}
use Rattle.tzif.specs.declared.layout.Layout.{Layout}
use Rattle.zone.specs.Zones.{Zone}
use Rattle.zone_rule.specs.declared.step.Step.{Step}
use Rattle.file_zone.specs.declared.block.Block.{Block}
use Rattle.file_zone.specs.Blocks.{offset_of, steps_of}
use Rattle.file_zone.specs.declared.zone_file.ZoneFile.{ZoneFile}
use Rattle.file_zone.specs.Files.{part_of, file_tells}

abbrev pub bytes_of : ZoneFile → List ℕ
bytes_of z = z.bytes.now

abbrev pub told_by : ZoneFile → Zone
told_by z = file_tells (bytes_of z)

-- the offset before a block's first transition, and its transitions as changes
abbrev pub first_in : Block → ℤ
first_in b = offset_of b.bytes.now b.times 0

abbrev pub steps_in : Block → List Step
steps_in b = steps_of b.bytes.now b.times

-- the block that is looked up in, by what the check of a file came to
abbrev pub IsBlockOf : List ℕ → Result Layout Fault → Result Block Fault → Type 0
IsBlockOf f (Ok l) (Ok b) = (b.bytes.now ≡ part_of f l) × (b.times ≡ l.times)
IsBlockOf f (Err _) (Err _) = Unit {0}
IsBlockOf f _ _ = ⊥
