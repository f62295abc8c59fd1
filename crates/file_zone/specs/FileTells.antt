-- What a file tells is sound, and its changes are those that are found.
use Rattle.std.proofs.Common.{◌≡◌, ℕ, zero, suc, ◌+◌, ◌<◌, true, List, ℤ, Some, None, Ok, Err, Option, Result, refl, arith}
use lib.Signed.{lt_z}
use Rattle.std.proofs.lemmas.Int.{ints}
use Rattle.std.proofs.lemmas.Bool.{and_from}
use Rattle.timebase.specs.declared.fault.Fault.{Fault}
use Rattle.tzif.specs.declared.layout.Layout.{Layout}
use Rattle.tzif.specs.File.{checked}
use Rattle.zone.specs.Zones.{SoundValue, FirstChange}
use Rattle.zone_rule.specs.Steps.{change_in, is_after, rising}
use Rattle.zone_rule.specs.StepLaws.{offsets_change, offsets_sound}
use Rattle.file_zone.specs.declared.block.Block.{Block}
use Rattle.file_zone.specs.Telling.{first_in, steps_in, IsBlockOf}
use Rattle.file_zone.specs.Blocks.{second_at, offset_of, steps_from, steps_of, GoodBlock}
use Rattle.file_zone.specs.Files.{part_of, told_in, file_tells, change_of}
use Rattle.file_zone.specs.GoodBlocks.{found}

-- the transitions of a good block rise, to offsets that a zone may have
steps_rise : (b : List ℕ) (n : ℕ) → GoodBlock b n → (m k : ℕ) (last : Option ℤ) → k + m ≡ n → (k < n → is_after last (second_at b k) ≡ true) → rising last (steps_from b n k m) ≡ true
steps_rise b n g zero k last e a = refl
steps_rise b n g (suc m) k last e a =
    and_from _ _ (a (omega arith))
    (and_from _ _ (g.bounded k (omega arith))
    (steps_rise b n g m (suc k) (Some (second_at b k)) (omega arith) (λ h. let r = g.rising k (suc k) (omega arith) h in let q : lt_z (second_at b k) (second_at b (suc k)) ≡ true = grind (arith, ints) in q)))

all_rise : (b : List ℕ) (n : ℕ) → GoodBlock b n → rising None (steps_of b n) ≡ true
all_rise b n g = steps_rise b n g n 0 None (omega arith) (λ _. refl)

module _ (f : List ℕ) where
  change_told : (a b : ℤ) (r : Result Layout Fault) → checked f ≡ r → FirstChange (told_in f r) a b (change_of f r a b)
  change_told a b (Ok l) e =
      offsets_change (steps_of (part_of f l) l.times) (offset_of (part_of f l) l.times 0) a b _
      (all_rise (part_of f l) l.times (found f l e).1) refl
  change_told a b (Err d) e = λ t h k. refl

  pub file_change : (a b : ℤ) (q : Option ℤ) → q ≡ change_of f (checked f) a b → FirstChange (file_tells f) a b q
  file_change a b q e = rw e (change_told a b (checked f) refl)

  sound_told : (s : ℤ) (r : Result Layout Fault) → checked f ≡ r → SoundValue (told_in f r s)
  sound_told s (Ok l) e =
      let g = (found f l e).1 in
      offsets_sound (steps_of (part_of f l) l.times) (offset_of (part_of f l) l.times 0) s g.first (all_rise (part_of f l) l.times g)
  sound_told s (Err d) e = (omega arith, omega arith)

  pub file_sound : (s : ℤ) → SoundValue (file_tells f s)
  file_sound s = sound_told s (checked f) refl

-- what is looked up in the block is told
module _ (f : List ℕ) (block : Block) where
  pub change_there : (r : Result Layout Fault) (a b : ℤ) → IsBlockOf f r (Ok block) → change_of f r a b ≡ change_in (first_in block) (steps_in block) a b
  change_there (Ok l) a b e = rw (e.0, e.1)
  change_there (Err d) a b e = absurd e
