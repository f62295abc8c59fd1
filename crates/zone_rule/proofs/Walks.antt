-- The walk over the changes of a step zone.
use Rattle.std.proofs.Common.{◌≡◌, ℕ, ◌+◌, ◌<◌, true, false, List, length, get_or, drop, ℤ, pos, Some, None, add-one, drop-cons}
use lib.Signed.{le_z}
use Rattle.zone_rule.specs.declared.step.Step.{Step}
use Rattle.zone_rule.specs.Steps.{change_in, alters_at}

abbrev pub nil : Step
nil = record { at = pos 0; offset = pos 0 }

module _ (cs : List Step) (i : ℕ) (o a b : ℤ) where
  pub change_stop : i < length cs → le_z b (get_or cs i nil).at ≡ true → change_in o (drop i cs) a b ≡ None
  change_stop h e = rw (drop-cons cs i nil h, e)

  pub change_here : i < length cs → le_z b (get_or cs i nil).at ≡ false → alters_at o a (get_or cs i nil).at (get_or cs i nil).offset ≡ true → change_in o (drop i cs) a b ≡ Some (get_or cs i nil).at
  change_here h e k = rw (drop-cons cs i nil h, e, k)

  pub change_step : i < length cs → le_z b (get_or cs i nil).at ≡ false → alters_at o a (get_or cs i nil).at (get_or cs i nil).offset ≡ false → change_in o (drop i cs) a b ≡ change_in (get_or cs i nil).offset (drop (i + 1) cs) a b
  change_step h e k = rw (add-one, drop-cons cs i nil h, e, k)
