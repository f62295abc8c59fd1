-- The landing after one stretch more, by its tests.
use Rattle.std.proofs.Common.{◌≡◌, true, false, ℤ, ◌-ℤ◌}
use lib.Signed.{lt_z}
use Rattle.local_times.specs.declared.landing.Landing.TheVariants.{Before, Gap, Hit}
use Rattle.local_times.specs.Walk.{holds_in, land_of}

module _ (l a n o p : ℤ) where
  pub gap_hit : (g : ℤ) → holds_in a (l -ℤ o) n ≡ true → land_of l a n o p (Gap g) ≡ Hit (l -ℤ o)
  gap_hit g h = rw h

  pub gap_gap : (g : ℤ) → holds_in a (l -ℤ o) n ≡ false → land_of l a n o p (Gap g) ≡ Gap g
  gap_gap g h = rw h

  pub before_hit : holds_in a (l -ℤ o) n ≡ true → land_of l a n o p Before ≡ Hit (l -ℤ o)
  before_hit h = rw h

  pub before_gap : holds_in a (l -ℤ o) n ≡ false → lt_z (l -ℤ o) a ≡ true → land_of l a n o p Before ≡ Gap (l -ℤ p)
  before_gap h k = rw (h, k)

  pub before_before : holds_in a (l -ℤ o) n ≡ false → lt_z (l -ℤ o) a ≡ false → land_of l a n o p Before ≡ Before
  before_before h k = rw (h, k)
