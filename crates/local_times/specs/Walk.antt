-- The landing of a walk through the window, one stretch of one offset after the other.
use Rattle.std.specs.Prelude.{Bool, cond, ◌&&◌, ℤ, pos, negsuc, ◌-ℤ◌, ◌≤ℤ◌, int_le, int_lt}
use Rattle.local_times.specs.declared.landing.Landing.{Landing}
use Rattle.local_times.specs.declared.landing.Landing.TheVariants.{Before, Gap, Hit}

abbrev pub holds_in : ℤ → ℤ → ℤ → Bool
holds_in a i n = int_le a i && int_lt i n

-- one stretch more: the seconds from a up to n have offset o, and the second before a had offset p
abbrev pub land_of : ℤ → ℤ → ℤ → ℤ → ℤ → Landing → Landing
land_of l a n o p (Hit i) = Hit i
land_of l a n o p (Gap g) = cond (holds_in a (l -ℤ o) n) (Hit (l -ℤ o)) (Gap g)
land_of l a n o p Before = cond (holds_in a (l -ℤ o) n) (Hit (l -ℤ o)) (cond (int_lt (l -ℤ o) a) (Gap (l -ℤ p)) Before)

-- the range of local times, in seconds, and of offsets
abbrev pub LocalFits : ℤ → Type 0
LocalFits l = (negsuc 999999999999 ≤ℤ l) × (l ≤ℤ pos 999999999999)

abbrev pub OffsetFits : ℤ → Type 0
OffsetFits o = (negsuc 86398 ≤ℤ o) × (o ≤ℤ pos 86399)
