-- The limits of a span, and which spans a text can enter.
use Rattle.std.specs.Prelude.{ℕ, ◌≤◌, Bool, ◌&&◌, ◌||◌, ◌⊎◌, ℤ, pos, ◌≤ℤ◌, List, [], ◌∷◌, Option, int_lt, nat_lt, unsigned_abs}
use Rattle.std.specs.List.{find}
use Rattle.timebase.specs.declared.span.Part.{Part}
use Rattle.timebase.specs.declared.span.Part.TheVariants.{Years, Months, Weeks, Days, Time}
use Rattle.timebase.specs.declared.span.Span.{Span}

-- the most years, months, weeks or days
abbrev pub part_limit : ℕ
part_limit = 4000000

-- the most microseconds
abbrev pub time_limit : ℕ
time_limit = 400000000000000000

pub record InLimits (s : Span) : Type 0 where
  pub years : unsigned_abs s.years ≤ part_limit
  pub months : unsigned_abs s.months ≤ part_limit
  pub weeks : unsigned_abs s.weeks ≤ part_limit
  pub days : unsigned_abs s.days ≤ part_limit
  pub time : unsigned_abs s.time ≤ time_limit

pub record NoneBelow (s : Span) : Type 0 where
  pub years : pos 0 ≤ℤ s.years
  pub months : pos 0 ≤ℤ s.months
  pub weeks : pos 0 ≤ℤ s.weeks
  pub days : pos 0 ≤ℤ s.days
  pub time : pos 0 ≤ℤ s.time

pub record NoneAbove (s : Span) : Type 0 where
  pub years : s.years ≤ℤ pos 0
  pub months : s.months ≤ℤ pos 0
  pub weeks : s.weeks ≤ℤ pos 0
  pub days : s.days ≤ℤ pos 0
  pub time : s.time ≤ℤ pos 0

-- its parts share one sign and keep their limits: what a text can enter
pub record Enterable (s : Span) : Type 0 where
  pub signs : NoneBelow s ⊎ NoneAbove s
  pub limits : InLimits s

-- ── the same as a test ──

-- some part is below nought
abbrev pub is_minus : Span → Bool
is_minus s = int_lt s.years (pos 0) || (int_lt s.months (pos 0) || (int_lt s.weeks (pos 0) || (int_lt s.days (pos 0) || int_lt s.time (pos 0))))

-- a part is past its limit, or above nought where some part is below
abbrev pub is_wrong : Bool → ℕ → ℤ → Bool
is_wrong minus limit part = nat_lt limit (unsigned_abs part) || (minus && int_lt (pos 0) part)

abbrev pub all_parts : List Part
all_parts = Years ∷ (Months ∷ (Weeks ∷ (Days ∷ (Time ∷ []))))

abbrev pub limit_of : Part → ℕ
limit_of Years = part_limit
limit_of Months = part_limit
limit_of Weeks = part_limit
limit_of Days = part_limit
limit_of Time = time_limit

abbrev pub part_of : Span → Part → ℤ
part_of s Years = s.years
part_of s Months = s.months
part_of s Weeks = s.weeks
part_of s Days = s.days
part_of s Time = s.time

-- the first part that keeps a span from being entered
abbrev pub wrong_part : Span → Option Part
wrong_part s = find (λ p. is_wrong (is_minus s) (limit_of p) (part_of s p)) all_parts
