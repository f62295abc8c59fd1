-- The fraction of a second, as it is written.
use Rattle.std.specs.Prelude.{ℕ, zero, suc, ◌+◌, ◌/◌, ◌%◌, ◌^◌, cond, List, [], ◌∷◌, ◌==◌}

-- the digits of a fraction of so many places, without final zeros
unfoldable pub fraction_digits : ℕ → ℕ → List ℕ
fraction_digits zero rest = []
fraction_digits (suc places) rest = cond (rest == 0) [] ((48 + rest / 10 ^ places) ∷ fraction_digits places (rest % 10 ^ places))

-- a point and the microseconds past the whole second, or nothing where there are none
unfoldable pub point_text : ℕ → List ℕ
point_text micros = cond (micros % 1000000 == 0) [] (46 ∷ fraction_digits 6 (micros % 1000000))
