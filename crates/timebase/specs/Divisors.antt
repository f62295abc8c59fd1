-- What a clause reads of a divisor.
use Rattle.std.specs.Prelude.{ℕ}
use Rattle.timebase.specs.declared.divisor.Divisor.{Divisor}

abbrev pub divisor_value : Divisor → ℕ
divisor_value d = d.value
