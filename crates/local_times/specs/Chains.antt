-- Calls that are made one after another, until one is refused.
use Rattle.std.specs.Prelude.{Ok, Err, Result}
use Rattle.timebase.specs.declared.fault.Fault.{Fault}

-- f of what was answered; a refusal is passed on
infixl 1 ◌>>=◌
abbrev pub ◌>>=◌ : {A B : Type 0} → Result A Fault → (A → Result B Fault) → Result B Fault
Ok a >>= f = f a
Err e >>= f = Err e
