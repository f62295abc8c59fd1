-- A text that a writer puts.
use Rattle.std.specs.Prelude.{◌≡◌, ℕ, List}
use Rattle.writing.specs.declared.Writer.{Writer}
use Rattle.writing.specs.Placing.{Placed}

-- a text was put where the writer stood, which stands after it now, and the buffer is still the one that was lent
pub record Puts (before : Writer) (text : List ℕ) (after : Writer) : Type 0 where
  pub placed : Placed before.out.now before.at text after.out.now after.at
  pub lent : after.out.ghost_name ≡ before.out.ghost_name
