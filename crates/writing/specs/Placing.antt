-- A text in a buffer.
use Rattle.std.specs.Prelude.{◌≡◌, ℕ, ◌+◌, ◌-◌, List, ◌++◌, length, take, drop}

-- as much of a text as the buffer holds from a place on
unfoldable pub fitting : List ℕ → ℕ → List ℕ → List ℕ
fitting before at text = take (length before - at) text

-- a text was put at a place of the buffer, as much of it as fits: the buffer is else as before, and r is the place after it
pub record Placed (before : List ℕ) (at : ℕ) (text after : List ℕ) (r : ℕ) : Type 0 where
  pub end : r ≡ at + length (fitting before at text)
  pub is : after ≡ take at before ++ (fitting before at text ++ drop r before)
