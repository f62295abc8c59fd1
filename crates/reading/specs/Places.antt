-- Where a text stops reading, by the texts that there are.
use Rattle.std.specs.Prelude.{◌≡◌, ℕ, ◌+◌, ◌<◌, ◌≤◌, min, List, ◌++◌, length, take, Ok, Err, Result}
use Rattle.reading.specs.declared.Misread.{Misread}

-- `Text t v`: t is a text, and it says v
module _ {V : Type 0} (Text : List ℕ → V → Type 0) where
  -- some text begins so
  abbrev pub Begins : List ℕ → Type 0
  Begins p = (w : List ℕ) × ((v : V) × Text (p ++ w) v)

  -- some text begins with the first n bytes of t, and none with one byte more: n is the length of the longest viable prefix
  pub record Longest (t : List ℕ) (n : ℕ) : Type 0 where
    pub within : n ≤ length t
    pub so_far : Begins (take n t)
    pub no_further : n < length t → Begins (take (n + 1) t) → ⊥

  -- t is no text, and the place is the length of its longest viable prefix
  pub record Refused (t : List ℕ) (place : ℕ) : Type 0 where
    pub no_text : (v : V) → Text t v → ⊥
    pub longest : Longest t place

  -- the one answer to each text
  abbrev pub Answers : List ℕ → Result V Misread → Type 0
  Answers t (Ok v) = Text t v
  Answers t (Err m) = Refused t m.at

  -- t is no text of at most `limit` bytes, and the place is the length of its longest viable prefix, or the limit where that is less
  pub record RefusedWithin (limit : ℕ) (t : List ℕ) (place : ℕ) : Type 0 where
    pub no_text : (v : V) → Text t v → length t ≤ limit → ⊥
    pub most : ℕ
    pub longest : Longest t most
    pub at : place ≡ min most limit

  abbrev pub AnswersWithin : ℕ → List ℕ → Result V Misread → Type 0
  AnswersWithin limit t (Ok v) = Text t v × (length t ≤ limit)
  AnswersWithin limit t (Err m) = RefusedWithin limit t m.at
