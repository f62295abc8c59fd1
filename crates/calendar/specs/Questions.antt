-- When two tables answer a question alike: by the same answer. A name is found alike where whatever is the answer over the first is the
-- answer over the second.
use Rattle.std.specs.Prelude.{◌≡◌, ℕ, cond, List, Some, None, Option, nat_lt}
use Rattle.calendar.specs.declared.question.Question.{Question}
use Rattle.calendar.specs.declared.question.Question.TheVariants.{Count, Name, Find, FirstYear, LastYear, Months, Length, Date, Day, Twin}
use Rattle.calendar.specs.Calendars.{Calendars, FoundIs, first_of, last_of, months_of, length_of, date_of, day_of, twin_of}

-- the bytes of a number's name
abbrev pub name_at : Calendars → ℕ → Option (List ℕ)
name_at s k = cond (nat_lt k s.count) (Some (s.name k)) None

module _ (y z : Calendars) where
  abbrev pub Alike : Question → Type 0
  Alike Count = y.count ≡ z.count
  Alike (Name k) = name_at y k ≡ name_at z k
  Alike (Find n) = (r : Option ℕ) → FoundIs y n.now r → FoundIs z n.now r
  Alike (FirstYear k) = first_of y k ≡ first_of z k
  Alike (LastYear k) = last_of y k ≡ last_of z k
  Alike (Months k year) = months_of y k year ≡ months_of z k year
  Alike (Length k year month) = length_of y k year month ≡ length_of z k year month
  Alike (Date k day) = date_of y k day ≡ date_of z k day
  Alike (Day k date) = day_of y k date ≡ day_of z k date
  Alike (Twin k year month other) = twin_of y k year month other ≡ twin_of z k year month other
