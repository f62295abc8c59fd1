-- What an answer of a calendar source tells.
use Rattle.std.proofs.Common.{◌≡◌, ℕ, Bool, true, false, cond, ◌&&◌, ltb, Some, None, sym}
use Rattle.calendar.specs.Calendars.{Calendar, Calendars, asked}
use Rattle.span_law.proofs.Steps.{none_some, some_same}

-- an answer is the calendar's
pub answered : {X : Type 0} (s : Calendars) (k : ℕ) (there : Calendar → Bool) (answer : Calendar → X) (x : X) → Some x ≡ asked s k there answer → x ≡ answer (s.calendar k)
answered s k there answer x e = by (ltb k s.count && there (s.calendar k)) e
  where
    by : (t : Bool) → Some x ≡ cond t (Some (answer (s.calendar k))) None → x ≡ answer (s.calendar k)
    by true f = some_same f
    by false f = none_some (sym f)
