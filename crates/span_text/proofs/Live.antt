-- Every progress can be read on to the end of a text.
use Rattle.std.proofs.Common.{◌≡◌, ℕ, List, [], ◌∷◌, Ok, refl}
use Rattle.reading.specs.Reading.{read_on}
use Rattle.span_text.specs.declared.scan.Designator.{Designator}
use Rattle.span_text.specs.declared.scan.Designator.TheVariants.{Period, Years, Months, Weeks, Days, Time, Hours, Minutes, Seconds}
use Rattle.span_text.specs.declared.scan.Stage.{Stage}
use Rattle.span_text.specs.declared.scan.Stage.TheVariants.{Start, Signed, After, Number, Point, Fraction}
use Rattle.span_text.specs.declared.scan.Fields.{Fields}
use Rattle.span_text.specs.declared.scan.Progress.{Progress}
use Rattle.span_text.specs.Scanning.{at, stepped, ended}

abbrev GoesOn : Progress → ℕ → Type 0
GoesOn s a = (w : List ℕ) × ((f : Fields) × (read_on stepped ended s a w ≡ Ok f))

after : (d : Designator) (f : Fields) (a : ℕ) → GoesOn (at (After d) f) a
after Period f a = (48 ∷ (68 ∷ []), (_, refl))
after Years f a = ([], (f, refl))
after Months f a = ([], (f, refl))
after Weeks f a = ([], (f, refl))
after Days f a = ([], (f, refl))
after Time f a = (48 ∷ (83 ∷ []), (_, refl))
after Hours f a = ([], (f, refl))
after Minutes f a = ([], (f, refl))
after Seconds f a = ([], (f, refl))

in_number : (d : Designator) (n k : ℕ) (f : Fields) (a : ℕ) → GoesOn (at (Number d n k) f) a
in_number Period n k f a = (68 ∷ [], (_, refl))
in_number Years n k f a = (68 ∷ [], (_, refl))
in_number Months n k f a = (68 ∷ [], (_, refl))
in_number Weeks n k f a = (68 ∷ [], (_, refl))
in_number Days n k f a = (83 ∷ [], (_, refl))
in_number Time n k f a = (83 ∷ [], (_, refl))
in_number Hours n k f a = (83 ∷ [], (_, refl))
in_number Minutes n k f a = (83 ∷ [], (_, refl))
in_number Seconds n k f a = (83 ∷ [], (_, refl))

at_stage : (stage : Stage) (f : Fields) (a : ℕ) → GoesOn (at stage f) a
at_stage Start f a = (80 ∷ (48 ∷ (68 ∷ [])), (_, refl))
at_stage Signed f a = (80 ∷ (48 ∷ (68 ∷ [])), (_, refl))
at_stage (After d) f a = after d f a
at_stage (Number d n k) f a = in_number d n k f a
at_stage (Point n) f a = (48 ∷ (83 ∷ []), (_, refl))
at_stage (Fraction n m k) f a = (83 ∷ [], (_, refl))

pub live : (s : Progress) (a : ℕ) → GoesOn s a
live s a = at_stage s.stage s.fields a
