-- The texts of spans, as they are written. The bytes: 45 `-`, 46 `.`, 48 to 57 digits, and the letters 68 `D`, 72 `H`, 77 `M`, 80 `P`,
-- 83 `S`, 84 `T`, 87 `W`, 89 `Y`.
use Rattle.std.specs.Prelude.{◌≡◌, ℕ, ◌-◌, ◌*◌, ◌^◌, ◌<◌, ◌≤◌, true, false, List, [], ◌∷◌, ◌++◌, length}
use Rattle.reading.specs.Digits.{value_on, Digits}
use Rattle.span_text.specs.declared.scan.Designator.{Designator}
use Rattle.span_text.specs.declared.scan.Designator.TheVariants.{Period, Years, Months, Weeks, Days, Time, Hours, Minutes, Seconds}
use Rattle.span_text.specs.declared.scan.Fields.{Fields}
use Rattle.span_text.specs.Scanning.{rank_of, unsaid, put, put_seconds}

-- the microseconds of a fraction's digits
abbrev pub micros_of : List ℕ → ℕ
micros_of ds = value_on 0 ds * 10 ^ (6 - length ds)

-- the letter by which a designator closes a number after another: each at most once, in their order, `Y`, `M`, `W`, `D` before `T`,
-- and `H`, `M`, `S` after it
pub data Closes : Designator → Designator → ℕ → Type 0 where
  years : {d : Designator} → rank_of d < 1 → Closes d Years 89
  months : {d : Designator} → rank_of d < 2 → Closes d Months 77
  weeks : {d : Designator} → rank_of d < 3 → Closes d Weeks 87
  days : {d : Designator} → rank_of d < 4 → Closes d Days 68
  hours : {d : Designator} → 5 ≤ rank_of d → rank_of d < 6 → Closes d Hours 72
  minutes : {d : Designator} → 5 ≤ rank_of d → rank_of d < 7 → Closes d Minutes 77
  seconds : {d : Designator} → 5 ≤ rank_of d → rank_of d < 8 → Closes d Seconds 83

-- a text up to a designator, with what it says
pub data Spelt : Designator → List ℕ → Fields → Type 0 where
  plus : Spelt Period (80 ∷ []) (unsaid false)
  minus : Spelt Period (45 ∷ (80 ∷ [])) (unsaid true)
  part : {d e : Designator} {l : ℕ} {p : List ℕ} {f : Fields} → Spelt d p f → Closes d e l → (ds : List ℕ) → Digits 9 ds
      → Spelt e (p ++ (ds ++ (l ∷ []))) (put f e (value_on 0 ds))
  time : {d : Designator} {p : List ℕ} {f : Fields} → Spelt d p f → rank_of d < 5 → Spelt Time (p ++ (84 ∷ [])) f
  fraction : {d : Designator} {p : List ℕ} {f : Fields} → Spelt d p f → 5 ≤ rank_of d → rank_of d < 8 → (ds fs : List ℕ) → Digits 9 ds → Digits 6 fs
      → Spelt Seconds (p ++ (ds ++ (46 ∷ (fs ++ (83 ∷ []))))) (put_seconds f (value_on 0 ds) (micros_of fs))

-- a whole text: at least one number, and at least one after `T`
pub record SpanText (t : List ℕ) (f : Fields) : Type 0 where
  pub last : Designator
  pub spelt : Spelt last t f
  pub any : last ≡ Period → ⊥
  pub timed : last ≡ Time → ⊥
