-- The meeting of a local time, told by what lies in its window.
use Rattle.std.specs.Prelude.{◌≡◌, true, false, ◌⊎◌, ℤ, pos, ◌+ℤ◌, ◌-ℤ◌, ◌≤ℤ◌, ◌<ℤ◌, Ok, Err, Result}
use Rattle.timebase.specs.declared.fault.Fault.{Fault}
use Rattle.zone.specs.Zones.{Zone, is_blank, offset}
use Rattle.local_times.specs.Meeting.{offset_known, local_at}

-- the window of a local time
abbrev pub low : ℤ → ℤ
low l = l -ℤ pos 86399

abbrev pub high : ℤ → ℤ
high l = l +ℤ pos 86399

abbrev pub Window : ℤ → ℤ → Type 0
Window l t = (low l ≤ℤ t) × (t ≤ℤ high l)

-- i is the least second with the local time l
pub record Exact (f : Zone) (l i : ℤ) : Type 0 where
  pub within : Window l i
  pub hits : local_at f i ≡ l
  pub least : (t : ℤ) → low l ≤ℤ t → t <ℤ i → local_at f t ≡ l → ⊥

-- j is the first second of the window that is past the local time l
pub record Past (f : Zone) (l j : ℤ) : Type 0 where
  pub within : Window l j
  pub past : l <ℤ local_at f j
  pub first : (t : ℤ) → low l ≤ℤ t → t <ℤ j → local_at f t ≤ℤ l

-- no second has the local time l, and i keeps the offset from before the gap
pub record Skipped (f : Zone) (l i : ℤ) : Type 0 where
  pub none : (t : ℤ) → Window l t → local_at f t ≡ l → ⊥
  pub j : ℤ
  pub from : Past f l j
  -- so the second before j lies in the window too
  pub inside : low l <ℤ j
  pub is : i ≡ l -ℤ offset (f (j -ℤ pos 1))

-- t is the earliest blank of the window
pub record Earliest (f : Zone) (l t : ℤ) : Type 0 where
  pub within : Window l t
  pub blank : is_blank (f t) ≡ true
  pub clear : (u : ℤ) → low l ≤ℤ u → u <ℤ t → is_blank (f u) ≡ false

abbrev pub Meets : Zone → ℤ → Result ℤ Fault → Type 0
Meets f l (Ok i) = ((t : ℤ) → Window l t → is_blank (f t) ≡ false) × (Exact f l i ⊎ Skipped f l i)
Meets f l (Err e) = (t : ℤ) × Earliest f l t × (Err e ≡ offset_known (f t))
