-- What the walk through the window knows so far.
use Rattle.std.proofs.Common.{◌≡◌, false, ℤ, pos, ◌+ℤ◌, ◌-ℤ◌, ◌≤ℤ◌, ◌<ℤ◌}
use Rattle.zone.specs.Zones.{Zone, is_blank, offset}
use Rattle.local_times.specs.Meeting.{local_at}
use Rattle.local_times.specs.Walk.{OffsetFits}
use Rattle.local_times.specs.Meets.{low}
use Rattle.local_times.specs.declared.landing.Landing.{Landing}
use Rattle.local_times.specs.declared.landing.Landing.TheVariants.{Before, Gap, Hit}

-- some second j up to a is the first that is past l, and g keeps the offset before it
pub record Over (f : Zone) (l a g : ℤ) : Type 0 where
  pub j : ℤ
  pub after : low l <ℤ j
  pub before : j <ℤ a
  pub past : l <ℤ local_at f j
  pub first : (t : ℤ) → low l ≤ℤ t → t <ℤ j → local_at f t ≤ℤ l
  pub is : g ≡ l -ℤ offset (f (j -ℤ pos 1))

pub record Reached (f : Zone) (l a i : ℤ) : Type 0 where
  pub after : low l ≤ℤ i
  pub before : i <ℤ a
  pub hits : local_at f i ≡ l
  pub least : (t : ℤ) → low l ≤ℤ t → t <ℤ i → local_at f t ≡ l → ⊥

-- what the landing says of the seconds of the window before a
abbrev pub Sofar : Zone → ℤ → ℤ → Landing → Type 0
Sofar f l a Before = (t : ℤ) → low l ≤ℤ t → t <ℤ a → local_at f t <ℤ l
Sofar f l a (Gap g) = ((t : ℤ) → low l ≤ℤ t → t <ℤ a → local_at f t ≡ l → ⊥) × Over f l a g
Sofar f l a (Hit i) = Reached f l a i

-- the walk stands at a, with the offset p of the second before
pub record Walked (f : Zone) (l a p : ℤ) (x : Landing) : Type 0 where
  pub start : low l ≤ℤ a
  pub end : a ≤ℤ (l +ℤ pos 86400)
  pub clear : (t : ℤ) → low l ≤ℤ t → t <ℤ a → is_blank (f t) ≡ false
  pub fits : OffsetFits p
  pub last : low l <ℤ a → p ≡ offset (f (a -ℤ pos 1))
  pub landing : Sofar f l a x
