-- What a table of zones means, what every table keeps, and what a source answers.
use Rattle.std.specs.Prelude.{◌≡◌, ℕ, ◌<◌, ◌≤◌, Bool, true, false, List, ℤ, pos, negsuc, ◌-ℤ◌, ◌≤ℤ◌, ◌<ℤ◌, is_ok, Ok, Err, Option, Result, ◌≢◌}
use Rattle.std.specs.Borrow.{Bor}
use Rattle.std.specs.Option as options
use Rattle.timebase.specs.declared.fault.Fault.{Fault}
use Rattle.timebase.specs.declared.fault.Fault.TheVariants.{Blank as NoOffset}
use Rattle.names.specs.ZoneScanning.{read_zone_name}
use Rattle.zone.specs.declared.value.Value.{Value}
use Rattle.zone.specs.declared.value.Value.TheVariants.{Offset, Blank}

-- one zone: a value at every second
abbrev pub Zone : Type 0
Zone = ℤ → Value

-- the seconds whose values a zone tells; beyond them its ends hold
abbrev pub least_second : ℤ
least_second = negsuc 62135683199

abbrev pub greatest_second : ℤ
greatest_second = pos 253402387199

-- an offset is at most 86,399 seconds either way; a blank's cause and depth are bytes
abbrev pub SoundValue : Value → Type 0
SoundValue (Offset o) = (negsuc 86398 ≤ℤ o) × (o ≤ℤ pos 86399)
SoundValue (Blank cause depth) = (cause ≤ 255) × (depth ≤ 255)

-- what every zone keeps
pub record ZoneLaws (zone : Zone) : Type 0 where
  pub sound : (s : ℤ) → SoundValue (zone s)
  pub before : (s : ℤ) → s ≤ℤ least_second → zone s ≡ zone least_second
  pub after : (s : ℤ) → greatest_second ≤ℤ s → zone s ≡ zone greatest_second

abbrev pub is_blank : Value → Bool
is_blank (Offset o) = false
is_blank (Blank cause depth) = true

-- the offset, where there is one
abbrev pub offset : Value → ℤ
offset (Offset o) = o
offset (Blank cause depth) = pos 0

-- the offset, or the refusal that tells the blank's cause and depth
abbrev pub offset_known : Value → Result ℤ Fault
offset_known (Offset o) = Ok o
offset_known (Blank cause depth) = Err (NoOffset cause depth)

-- a table of zones: how many, and of each its name and its value at every second
pub record Zones : Type 0 where
  pub count : ℕ
  pub name : ℕ → List ℕ
  pub value : ℕ → Zone

pub record ZonesLaws (z : Zones) : Type 0 where
  pub few : z.count ≤ 64
  pub named : (i : ℕ) → i < z.count → is_ok (read_zone_name (z.name i)) ≡ true
  pub each : (i : ℕ) → i < z.count → ZoneLaws (z.value i)

-- ── changes ──

-- no second between a and b has another value than the second before it
abbrev pub Steady : {X : Type 0} → (ℤ → X) → ℤ → ℤ → Type 0
Steady f a b = (t : ℤ) → a <ℤ t → t <ℤ b → f t ≡ f (t -ℤ pos 1)

-- s is the first second between a and b whose value differs from that of the second before
pub record FirstAt {X : Type 0} (f : ℤ → X) (a b s : ℤ) : Type 0 where
  pub after : a <ℤ s
  pub before : s <ℤ b
  pub steady : Steady f a s
  pub differs : f s ≡ f (s -ℤ pos 1) → ⊥

-- the first change between a and b, or none
abbrev pub FirstChange : {X : Type 0} → (ℤ → X) → ℤ → ℤ → Option ℤ → Type 0
FirstChange f a b r = options.MatchOption r (Steady f a b) (λ s. FirstAt f a b s)

-- ── the answers of a source ──

-- a number's name
abbrev pub NameIs : Zones → ℕ → Option (Bor (List ℕ)) → Type 0
NameIs z i r = options.MatchOption r (z.count ≤ i) (λ x. (i < z.count) × (x.now ≡ z.name i))

-- a number is there, and bears a name
abbrev pub Bears : Zones → ℕ → List ℕ → Type 0
Bears z i n = (i < z.count) × (z.name i ≡ n)

-- the lowest number that bears a name
abbrev pub FoundIs : Zones → List ℕ → Option ℕ → Type 0
FoundIs z n r =
    options.MatchOption r
    ((k : ℕ) → k < z.count → z.name k ≢ n)
    (λ i. (i < z.count) × (z.name i ≡ n) × ((k : ℕ) → k < i → z.name k ≢ n))

-- the value at a second
abbrev pub ValueIs : Zones → ℕ → ℤ → Option Value → Type 0
ValueIs z i s r = options.MatchOption r (z.count ≤ i) (λ v. (i < z.count) × (v ≡ z.value i s))

-- the first change after a and before b
abbrev pub ChangeIs : Zones → ℕ → ℤ → ℤ → Option ℤ → Type 0
ChangeIs z i a b r =
    options.MatchOption r
    (i < z.count → Steady (z.value i) a b)
    (λ s. (i < z.count) × FirstAt (z.value i) a b s)
