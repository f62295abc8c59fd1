-- The local time of an instant whose offset is known.
use Rattle.std.proofs.Common.{◌≡◌, ℕ, ◌≤◌, Bool, true, false, cond, ℤ, pos, negsuc, ◌+ℤ◌, ◌*ℤ◌, ◌≤ℤ◌, Ok, Err, sym, refl, ap, ◌∙◌, subst, arith}
use lib.Signed.{le_z}
use Rattle.std.proofs.lemmas.Int.{ints}
use Rattle.std.proofs.lemmas.Bool.{and_parts}
use Rattle.timebase.specs.declared.fault.Fault.{Fault}
use Rattle.timebase.specs.declared.fault.Fault.TheVariants.{InstantOut}
use Rattle.timebase.specs.Instants.{first_instant, last_instant, is_instant}
use Rattle.timebase.specs.Splits.{floor_quotient, floor_rest}
use Rattle.zone.specs.declared.value.Value.{Value}
use Rattle.zone.specs.declared.value.Value.TheVariants.{Offset, Blank}
use Rattle.zone.specs.Zones.{Zone, ZoneLaws, is_blank, offset}
use Rattle.local_times.specs.Meeting.{offset_known}
use Rattle.local_times.specs.Locals.{second_of, micros_of, local_second, local_day, clock_second, Known, Shows, offset_at, known_at, arriving}
use Rattle.local_times.specs.declared.local_time.LocalTime.{LocalTime}
use Rattle.local_times.proofs.Results.{err_ok, ok_same}
use Rattle.local_times.proofs.Nearness.{offset_bounds}

pub floor_day : (z : ℤ) → ((floor_quotient z 86400 *ℤ pos 86400) +ℤ pos (floor_rest z 86400) ≡ z) × (floor_rest z 86400 ≤ 86399)
floor_day (pos n) = (omega (arith, ints), omega arith)
floor_day (negsuc n) = (omega (arith, ints), omega arith)

pub floor_second : (z : ℤ) → ((floor_quotient z 1000000 *ℤ pos 1000000) +ℤ pos (floor_rest z 1000000) ≡ z) × (floor_rest z 1000000 ≤ 999999)
floor_second (pos n) = (omega (arith, ints), omega arith)
floor_second (negsuc n) = (omega (arith, ints), omega arith)

-- the local day of an instant in range is a day
pub start_inside : (zone : Zone) (a : ℤ) → ZoneLaws zone → Known zone a → (pos 1 ≤ℤ local_day zone a) × (local_day zone a ≤ℤ pos 3652059)
start_inside zone a laws k =
    inside (second_of a) (micros_of a) (offset (zone (second_of a))) (floor_quotient (local_second zone a) 86400) (clock_second zone a)
    (floor_second a) (offset_bounds (zone (second_of a)) (laws.sound (second_of a))) (floor_day (local_second zone a))
  where
    inside : (s : ℤ) (u : ℕ) (o q : ℤ) (k : ℕ) → ((s *ℤ pos 1000000) +ℤ pos u ≡ a) × (u ≤ 999999) → (negsuc 86398 ≤ℤ o) × (o ≤ℤ pos 86399) → ((q *ℤ pos 86400) +ℤ pos k ≡ s +ℤ o) × (k ≤ 86399) →
        (pos 1 ≤ℤ (q +ℤ pos 719163)) × ((q +ℤ pos 719163) ≤ℤ pos 3652059)
    inside s u o q w h1 h2 h3 =
        let l = k.low in
        let h = k.high in
        (omega (arith, ints), omega (arith, ints))

low_tells : (x y : ℤ) → le_z x y ≡ true → x ≤ℤ y
low_tells x y h = grind (arith, ints)

pub instant_bounds : (i : ℤ) → is_instant i ≡ true → (first_instant ≤ℤ i) × (i ≤ℤ last_instant)
instant_bounds i e = let p = and_parts (le_z first_instant i) (le_z i last_instant) e in (low_tells first_instant i p.0, low_tells i last_instant p.1)

-- what an offset that was found says of its instant
pub record Found (zone : Zone) (i o : ℤ) : Type 0 where
  pub known : Known zone i
  pub is : o ≡ offset (zone (second_of i))

found_by : (zone : Zone) (i o : ℤ) (t : Bool) (v : Value) → is_instant i ≡ t → zone (second_of i) ≡ v → Ok o ≡ cond t (offset_known v) (Err InstantOut) → Found zone i o
found_by zone i o true (Offset p) e f g =
    let b = instant_bounds i e in
    record { known = record { low = b.0; high = b.1; sure = ap is_blank f }; is = ok_same g ∙ sym (ap offset f) }
found_by zone i o true (Blank a b) e f g = err_ok (sym g)
found_by zone i o false v e f g = err_ok (sym g)

pub found : (zone : Zone) (i o : ℤ) → Ok o ≡ offset_at zone i → Found zone i o
found zone i o e = found_by zone i o (is_instant i) (zone (second_of i)) refl refl e

lost_by : (i : ℤ) (x : Fault) (t : Bool) (v : Value) → Err x ≡ cond t (offset_known v) (Err InstantOut) → cond t (known_at i v) (Err InstantOut) ≡ Err x
lost_by i x true (Offset p) e = err_ok e
lost_by i x true (Blank a b) e = cc
lost_by i x false v e = cc

-- where none is found, nothing arrives
pub lost : (zone : Zone) (i : ℤ) (x : Fault) → Err x ≡ offset_at zone i → arriving zone i ≡ Err x
lost zone i x e = lost_by i x (is_instant i) (zone (second_of i)) e

pub shows : (zone : Zone) (i o : ℤ) → Ok o ≡ offset_at zone i → (l : LocalTime) → pos l.day ≡ local_day zone i → l.clock ≡ clock_second zone i → l.micros ≡ micros_of i → Shows zone i l
shows zone i o e l d k m = record { known = (found zone i o e).known; day_is = d; clock_is = k; micros_is = m }

-- the day number fits
pub day_inside : (zone : Zone) → ZoneLaws zone → (i o : ℤ) → Ok o ≡ offset_at zone i → (q : ℤ) → q ≡ floor_quotient (local_second zone i) 86400 → (pos 1 ≤ℤ (q +ℤ pos 719163)) × ((q +ℤ pos 719163) ≤ℤ pos 3652059)
day_inside zone laws i o e q d = subst (λ (z : ℤ). (pos 1 ≤ℤ (z +ℤ pos 719163)) × ((z +ℤ pos 719163) ≤ℤ pos 3652059)) (sym d) (start_inside zone i laws (found zone i o e).known)

pub second_small : (zone : Zone) (i : ℤ) → Known zone i → (second_of i ≤ℤ pos 1000000000000) × (pos 0 ≤ℤ (second_of i +ℤ pos 1000000000000))
second_small zone i k = by (second_of i) (micros_of i) (floor_second i).0 (floor_second i).1
  where
    by : (s : ℤ) (u : ℕ) → (s *ℤ pos 1000000) +ℤ pos u ≡ i → u ≤ 999999 → (s ≤ℤ pos 1000000000000) × (pos 0 ≤ℤ (s +ℤ pos 1000000000000))
    by s u e h = let l = k.low in let m = k.high in (omega (arith, ints), omega (arith, ints))

-- the second of an instant that was put together from one, and its microseconds
pub put_together : (s : ℤ) (m : ℕ) (i : ℤ) → m ≤ 999999 → i ≡ (s *ℤ pos 1000000) +ℤ pos m → (second_of i ≡ s) × (micros_of i ≡ m)
put_together s m i h e = by (second_of i) (micros_of i) (floor_second i)
  where
    by : (q : ℤ) (r : ℕ) → ((q *ℤ pos 1000000) +ℤ pos r ≡ i) × (r ≤ 999999) → (q ≡ s) × (r ≡ m)
    by q r f = (omega (arith, ints), omega (arith, ints))

-- what arrives is known
tells_by : (zone : Zone) (i j : ℤ) (t : Bool) (v : Value) → is_instant i ≡ t → zone (second_of i) ≡ v → Ok j ≡ cond t (known_at i v) (Err InstantOut) → Known zone i × (j ≡ i)
tells_by zone i j true (Offset o) e f g = let b = instant_bounds i e in (record { low = b.0; high = b.1; sure = ap is_blank f }, ok_same g)
tells_by zone i j true (Blank a b) e f g = err_ok (sym g)
tells_by zone i j false v e f g = err_ok (sym g)

pub arriving_tells : (zone : Zone) (i j : ℤ) → Ok j ≡ arriving zone i → Known zone i × (j ≡ i)
arriving_tells zone i j e = tells_by zone i j (is_instant i) (zone (second_of i)) refl refl e
