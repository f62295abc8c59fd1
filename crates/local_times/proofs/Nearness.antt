-- How near a meeting lies to its local time.
use Rattle.std.proofs.Common.{◌≡◌, ℤ, pos, negsuc, ◌-ℤ◌, ◌≤ℤ◌, IfOk, Some, None, Ok, Err, Option, Result, sym, refl, arith}
use lib.Signed.{lt_z}
use Rattle.std.proofs.lemmas.Int.{ints}
use Rattle.timebase.specs.declared.fault.Fault.{Fault}
use Rattle.timebase.proofs.Searches.{first_found}
use Rattle.zone.specs.declared.value.Value.{Value}
use Rattle.zone.specs.declared.value.Value.TheVariants.{Offset, Blank}
use Rattle.zone.specs.Zones.{Zone, ZoneLaws, SoundValue, is_blank, offset}
use Rattle.local_times.specs.Meeting.{is, local_at, first_near, skipped, matched, known, meeting, Near}
use Rattle.local_times.proofs.Results.{ok_same}
use Rattle.local_times.proofs.Walks.{ok_err}

pub offset_bounds : (v : Value) → SoundValue v → (negsuc 86398 ≤ℤ offset v) × (offset v ≤ℤ pos 86399)
offset_bounds (Offset o) s = s
offset_bounds (Blank cause depth) s = (omega (arith, ints), omega (arith, ints))

module _ (zone : Zone) (laws : ZoneLaws zone) (L i : ℤ) where
  skipped_near : (o : Option ℤ) → skipped zone L o ≡ Ok i → Near L i
  skipped_near (Some j) e =
      let s = ok_same e in
      let b = offset_bounds (zone (j -ℤ pos 1)) (laws.sound (j -ℤ pos 1)) in
      record { low = omega (arith, ints); high = omega (arith, ints) }
  skipped_near None e = let s = ok_same e in record { low = omega (arith, ints); high = omega (arith, ints) }

  matched_near : (o : Option ℤ) → first_near L (λ i. is (local_at zone i) L) ≡ o → matched zone L o ≡ Ok i → Near L i
  matched_near (Some j) f e =
      let s = ok_same e in
      let b = first_found (λ i. is (local_at zone i) L) (L -ℤ pos 86399) 172799 j f in
      record { low = omega (arith, ints, b.0); high = omega (arith, ints, b.1) }
  matched_near None f e = skipped_near (first_near L (λ j. lt_z L (local_at zone j))) e

  known_near : (o : Option ℤ) → known zone L o ≡ Ok i → Near L i
  known_near (Some s) e = ok_err (sym e)
  known_near None e = matched_near (first_near L (λ i. is (local_at zone i) L)) refl e

  pub meeting_near : meeting zone L ≡ Ok i → Near L i
  unfolding meeting
  meeting_near e = known_near (first_near L (λ s. is_blank (zone s))) e

pub near_made : (zone : Zone) → ZoneLaws zone → (L : ℤ) (r : Result ℤ Fault) → r ≡ meeting zone L → IfOk r (λ i. Near L i)
near_made zone laws L (Ok i) e = meeting_near zone laws L i (sym e)
near_made zone laws L (Err x) e = tt
