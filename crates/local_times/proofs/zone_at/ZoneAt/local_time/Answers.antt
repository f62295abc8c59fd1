use Rattle.std.proofs.Common.{◌≡◌, ◌≤◌, T, ℤ, pos, negsuc, ◌+ℤ◌, nat_abs, ◌≤ℤ◌, Ok, ap, ◌∙◌, subst, arith, w32, w64, Fits, SFits, to_z, of_z, rules}
use lib.Signed.{non_neg}
use Rattle.std.proofs.lemmas.Int.{ints}
use Rattle.timebase.specs.Splits.{floor_quotient, floor_rest}
use Rattle.zone.specs.Zones.{Zone, ZoneLaws, offset}
use Rattle.local_times.specs.Locals.{second_of, micros_of, local_second, offset_at}
use Rattle.local_times.proofs.Nearness.{offset_bounds}
use Rattle.local_times.proofs.Locals.{found, shows, day_inside, second_small}
use Rattle.local_times.proofs.zone_at.ZoneAt.local_time.Goals as goal

-- the facts at the plain numbers
record Plain (zone : Zone) (i s o : ℤ) : Type 0 where
  pub at : Ok o ≡ offset_at zone i
  pub sum : to_z w64 (of_z w64 (to_z w64 (of_z w64 s) +ℤ to_z w64 (of_z w64 o))) ≡ local_second zone i

plain : (zone : Zone) → ZoneLaws zone → (i s o : ℤ) → to_z w64 (of_z w64 i) ≡ i → s ≡ second_of (to_z w64 (of_z w64 i)) → Ok o ≡ offset_at zone (to_z w64 (of_z w64 i)) → Plain zone i s o
plain zone laws i s o e f g =
    let m : Ok o ≡ offset_at zone i = subst (λ (z : ℤ). Ok o ≡ offset_at zone z) e g in
    let h : s ≡ second_of i = f ∙ ap second_of e in
    let k = found zone i o m in
    record { at = m; sum = by (second_of i) (offset (zone (second_of i))) h k.is (second_small zone i k.known) (offset_bounds (zone (second_of i)) (laws.sound (second_of i))) }
  where
    by : (x y : ℤ) → s ≡ x → o ≡ y → (x ≤ℤ pos 1000000000000) × (pos 0 ≤ℤ (x +ℤ pos 1000000000000)) → (negsuc 86398 ≤ℤ y) × (y ≤ℤ pos 86399) → to_z w64 (of_z w64 (to_z w64 (of_z w64 s) +ℤ to_z w64 (of_z w64 o))) ≡ x +ℤ y
    by x y a b h k = omega (arith, ints)

pub overflow_add-result : goal.overflow_add-result
overflow_add-result g c =
    let f = (g.Z.ZoneSource.zones c.args.self.now.source.now).value c.args.self.now.number in
    let laws = (g.met.Z.ZoneSource.lawful c.args.self.now.source.now).each c.args.self.now.number c.args.self.now.there in
    let i = c.args.instant in
    let p = plain f laws i c.floor_split-second.result.0 c.in_ok-offset.offset (omega (arith, ints)) c.floor_split-second.ensures.quotient c.in_ok-offset.ensures in
    let b = day_inside f laws i c.in_ok-offset.offset p.at c.floor_split-days.result.0 (c.floor_split-days.ensures.quotient ∙ ap (λ (z : ℤ). floor_quotient z 86400) p.sum) in
    fits c.floor_split-days.result.0 b.0 b.1
  where
    fits : (q : ℤ) → pos 1 ≤ℤ (q +ℤ pos 719163) → (q +ℤ pos 719163) ≤ℤ pos 3652059 → SFits w64 (to_z w64 (of_z w64 q) +ℤ pos 719163)
    fits q l h = omega (arith, ints)

pub overflow_cast-result : goal.overflow_cast-result
overflow_cast-result g c =
    let f = (g.Z.ZoneSource.zones c.args.self.now.source.now).value c.args.self.now.number in
    let laws = (g.met.Z.ZoneSource.lawful c.args.self.now.source.now).each c.args.self.now.number c.args.self.now.there in
    let i = c.args.instant in
    let p = plain f laws i c.floor_split-second.result.0 c.in_ok-offset.offset (omega (arith, ints)) c.floor_split-second.ensures.quotient c.in_ok-offset.ensures in
    let b = day_inside f laws i c.in_ok-offset.offset p.at c.floor_split-days.result.0 (c.floor_split-days.ensures.quotient ∙ ap (λ (z : ℤ). floor_quotient z 86400) p.sum) in
    cast c.floor_split-days.result.0 b.0 b.1
  where
    cast : (q : ℤ) → pos 1 ≤ℤ (q +ℤ pos 719163) → (q +ℤ pos 719163) ≤ℤ pos 3652059 →
        T (non_neg (to_z w64 (of_z w64 (to_z w64 (of_z w64 q) +ℤ pos 719163)))) × Fits w32 (nat_abs (to_z w64 (of_z w64 (to_z w64 (of_z w64 q) +ℤ pos 719163))))
    cast q l h = let e : to_z w64 (of_z w64 (to_z w64 (of_z w64 q) +ℤ pos 719163)) ≡ q +ℤ pos 719163 = omega (arith, ints) in search rules

pub returns : goal.returns
returns g c =
    let f = (g.Z.ZoneSource.zones c.args.self.now.source.now).value c.args.self.now.number in
    let laws = (g.met.Z.ZoneSource.lawful c.args.self.now.source.now).each c.args.self.now.number c.args.self.now.there in
    let i = c.args.instant in
    let ei : to_z w64 (of_z w64 c.args.instant) ≡ c.args.instant = omega (arith, ints) in
    let p = plain f laws i c.floor_split-second.result.0 c.in_ok-offset.offset ei c.floor_split-second.ensures.quotient c.in_ok-offset.ensures in
    let d = c.floor_split-days.ensures.quotient ∙ ap (λ (z : ℤ). floor_quotient z 86400) p.sum in
    let b = day_inside f laws i c.in_ok-offset.offset p.at c.floor_split-days.result.0 d in
    shows f i c.in_ok-offset.offset p.at _
    (day c.floor_split-days.result.0 b.0 b.1 ∙ ap (λ (z : ℤ). z +ℤ pos 719163) d)
    (c.floor_split-days.ensures.rest ∙ ap (λ (z : ℤ). floor_rest z 86400) p.sum)
    (c.floor_split-second.ensures.rest ∙ ap micros_of ei)
  where
    day : (q : ℤ) → pos 1 ≤ℤ (q +ℤ pos 719163) → (q +ℤ pos 719163) ≤ℤ pos 3652059 → pos (nat_abs (to_z w64 (of_z w64 (to_z w64 (of_z w64 q) +ℤ pos 719163)))) ≡ q +ℤ pos 719163
    day q l h = omega (arith, ints)

day_low : (q : ℤ) → pos 1 ≤ℤ (q +ℤ pos 719163) → (q +ℤ pos 719163) ≤ℤ pos 3652059 → 1 ≤ nat_abs (to_z w64 (of_z w64 (to_z w64 (of_z w64 q) +ℤ pos 719163)))
day_low q l h = let e : to_z w64 (of_z w64 (to_z w64 (of_z w64 q) +ℤ pos 719163)) ≡ q +ℤ pos 719163 = omega (arith, ints) in omega (arith, ints)

day_high : (q : ℤ) → pos 1 ≤ℤ (q +ℤ pos 719163) → (q +ℤ pos 719163) ≤ℤ pos 3652059 → nat_abs (to_z w64 (of_z w64 (to_z w64 (of_z w64 q) +ℤ pos 719163))) ≤ 3652059
day_high q l h = let e : to_z w64 (of_z w64 (to_z w64 (of_z w64 q) +ℤ pos 719163)) ≡ q +ℤ pos 719163 = omega (arith, ints) in omega (arith, ints)

pub invariant_of-result : goal.invariant_of-result
invariant_of-result g c =
    let f = (g.Z.ZoneSource.zones c.args.self.now.source.now).value c.args.self.now.number in
    let laws = (g.met.Z.ZoneSource.lawful c.args.self.now.source.now).each c.args.self.now.number c.args.self.now.there in
    let i = c.args.instant in
    let p = plain f laws i c.floor_split-second.result.0 c.in_ok-offset.offset (omega (arith, ints)) c.floor_split-second.ensures.quotient c.in_ok-offset.ensures in
    let b = day_inside f laws i c.in_ok-offset.offset p.at c.floor_split-days.result.0 (c.floor_split-days.ensures.quotient ∙ ap (λ (z : ℤ). floor_quotient z 86400) p.sum) in
    record {
      first = day_low c.floor_split-days.result.0 b.0 b.1;
      last = day_high c.floor_split-days.result.0 b.0 b.1;
      clock_high = omega (arith, c.floor_split-days.ensures.law.high);
      micros_high = omega (arith, c.floor_split-second.ensures.law.high);
    }
