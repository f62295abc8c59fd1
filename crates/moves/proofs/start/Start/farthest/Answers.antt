use Rattle.std.proofs.Common.{◌≡◌, ℕ, ◌+◌, ◌-◌, ◌*◌, ◌<◌, ◌≤◌, ℤ, pos, negsuc, ◌+ℤ◌, ◌*ℤ◌, ◌≤ℤ◌, ◌<ℤ◌, sym, refl, ap, ◌∙◌, subst, arith, w64, to_z, of_z}
use Rattle.std.proofs.lemmas.Int.{ints}
use Rattle.zone.specs.Zones.{Zone, ZoneLaws}
use Rattle.local_times.specs.Locals.{Known, Shows, count_of}
use Rattle.local_times.specs.declared.local_time.LocalTime.{LocalTime}
use Rattle.span_law.specs.declared.way.Way.{Way}
use Rattle.span_law.specs.Measuring.{way_between, toward}
use Rattle.moves.proofs.Farthest.{walk_ends, walk_on, NoneFarther, starts_there, AheadBy, ahead_by, up_to_way, up_to_at, ends_at}
use Rattle.moves.proofs.Endings.{end_of}
use Rattle.moves.proofs.start.Start.farthest.Goals as goal

-- bounds of what is read back
read : (t u : ℤ) → t ≡ u → negsuc 86398999999 ≤ℤ u → u ≤ℤ pos 315537811198999999 → to_z w64 (of_z w64 t) ≡ u
read t u e l h = omega (arith, ints)

-- how far b lies ahead of the start's local time L, as the code has it
record Ahead (zone : Zone) (a : ℤ) (way : Way) (b L t : ℤ) : Type 0 where
  pub by : AheadBy zone a way b L
  pub is : to_z w64 (of_z w64 t) ≡ toward way L b

ahead : (zone : Zone) → ZoneLaws zone → (a : ℤ) (way : Way) (b : ℤ) (l : LocalTime) → Shows zone a l → Known zone b → way ≡ way_between a b → to_z w64 (of_z w64 b) ≡ b →
    (L t : ℤ) → to_z w64 (of_z w64 L) ≡ L → L ≡ (count_of (pos l.day) l.clock *ℤ pos 1000000) +ℤ pos l.micros → t ≡ toward way (to_z w64 (of_z w64 L)) (to_z w64 (of_z w64 b)) → Ahead zone a way b L t
ahead zone laws a way b l s k w eb L t el e f =
    let h = ahead_by zone laws a way b l s k (up_to_way way a b w) L e in
    let g = f ∙ ap (λ (x : ℤ). toward way x (to_z w64 (of_z w64 b))) el ∙ ap (toward way L) eb in
    record { by = h; is = read t (toward way L b) g h.low h.high }

pub most_days-days-requires : goal.most_days-days-requires
most_days-days-requires g c =
    let s = c.args.self.now in
    let zone = (g.Z.ZoneSource.zones s.zone.now.source.now).value s.zone.now.number in
    let laws = (g.met.Z.ZoneSource.lawful s.zone.now.source.now).each s.zone.now.number s.zone.now.there in
    let el : to_z w64 (of_z w64 c.count.result) ≡ c.count.result = omega (arith, ints) in
    let eb : to_z w64 (of_z w64 c.args.b) ≡ c.args.b = omega (arith, ints) in
    let h = ahead zone laws s.instant c.args.way c.args.b s.local s.shows c.requires.known c.requires.way eb c.count.result c.distance.result el c.count.ensures c.distance.ensures in
    record { low = subst (λ (x : ℤ). negsuc 86398999999 ≤ℤ x) (sym h.is) h.by.low; high = subst (λ (x : ℤ). x ≤ℤ pos 315537811198999999) (sym h.is) h.by.high }

pub days-init : goal.days-init
days-init g c =
    let s = c.args.self.now in
    let zone = (g.Z.ZoneSource.zones s.zone.now.source.now).value s.zone.now.number in
    let laws = (g.met.Z.ZoneSource.lawful s.zone.now.source.now).each s.zone.now.number s.zone.now.there in
    let n = c.most_days-days.result in
    let few : c.most_days-days.result ≤ 3652059 = omega (arith, c.most_days-days.ensures.few) in
    let el : to_z w64 (of_z w64 c.count.result) ≡ c.count.result = omega (arith, ints) in
    let eb : to_z w64 (of_z w64 c.args.b) ≡ c.args.b = omega (arith, ints) in
    let h = ahead zone laws s.instant c.args.way c.args.b s.local s.shows c.requires.known c.requires.way eb c.count.result c.distance.result el c.count.ensures c.distance.ensures in
    let f = starts_there zone laws s.instant c.args.way c.args.b c.count.result n h.by.is (subst (λ (x : ℤ). (x +ℤ pos 86399000000) <ℤ pos (86400000000 * (n + 1))) h.is c.most_days-days.ensures.most) in
    (few, subst (λ (x : ℤ). NoneFarther zone s.instant c.args.way x n) (sym eb) f)

pub overflow_sub-days : goal.overflow_sub-days
overflow_sub-days g c =
    let s = c.args.self.now in
    let zone = (g.Z.ZoneSource.zones s.zone.now.source.now).value s.zone.now.number in
    let u = up_to_at c.args.way s.instant c.args.b s.instant (to_z w64 (of_z w64 c.args.b)) c.requires.way refl (omega (arith, ints)) in
    (walk_on zone s.instant c.args.way (to_z w64 (of_z w64 c.args.b)) c.days.days u c.days.invariant.1 c.in_default.ensures).0

pub days-smaller : goal.days-smaller
days-smaller g c =
    let s = c.args.self.now in
    let zone = (g.Z.ZoneSource.zones s.zone.now.source.now).value s.zone.now.number in
    let u = up_to_at c.args.way s.instant c.args.b s.instant (to_z w64 (of_z w64 c.args.b)) c.requires.way refl (omega (arith, ints)) in
    less (walk_on zone s.instant c.args.way (to_z w64 (of_z w64 c.args.b)) c.days.days u c.days.invariant.1 c.in_default.ensures).0
  where
    less : {n : ℕ} → 1 ≤ n → n - 1 < n
    less h = omega arith

pub days-preserved : goal.days-preserved
days-preserved g c =
    let s = c.args.self.now in
    let zone = (g.Z.ZoneSource.zones s.zone.now.source.now).value s.zone.now.number in
    let u = up_to_at c.args.way s.instant c.args.b s.instant (to_z w64 (of_z w64 c.args.b)) c.requires.way refl (omega (arith, ints)) in
    (omega arith, (walk_on zone s.instant c.args.way (to_z w64 (of_z w64 c.args.b)) c.days.days u c.days.invariant.1 c.in_default.ensures).1)

pub returns : goal.returns
returns g c =
    let s = c.args.self.now in
    let zone = (g.Z.ZoneSource.zones s.zone.now.source.now).value s.zone.now.number in
    let laws = (g.met.Z.ZoneSource.lawful s.zone.now.source.now).each s.zone.now.number s.zone.now.there in
    let eb : to_z w64 (of_z w64 c.args.b) ≡ c.args.b = omega (arith, ints) in
    let er : to_z w64 (of_z w64 (to_z w64 (of_z w64 c.in-Some.at))) ≡ c.in-Some.at = omega (arith, ints) in
    let u = up_to_at c.args.way s.instant c.args.b s.instant (to_z w64 (of_z w64 c.args.b)) c.requires.way refl eb in
    let h = ends_at zone c.args.way s.instant c.args.b s.instant (to_z w64 (of_z w64 c.args.b)) c.in-Some.at (to_z w64 (of_z w64 (to_z w64 (of_z w64 c.in-Some.at)))) c.days.days refl eb er
    (walk_ends zone s.instant c.args.way (to_z w64 (of_z w64 c.args.b)) c.in-Some.at c.days.days u c.days.invariant.0 c.days.invariant.1 c.in-Some.ensures) in
    record { days = h.0; reach = h.1; end = end_of zone laws s.instant s.local s.shows c.args.way c.days.days _ c.days.invariant.0 h.1 }
