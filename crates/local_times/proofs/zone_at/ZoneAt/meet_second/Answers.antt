use Rattle.std.proofs.Common.{◌≡◌, ℤ, pos, ◌+ℤ◌, ◌-ℤ◌, ◌≤ℤ◌, ◌<ℤ◌, ◌⊎◌, Ok, Err, Result, sym, refl, ap, ◌∙◌, subst, arith, w64, to_z, of_z}
use Rattle.std.proofs.lemmas.Int.{ints}
use Rattle.std.proofs.lemmas.Result.{err_from_is_err_and}
use Rattle.timebase.specs.declared.fault.Fault.{Fault}
use Rattle.zone.specs.Zones.{Zone, Steady}
use Rattle.zone.specs.declared.value.Value.TheVariants.{Offset}
use Rattle.local_times.specs.declared.landing.Landing.{Landing}
use Rattle.local_times.specs.declared.landing.Landing.TheVariants.{Before, Gap, Hit}
use Rattle.local_times.specs.Meeting.{offset_known}
use Rattle.local_times.specs.Meets.{Meets}
use Rattle.local_times.specs.Walk.{OffsetFits}
use Rattle.local_times.proofs.Relations.{Walked}
use Rattle.local_times.proofs.Walks.{offset_is, walked_same, land_same, walked_step, walked_start, fits_at, met_end, met_never, met_blank}
use Rattle.local_times.proofs.Bridge.{is_meeting}
use Rattle.local_times.proofs.Nearness.{near_made}
use Rattle.local_times.proofs.zone_at.ZoneAt.meet_second.Goals as goal

pub returns-in_err-offset : goal.returns-in_err-offset
returns-in_err-offset g c =
    let f = (g.Z.ZoneSource.zones c.args.self.now.source.now).value c.args.self.now.number in
    let l = c.args.local in
    let a = c.loop-at.at in
    let p = c.loop-at.previous in
    let e = c.in_err-offset.field-0.0 in
    let el : to_z w64 (of_z w64 l) ≡ l = omega (arith, ints) in
    let lt : a <ℤ (l +ℤ pos 86400) = omega (arith, ints) in
    let w : Walked f l a p c.loop-at.landing = walked_same f (sym el) (sym c.loop-at.at-is) (sym c.loop-at.previous-is) refl c.loop-at.invariant in
    let by : Err e ≡ offset_known (f a) = subst (λ (s : ℤ). Err e ≡ offset_known (f s)) c.loop-at.at-is c.in_err-offset.ensures in
    let q = err_from_is_err_and c.from_residual.result c.from_residual.ensures.1 in
    let m : Meets f l c.from_residual.result = subst (λ (r : Result ℤ Fault). Meets f l r) (sym (q.1 ∙ ap Err q.2)) (met_blank f l a p c.loop-at.landing e w lt by) in
    let is = is_meeting f l c.from_residual.result m in
    record { value = is; law = m; near = near_made f ((g.met.Z.ZoneSource.lawful c.args.self.now.source.now).each c.args.self.now.number c.args.self.now.there) l c.from_residual.result is }

pub loop-at-init : goal.loop-at-init
loop-at-init g c =
    let f = (g.Z.ZoneSource.zones c.args.self.now.source.now).value c.args.self.now.number in
    let l = c.args.local in
    walked_same f {l = l} {a = l -ℤ pos 86399} {p = pos 0} {x = Before} (omega (arith, ints)) (omega (arith, ints)) refl refl (walked_start f l)

pub loop-at-preserved : goal.loop-at-preserved
loop-at-preserved g c =
    let f = (g.Z.ZoneSource.zones c.args.self.now.source.now).value c.args.self.now.number in
    let l = c.args.local in
    let a = c.loop-at.at in
    let n = c.steady_until-next.result in
    let o = c.in_ok-offset.offset in
    let p = c.loop-at.previous in
    let el : to_z w64 (of_z w64 l) ≡ l = omega (arith, ints) in
    let en : to_z w64 (of_z w64 n) ≡ n = omega (arith, ints) in
    let eo : to_z w64 (of_z w64 o) ≡ o = omega (arith, ints) in
    let lt : a <ℤ n = omega (arith, ints) in
    let le : n ≤ℤ (l +ℤ pos 86400) = omega (arith, ints) in
    let ea = c.loop-at.at-is in
    let ep = c.loop-at.previous-is in
    let w : Walked f l a p c.loop-at.landing = walked_same f (sym el) (sym ea) (sym ep) refl c.loop-at.invariant in
    let at : f a ≡ Offset o = offset_is (f a) o (subst (λ (s : ℤ). Ok o ≡ offset_known (f s)) ea c.in_ok-offset.ensures) in
    let st : Steady f a n = subst (λ (s : ℤ). Steady f s n) ea c.steady_until-next.ensures.steady in
    walked_same f el en eo (c.land-landing.ensures ∙ land_same c.loop-at.landing el ea en eo ep)
    (walked_step f l a n o p c.loop-at.landing w lt le st at (fits_at (f a) o (((g.met.Z.ZoneSource.lawful c.args.self.now.source.now).each c.args.self.now.number c.args.self.now.there).sound a) at))

-- a second that is met, at the code's own term for it
met : (f : Zone) (l a p i : ℤ) (x : Landing) → to_z w64 (of_z w64 i) ≡ i → (l +ℤ pos 86400) ≤ℤ a → Walked f l a p x → (x ≡ Hit i) ⊎ (x ≡ Gap i) → Meets f l (Ok (to_z w64 (of_z w64 i)))
met f l a p i x ei done w e = subst (λ (z : ℤ). Meets f l (Ok z)) (sym ei) (met_end f l a p done x i w e)

pub returns-in-Hit : goal.returns-in-Hit
returns-in-Hit g c =
    let f = (g.Z.ZoneSource.zones c.args.self.now.source.now).value c.args.self.now.number in
    let w : Walked f c.args.local c.loop-at.at c.loop-at.previous c.loop-at.landing = walked_same f (omega (arith, ints)) (omega (arith, ints)) (omega (arith, ints)) refl c.loop-at.invariant in
    let m = met f c.args.local c.loop-at.at c.loop-at.previous c.in-Hit.i c.loop-at.landing (omega (arith, ints)) (omega (arith, ints)) w c.in-Hit.is in
    let is = is_meeting f c.args.local (Ok (to_z w64 (of_z w64 c.in-Hit.i))) m in
    record { value = is; law = m; near = near_made f ((g.met.Z.ZoneSource.lawful c.args.self.now.source.now).each c.args.self.now.number c.args.self.now.there) c.args.local (Ok (to_z w64 (of_z w64 c.in-Hit.i))) is }

-- the other pattern of the same arm
pub returns-in-Hit-2 : goal.returns-in-Hit-2
returns-in-Hit-2 g c =
    let f = (g.Z.ZoneSource.zones c.args.self.now.source.now).value c.args.self.now.number in
    let w : Walked f c.args.local c.loop-at.at c.loop-at.previous c.loop-at.landing = walked_same f (omega (arith, ints)) (omega (arith, ints)) (omega (arith, ints)) refl c.loop-at.invariant in
    let m = met f c.args.local c.loop-at.at c.loop-at.previous c.in-Hit.i c.loop-at.landing (omega (arith, ints)) (omega (arith, ints)) w c.in-Hit.is in
    let is = is_meeting f c.args.local (Ok (to_z w64 (of_z w64 c.in-Hit.i))) m in
    record { value = is; law = m; near = near_made f ((g.met.Z.ZoneSource.lawful c.args.self.now.source.now).each c.args.self.now.number c.args.self.now.there) c.args.local (Ok (to_z w64 (of_z w64 c.in-Hit.i))) is }

pub unreachable-requires : goal.unreachable-requires
unreachable-requires g c =
    let f = (g.Z.ZoneSource.zones c.args.self.now.source.now).value c.args.self.now.number in
    let l = c.args.local in
    let a = c.loop-at.at in
    let p = c.loop-at.previous in
    met_never f l a p (omega (arith, ints)) ((g.met.Z.ZoneSource.lawful c.args.self.now.source.now).each c.args.self.now.number c.args.self.now.there).sound (walked_same f (omega (arith, ints)) (omega (arith, ints)) (omega (arith, ints)) (sym c.in-Before.is) c.loop-at.invariant)

pub land-landing-requires : goal.land-landing-requires
land-landing-requires g c =
    let f = (g.Z.ZoneSource.zones c.args.self.now.source.now).value c.args.self.now.number in
    let o = c.in_ok-offset.offset in
    let h : OffsetFits o = fits_at (f c.loop-at.at) o (((g.met.Z.ZoneSource.lawful c.args.self.now.source.now).each c.args.self.now.number c.args.self.now.there).sound c.loop-at.at) (offset_is (f c.loop-at.at) o (subst (λ (s : ℤ). Ok o ≡ offset_known (f s)) c.loop-at.at-is c.in_ok-offset.ensures)) in
    record { local = (omega (arith, ints), omega (arith, ints)); offset = (omega (arith, ints), omega (arith, ints)); previous = c.loop-at.invariant.fits }
