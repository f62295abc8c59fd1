use Rattle.std.proofs.Common.{◌≡◌, ℤ, pos, ◌+ℤ◌, ◌*ℤ◌, Ok, sym, ap, ◌∙◌, subst, arith, w64, to_z, of_z}
use Rattle.std.proofs.lemmas.Int.{ints}
use Rattle.local_times.specs.Locals.{count_of}
use Rattle.local_times.specs.Meeting.{Near}
use Rattle.local_times.specs.Meets.{Meets}
use Rattle.local_times.proofs.Locals.{put_together}
use Rattle.local_times.proofs.zone_at.ZoneAt.meet.Goals as goal

pub returns-clause-law : goal.returns-clause-law
returns-clause-law g c =
    let f = (g.Z.ZoneSource.zones c.args.self.now.source.now).value c.args.self.now.number in
    let s = c.in_ok-second.second in
    let i = to_z w64 (of_z w64 c.instant_of.result) in
    let ei : i ≡ c.instant_of.result = omega (arith, ints) in
    let es : to_z w64 (of_z w64 s) ≡ s = omega (arith, ints) in
    let el : to_z w64 (of_z w64 c.seconds.result) ≡ c.seconds.result = omega (arith, ints) in
    let p = put_together s c.args.local.micros i c.args.local.micros_high (ei ∙ c.instant_of.ensures ∙ ap (λ (z : ℤ). (z *ℤ pos 1000000) +ℤ pos c.args.local.micros) es) in
    (subst (λ (z : ℤ). Meets f (count_of (pos c.args.local.day) c.args.local.clock) (Ok z)) (sym p.0) (subst (λ (l : ℤ). Meets f l (Ok s)) (el ∙ c.seconds.ensures.value) c.in_ok-second.ensures.law), p.1)

pub returns-clause-near : goal.returns-clause-near
returns-clause-near g c =
    let s = c.in_ok-second.second in
    let i = to_z w64 (of_z w64 c.instant_of.result) in
    let ei : i ≡ c.instant_of.result = omega (arith, ints) in
    let es : to_z w64 (of_z w64 s) ≡ s = omega (arith, ints) in
    let el : to_z w64 (of_z w64 c.seconds.result) ≡ c.seconds.result = omega (arith, ints) in
    let p = put_together s c.args.local.micros i c.args.local.micros_high (ei ∙ c.instant_of.ensures ∙ ap (λ (z : ℤ). (z *ℤ pos 1000000) +ℤ pos c.args.local.micros) es) in
    subst (Near (count_of (pos c.args.local.day) c.args.local.clock)) (sym p.0) (subst (λ (l : ℤ). Near l s) (el ∙ c.seconds.ensures.value) c.in_ok-second.ensures.near)
