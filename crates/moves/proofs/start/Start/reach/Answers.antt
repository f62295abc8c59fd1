use Rattle.std.proofs.Common.{◌≡◌, false, ℤ, pos, ◌+ℤ◌, ◌≤ℤ◌, Ok, Err, Option, Result, MatchOption, ap, ◌∙◌, subst, arith, w64, to_z, of_z}
use Rattle.std.proofs.lemmas.Int.{ints}
use Rattle.std.proofs.lemmas.Result.{err_from_is_err_and}
use Rattle.std.specs.Option.{ok_or}
use Rattle.timebase.specs.declared.fault.Fault.TheVariants.{NoSuchDate}
use Rattle.calendar.specs.Calendars.{within}
use Rattle.local_times.proofs.Results.{err_same}
use Rattle.local_times.specs.declared.local_time.LocalTime.{LocalTime}
use Rattle.span_law.specs.Stepping.{signed}
use Rattle.moves.proofs.Farthest.{reach_own, reach_out, reach_in}
use Rattle.moves.proofs.start.Start.reach.Goals as goal

pub returns-then-days-eq0 : goal.returns-then-days-eq0
returns-then-days-eq0 g c =
    let s = c.args.self.now in
    let f = (g.Z.ZoneSource.zones s.zone.now.source.now).value s.zone.now.number in
    let e : to_z w64 (of_z w64 s.instant) ≡ s.instant = omega (arith, ints) in
    ap Ok e ∙ reach_own f s.instant c.args.way c.args.days c.if-days-eq0.true

pub returns-in_err-local : goal.returns-in_err-local
returns-in_err-local g c =
    let s = c.args.self.now in
    let f = (g.Z.ZoneSource.zones s.zone.now.source.now).value s.zone.now.number in
    let h = c.in_err-local.ensures in
    let q = err_from_is_err_and c.from_residual.result c.from_residual.ensures.1 in
    let z = pos s.local.day +ℤ signed c.args.way c.args.days in
    let out : within (pos 1) (pos 3652059) z ≡ false =
    subst (λ (o : Option LocalTime). MatchOption o (within (pos 1) (pos 3652059) z ≡ false) (λ l. (pos l.day ≡ z) × (l.clock ≡ s.local.clock) × (l.micros ≡ s.local.micros))) h.ok_part c.day_off.ensures in
    q.1 ∙ ap Err (q.2 ∙ err_same (h.value ∙ ap (λ (o : Option LocalTime). ok_or o NoSuchDate) h.ok_part))
    ∙ reach_out f s.instant c.args.way c.args.days (omega arith) z (ap (λ (x : ℤ). x +ℤ signed c.args.way c.args.days) s.shows.day_is) out

pub returns : goal.returns
returns g c =
    let s = c.args.self.now in
    let f = (g.Z.ZoneSource.zones s.zone.now.source.now).value s.zone.now.number in
    let l = c.in_ok-local.local in
    let z = pos s.local.day +ℤ signed c.args.way c.args.days in
    let there : (pos l.day ≡ z) × (l.clock ≡ s.local.clock) × (l.micros ≡ s.local.micros) =
    subst (λ (o : Option LocalTime). MatchOption o (within (pos 1) (pos 3652059) z ≡ false) (λ l. (pos l.day ≡ z) × (l.clock ≡ s.local.clock) × (l.micros ≡ s.local.micros))) c.in_ok-local.ensures.ok_part c.day_off.ensures in
    let low : pos 1 ≤ℤ pos l.day = omega (arith, ints, l.first) in
    let high : pos l.day ≤ℤ pos 3652059 = omega (arith, ints, l.last) in
    c.meet.ensures.value
    ∙ reach_in f s.instant c.args.way c.args.days (omega arith) (pos l.day) l.clock l.micros low high
    (there.0 ∙ ap (λ (x : ℤ). x +ℤ signed c.args.way c.args.days) s.shows.day_is) (there.1 ∙ s.shows.clock_is) (there.2 ∙ s.shows.micros_is)
