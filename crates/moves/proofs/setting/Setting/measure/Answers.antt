use Rattle.std.proofs.Common.{◌≡◌, refl, ℤ, cond, Ok, ap, ◌∙◌, subst, arith, w64, to_z, of_z}
use Rattle.std.proofs.lemmas.Int.{ints}
use Rattle.local_times.specs.Locals.{Known}
use Rattle.local_times.specs.Meeting.{is}
use Rattle.local_times.proofs.Locals.{arriving_tells}
use Rattle.span_law.specs.Measuring.{way_between, measured_by, no_span}
use Rattle.moves.proofs.Answers.{measure_is, truly}
use Rattle.moves.proofs.setting.Setting.measure.Goals as goal

pub returns : goal.returns
returns g c =
    let f = (g.Z.ZoneSource.zones c.args.self.now.zone.source.now).value c.args.self.now.zone.number in
    let k = (g.C.CalendarSource.calendars c.args.self.now.calendar.source.now).calendar c.args.self.now.calendar.number in
    let a = c.args.a in
    let b = c.args.b in
    let ea : to_z w64 (of_z w64 a) ≡ a = omega (arith, ints) in
    let eb : to_z w64 (of_z w64 b) ≡ b = omega (arith, ints) in
    let s = c.in_ok-start.start in
    let e = c.in_ok-end.end in
    let h = rw c.in_ok-start.ensures.0 at s.shows in
    let es : s.instant ≡ a = c.in_ok-start.ensures.1 ∙ ea in
    let ka : Known f a = subst (Known f) es h.known in
    let t = arriving_tells f (to_z w64 (of_z w64 b)) e c.in_ok-end.ensures in
    let ee : to_z w64 (of_z w64 e) ≡ b = ap (λ (x : ℤ). to_z w64 (of_z w64 x)) (t.1 ∙ eb) ∙ eb in
    let kb : Known f b = subst (Known f) eb t.0 in
    let is =
    measure_is f k c.args.unit a b c.span_from.result ka kb
    (c.span_from.ensures
    ∙ ap (λ (x : ℤ). cond (is x (to_z w64 (of_z w64 e))) no_span (measured_by f x (way_between x (to_z w64 (of_z w64 e))) (to_z w64 (of_z w64 e)) k c.args.unit)) es
    ∙ ap (λ (y : ℤ). cond (is a y) no_span (measured_by f a (way_between a y) y k c.args.unit)) ee) in
    let zl = (g.met.Z.ZoneSource.lawful c.args.self.now.zone.source.now).each c.args.self.now.zone.number c.args.self.now.zone.there in
    let cl = (g.met.C.CalendarSource.lawful c.args.self.now.calendar.source.now).each c.args.self.now.calendar.number c.args.self.now.calendar.there in
    record { value = is; accepted = λ _ _. refl; law = truly f k zl cl c.args.unit a b (Ok c.span_from.result) is }
