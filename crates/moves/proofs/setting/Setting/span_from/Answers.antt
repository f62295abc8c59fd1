use Rattle.std.proofs.Common.{◌≡◌, ℤ, sym, ap, ◌∙◌, arith, w64, to_z, of_z}
use Rattle.std.proofs.lemmas.Int.{ints}
use Rattle.std.proofs.lemmas.Bool.{cond-false}
use Rattle.local_times.specs.Meeting.{is}
use Rattle.span_law.specs.Measuring.{way_between, measured_dates, measured_by, no_span}
use Rattle.span_law.proofs.Measures.{apart_is}
use Rattle.moves.proofs.Endings.{not_hour}
use Rattle.moves.proofs.setting.Setting.span_from.Goals as goal

pub returns-in_default : goal.returns-in_default
returns-in_default g c =
    let f = (g.Z.ZoneSource.zones c.args.self.now.zone.source.now).value c.args.self.now.zone.number in
    let k = (g.C.CalendarSource.calendars c.args.self.now.calendar.source.now).calendar c.args.self.now.calendar.number in
    let a = c.args.start.now.instant in
    let b = c.args.b in
    let eb : to_z w64 (of_z w64 c.args.b) ≡ c.args.b = omega (arith, ints) in
    c.span_by_dates.ensures
    ∙ ap (λ (y : ℤ). measured_dates f a (way_between a y) y k c.args.unit) eb
    ∙ not_hour f a (way_between a b) b k c.args.unit c.in_default.not-Hour
    ∙ sym (cond-false (is a b) no_span (measured_by f a (way_between a b) b k c.args.unit) (apart_is a b (λ e. c.if-start-b.false (ap (of_z w64) e))))
