use Rattle.std.proofs.Common.{◌≡◌, ℤ, pos, negsuc, ◌+ℤ◌, ◌-ℤ◌, ◌≤ℤ◌, ap, ◌∙◌, arith, w32, w64, to_z, of_z}
use Rattle.std.proofs.lemmas.Int.{ints}
use Rattle.span_law.specs.declared.way.Way.{Way}
use Rattle.span_law.specs.Carrying.{natural}
use Rattle.span_law.specs.Stepping.{signed}
use Rattle.span_law.specs.Measuring.{way_between, parts_by, days_apart, measured_dates}
use Rattle.span_law.proofs.Reaches.{natural_is}
use Rattle.moves.proofs.Answers.{with_time}
use Rattle.moves.proofs.Endings.{dates_are}
use Rattle.moves.proofs.setting.Setting.span_by_dates.Goals as goal

time_read : (b r : ℤ) → to_z w64 (of_z w64 b) ≡ b → negsuc 62135683198999999 ≤ℤ r → r ≤ℤ pos 253402387198999999 → negsuc 62135683198999999 ≤ℤ b → b ≤ℤ pos 253402387198999999 → to_z w64 (of_z w64 (to_z w64 (of_z w64 b) -ℤ to_z w64 (of_z w64 r))) ≡ b -ℤ r
time_read b r e l h k m = omega (arith, ints)

pub returns : goal.returns
returns g c =
    let f = (g.Z.ZoneSource.zones c.args.self.now.zone.source.now).value c.args.self.now.zone.number in
    let k = (g.C.CalendarSource.calendars c.args.self.now.calendar.source.now).calendar c.args.self.now.calendar.number in
    let s = c.args.start.now in
    let a = s.instant in
    let b = c.args.b in
    let d = c.dates_to.result in
    let way = c.way_to-way.result in
    let n = c.farthest-reached.result.days in
    let r = c.farthest-reached.result.at in
    let ea : to_z w64 (of_z w64 a) ≡ a = omega (arith, ints) in
    let eb : to_z w64 (of_z w64 b) ≡ b = omega (arith, ints) in
    let ey : to_z w32 (of_z w32 d.years) ≡ d.years = omega (arith, ints) in
    let em : to_z w32 (of_z w32 d.months) ≡ d.months = omega (arith, ints) in
    let ew : to_z w32 (of_z w32 d.weeks) ≡ d.weeks = omega (arith, ints) in
    let ed : to_z w32 (of_z w32 d.days) ≡ d.days = omega (arith, ints) in
    let b1 : negsuc 62135683198999999 ≤ℤ b = omega (arith, ints, c.requires.known.low) in
    let b2 : b ≤ℤ pos 253402387198999999 = omega (arith, ints, c.requires.known.high) in
    let m = rw c.requires.zone at c.farthest-reached.ensures in
    let h = rw c.requires.zone at s.shows in
    let z = pos s.local.day +ℤ signed way n in
    let z0 : pos 0 ≤ℤ z = omega (arith, ints, m.end.first) in
    let days : n ≡ days_apart f a way b = m.days ∙ ap (days_apart f a way) eb in
    let w : way ≡ way_between a b = c.way_to-way.ensures ∙ ap (λ (x : ℤ). way_between x (to_z w64 (of_z w64 b))) ea ∙ ap (way_between a) eb in
    with_time d _ _ _ _ way (parts_by k way s.local.day (natural z) c.args.unit) _ ey em ew ed c.dates_to.ensures
    ∙ dates_are f k a b way c.args.unit s.local h n (natural z) r _ (natural_is z z0) days m.reach (time_read b r eb m.end.low m.end.high b1 b2)
    ∙ ap (λ (v : Way). measured_dates f a v b k c.args.unit) w
