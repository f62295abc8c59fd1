use Rattle.std.proofs.Common.{length, refl}
use Rattle.timebase.specs.Spans.{Enterable}
use Rattle.board_law.specs.Boards.{There, placed, lifted, entered, measured, carried, rezoned, recalendared, place, lift, enter, measure, carry, rezone, recalendar, write_mark, write_span, list_marks, mark_written, span_written, listed, after}
use Rattle.board_law.specs.Meanings.{PlaceAnswers, LiftAnswers, EnterAnswers, MeasureAnswers, CarryAnswers, RezoneAnswers, RecalendarAnswers, WriteMarkAnswers, WriteSpanAnswers, ListAnswers}
use Rattle.planboard.specs.declared.call.Answer.TheVariants.{Mark, Lifted, Span}
use Rattle.planboard.specs.View.{view, sources}
use Rattle.planboard.proofs.Answering.{valued, valued_text}
use Rattle.planboard.proofs.Runs.{same_left}
use Rattle.planboard.proofs.Sames.{same_first}
use Rattle.planboard.proofs.board.Board.make.Goals as goal

pub returns-in-Place : goal.returns-in-Place
returns-in-Place g c =
    let src = sources g.Z.ZoneSource.zones g.C.CalendarSource.calendars c.args.self.now in
    let st = view c.args.self.now in
    let d = valued src st Mark (There src) (λ _ t. t) (PlaceAnswers src st c.in-Place.slot c.in-Place.text.now) (place c.in-Place.slot c.in-Place.text.now) refl (placed src st c.in-Place.slot c.in-Place.text.now) (λ _. refl) c.args.out.now c.place.result c.map.ensures.cases c.place.ensures.answer c.place.ensures.there c.place.ensures.means in
    rw c.in-Place.is (record { answer = d.answered; there = d.there; means = d.means; state = c.place.ensures.state; same = c.place.ensures.same })

pub returns-in-Lift : goal.returns-in-Lift
returns-in-Lift g c =
    let src = sources g.Z.ZoneSource.zones g.C.CalendarSource.calendars c.args.self.now in
    let st = view c.args.self.now in
    let d = valued src st Lifted (There src) (λ _ t. t) (LiftAnswers src st c.in-Lift.slot) (lift c.in-Lift.slot) refl (lifted src st c.in-Lift.slot) (λ _. refl) c.args.out.now c.lift.result c.map-in-Lift.ensures.cases c.lift.ensures.answer c.lift.ensures.there c.lift.ensures.means in
    rw c.in-Lift.is (record { answer = d.answered; there = d.there; means = d.means; state = c.lift.ensures.state; same = c.lift.ensures.same })

pub returns-in-Enter : goal.returns-in-Enter
returns-in-Enter g c =
    let src = sources g.Z.ZoneSource.zones g.C.CalendarSource.calendars c.args.self.now in
    let st = view c.args.self.now in
    let d = valued src st Span (Enterable) (λ _ t. t) (EnterAnswers src st c.in-Enter.slot c.in-Enter.text.now) (enter c.in-Enter.slot c.in-Enter.text.now) refl (entered src st c.in-Enter.slot c.in-Enter.text.now) (λ _. refl) c.args.out.now c.enter.result c.map-in-Enter.ensures.cases c.enter.ensures.answer c.enter.ensures.there c.enter.ensures.means in
    rw c.in-Enter.is (record { answer = d.answered; there = d.there; means = d.means; state = c.enter.ensures.state; same = c.enter.ensures.same })

pub returns-in-Measure : goal.returns-in-Measure
returns-in-Measure g c =
    let src = sources g.Z.ZoneSource.zones g.C.CalendarSource.calendars c.args.self.now in
    let st = view c.args.self.now in
    let d = valued src st Span (Enterable) (λ _ t. t) (MeasureAnswers src st c.in-Measure.first c.in-Measure.second c.in-Measure.unit c.in-Measure.span) (measure c.in-Measure.first c.in-Measure.second c.in-Measure.unit c.in-Measure.span) refl (measured src st c.in-Measure.first c.in-Measure.second c.in-Measure.unit c.in-Measure.span) (λ _. refl) c.args.out.now c.measure.result c.map-in-Measure.ensures.cases c.measure.ensures.answer c.measure.ensures.there c.measure.ensures.means in
    rw c.in-Measure.is (record { answer = d.answered; there = d.there; means = d.means; state = c.measure.ensures.state; same = c.measure.ensures.same })

pub returns-in-Carry : goal.returns-in-Carry
returns-in-Carry g c =
    let src = sources g.Z.ZoneSource.zones g.C.CalendarSource.calendars c.args.self.now in
    let st = view c.args.self.now in
    let d = valued src st Mark (There src) (λ _ t. t) (CarryAnswers src st c.in-Carry.first c.in-Carry.span c.in-Carry.target) (carry c.in-Carry.first c.in-Carry.span c.in-Carry.target) refl (carried src st c.in-Carry.first c.in-Carry.span c.in-Carry.target) (λ _. refl) c.args.out.now c.carry.result c.map-in-Carry.ensures.cases c.carry.ensures.answer c.carry.ensures.there c.carry.ensures.means in
    rw c.in-Carry.is (record { answer = d.answered; there = d.there; means = d.means; state = c.carry.ensures.state; same = c.carry.ensures.same })

pub returns-in-Rezone : goal.returns-in-Rezone
returns-in-Rezone g c =
    let src = sources g.Z.ZoneSource.zones g.C.CalendarSource.calendars c.args.self.now in
    let st = view c.args.self.now in
    let d = valued src st Mark (There src) (λ _ t. t) (RezoneAnswers src st c.in-Rezone.slot c.in-Rezone.name.now) (rezone c.in-Rezone.slot c.in-Rezone.name.now) refl (rezoned src st c.in-Rezone.slot c.in-Rezone.name.now) (λ _. refl) c.args.out.now c.rezone.result c.map-in-Rezone.ensures.cases c.rezone.ensures.answer c.rezone.ensures.there c.rezone.ensures.means in
    rw c.in-Rezone.is (record { answer = d.answered; there = d.there; means = d.means; state = c.rezone.ensures.state; same = c.rezone.ensures.same })

pub returns-in-Recalendar : goal.returns-in-Recalendar
returns-in-Recalendar g c =
    let src = sources g.Z.ZoneSource.zones g.C.CalendarSource.calendars c.args.self.now in
    let st = view c.args.self.now in
    let d = valued src st Mark (There src) (λ _ t. t) (RecalendarAnswers src st c.in-Recalendar.slot c.in-Recalendar.name.now) (recalendar c.in-Recalendar.slot c.in-Recalendar.name.now) refl (recalendared src st c.in-Recalendar.slot c.in-Recalendar.name.now) (λ _. refl) c.args.out.now c.recalendar.result c.map-in-Recalendar.ensures.cases c.recalendar.ensures.answer c.recalendar.ensures.there c.recalendar.ensures.means in
    rw c.in-Recalendar.is (record { answer = d.answered; there = d.there; means = d.means; state = c.recalendar.ensures.state; same = c.recalendar.ensures.same })

pub returns-in-WriteMark : goal.returns-in-WriteMark
unfolding after
returns-in-WriteMark g c =
    let src = sources g.Z.ZoneSource.zones g.C.CalendarSource.calendars c.args.self.now in
    let st = view c.args.self.now in
    let d = valued_text src st (λ r. WriteMarkAnswers src st c.in-WriteMark.slot c.args.out.now r c.write_mark.new.out) (write_mark c.in-WriteMark.slot (length c.args.out.now)) (λ _. refl) c.args.out.now c.write_mark.new.out c.write_mark.result c.map-in-WriteMark.ensures.cases c.write_mark.ensures.wrote c.write_mark.ensures.means in
    rw c.in-WriteMark.is (record { answer = d.answered; there = d.there; means = d.means; state = same_left (mark_written src st c.in-WriteMark.slot (length c.args.out.now)) st; same = same_first c.args.self.now })

pub returns-in-WriteSpan : goal.returns-in-WriteSpan
unfolding after
returns-in-WriteSpan g c =
    let src = sources g.Z.ZoneSource.zones g.C.CalendarSource.calendars c.args.self.now in
    let st = view c.args.self.now in
    let d = valued_text src st (λ r. WriteSpanAnswers src st c.in-WriteSpan.slot c.args.out.now r c.write_span.new.out) (write_span c.in-WriteSpan.slot (length c.args.out.now)) (λ _. refl) c.args.out.now c.write_span.new.out c.write_span.result c.map-in-WriteSpan.ensures.cases c.write_span.ensures.wrote c.write_span.ensures.means in
    rw c.in-WriteSpan.is (record { answer = d.answered; there = d.there; means = d.means; state = same_left (span_written src st c.in-WriteSpan.slot (length c.args.out.now)) st; same = same_first c.args.self.now })

pub returns-in-List : goal.returns-in-List
unfolding after
returns-in-List g c =
    let src = sources g.Z.ZoneSource.zones g.C.CalendarSource.calendars c.args.self.now in
    let st = view c.args.self.now in
    let d = valued_text src st (λ r. ListAnswers src st c.args.out.now r c.list.new.out) (list_marks (length c.args.out.now)) (λ _. refl) c.args.out.now c.list.new.out c.list.result c.map-in-List.ensures.cases c.list.ensures.wrote c.list.ensures.means in
    rw c.in-List.is (record { answer = d.answered; there = d.there; means = d.means; state = same_left (listed src st (length c.args.out.now)) st; same = same_first c.args.self.now })
