use Rattle.std.proofs.Common.{ℕ, List, Result, IfOk, sym, ap, ◌∙◌, subst}
use Rattle.timebase.specs.declared.fault.Fault.{Fault}
use Rattle.timebase.specs.declared.fault.Fault.TheVariants.{UnknownCalendar}
use Rattle.mark_text.specs.Marks.{Lowest, number_of}
use Rattle.mark_text.specs.Reading.{calendar_meant}
use Rattle.std.specs.Prelude.{ok_or}
use Rattle.mark_text.proofs.Lookups.{answers, lowest_is}
use Rattle.mark_text.proofs.lookup.find_calendar.Goals as goal

pub returns : goal.returns
returns g c =
    let cs = g.C.CalendarSource.calendars c.args.calendars.now in
    let n = c.calendar_name.result.now in
    record {
      value = c.ok_or.ensures.value ∙ answers cs.name cs.count n _ c.find-found.result (UnknownCalendar c.calendar_place.result) c.calendar_name.ensures c.find-found.ensures
          ∙ ap (λ (p : ℕ). ok_or (number_of cs.name cs.count (calendar_meant c.args.text.now c.args.value)) (UnknownCalendar p)) c.calendar_place.ensures;
      lowest = subst (λ (m : List ℕ). IfOk c.ok_or.result (Lowest cs.name cs.count m)) c.calendar_name.ensures
          (subst (λ (r : Result ℕ Fault). IfOk r (Lowest cs.name cs.count n)) (sym c.ok_or.ensures.value) (lowest_is cs.name n cs.count c.find-found.result c.find-found.ensures (UnknownCalendar c.calendar_place.result)));
    }
