-- What the calls of a board answer whose slots are there.
use Rattle.std.proofs.Common.{◌≡◌, ℕ, ◌<◌, Bool, false, cond, List, ℤ, Some, None, Ok, Err, Option, Result, MatchOption, IfOk, IfErr, ok_or, sym, refl, ap, ◌∙◌, subst}
use Rattle.timebase.specs.declared.fault.Fault.{Fault}
use Rattle.timebase.specs.declared.fault.Fault.TheVariants.{UnknownZone, UnknownCalendar, InstantOut, Blank as NoOffset}
use Rattle.timebase.specs.declared.span.Span.{Span}
use Rattle.reading.specs.declared.Misread.{Misread}
use Rattle.reading.specs.Places.{Answers}
use Rattle.names.specs.declared.InForm.{InForm}
use Rattle.names.specs.Names.{CalendarName}
use Rattle.names.specs.Scanning.{scan_calendar_name}
use Rattle.names.specs.ZoneNames.{IsZoneName}
use Rattle.names.specs.ZoneScanning.{scan_zone_name}
use Rattle.names.proofs.NameAnswers.{scan_answers as calendar_name_answers}
use Rattle.names.proofs.ZoneAnswers.{scan_answers as zone_name_answers}
use Rattle.zone.specs.declared.value.Value.{Value}
use Rattle.zone.specs.declared.value.Value.TheVariants.{Offset, Blank}
use Rattle.zone.specs.Zones.{Zone, is_blank}
use Rattle.local_times.specs.Chains.{◌>>=◌}
use Rattle.local_times.specs.Locals.{second_of, arriving, known_at, Known}
use Rattle.local_times.specs.Meeting.{is}
use Rattle.span_law.specs.declared.unit.Unit.{Unit as Measure}
use Rattle.span_law.specs.Carrying.{carry_answer}
use Rattle.span_law.specs.Measuring.{measured as span_measured, way_between, measured_by, no_span, measure_answer}
use Rattle.span_law.proofs.Carries.{arriving_known, known_at_is}
use Rattle.mark_text.specs.declared.mark.Mark.{Mark}
use Rattle.mark_text.specs.Marks.{Lowest, number_of}
use Rattle.mark_text.specs.Reading.{or_unreadable, read_answer}
use Rattle.mark_text.specs.Meanings.{Says}
use Rattle.mark_text.specs.Refusals.{NoneBears, Refused}
use Rattle.mark_text.proofs.Judging.{accepted as text_accepted, refused as text_refused}
use Rattle.mark_text.proofs.Lookups.{number_told}
use Rattle.mark_text.proofs.Trips.{in_range}
use Rattle.span_text.specs.Spans.{read_span, Answered}
use Rattle.span_text.proofs.Answering.{answered as text_answered}
use Rattle.board_law.specs.Boards.{placed, entered, There, Sources, State, filled, mark_slots, span_slots, span_at, mark_at, zone_of, calendar_of, moved, zone_named, calendar_named, in_zone, in_calendar, measured, carried, rezoned, recalendared, lifted}
use Rattle.board_law.specs.Meanings.{Placed, MeasuredTo, CarriedBy, Rezoned, Recalendared}
use Rattle.board_law.specs.Meanings.MeasuredTo.{measures, blank as blank_there}
use Rattle.board_law.specs.Meanings.CarriedBy.{carries, refuses}
use Rattle.board_law.specs.Meanings.Rezoned.{rezones, unreadable, unknown, blank}
use Rattle.board_law.specs.Meanings.Recalendared.{recalendars, unreadable as unreadable_calendar, unknown as unknown_calendar}
use Rattle.board_law.specs.Runs.{Lawful}
use Rattle.board_law.proofs.Checks.{then_is, on_shelf_is}
use Rattle.board_law.proofs.Calls.{on_marks, measured_at, carried_at, reads_at}
use Rattle.board_law.proofs.There.{mark_in_slot, truth}

-- an instant that is known somewhere is in range, so that only a blank keeps from arriving at it
arriving_by : (zone other : Zone) (i : ℤ) → Known other i → arriving zone i ≡ known_at i (zone (second_of i))
arriving_by zone other i k = ap (λ (t : Bool). cond t (known_at i (zone (second_of i))) (Err InstantOut)) (in_range i k.low k.high)

module _ (src : Sources) where
  -- ── measuring ──

  -- the span between two marks, where the first's zone has an offset at the second's instant
  pub span_between : (A B : Mark) (unit : Measure) → There src A → There src B → is_blank (zone_of src A (second_of B.instant)) ≡ false →
      (s : Span) × (measure_answer (zone_of src A) (calendar_of src A) unit A.instant B.instant ≡ Ok s)
  span_between A B unit ta tb sure =
      let zone = zone_of src A in
      let known : Known zone B.instant = record { low = tb.known.low; high = tb.known.high; sure = sure } in
      let apart = measured_by zone A.instant (way_between A.instant B.instant) B.instant (calendar_of src A) unit in
      let s = cond (is A.instant B.instant) no_span apart in
      let answer =
      then_is (arriving zone A.instant) _ A.instant (arriving_known zone A.instant ta.known)
      ∙ then_is (arriving zone B.instant) _ B.instant (arriving_known zone B.instant known)
      ∙ then_is (known_at B.instant (zone (second_of B.instant))) (λ _. Ok s) B.instant (known_at_is zone B.instant (zone (second_of B.instant)) sure) in
      (s, answer)

  -- and where it is blank there
  blank_between : (A B : Mark) (unit : Measure) (cause depth : ℕ) → There src A → There src B → zone_of src A (second_of B.instant) ≡ Blank cause depth →
      measure_answer (zone_of src A) (calendar_of src A) unit A.instant B.instant ≡ Err (NoOffset cause depth)
  blank_between A B unit cause depth ta tb e =
      let zone = zone_of src A in
      let at = arriving_by zone (zone_of src B) B.instant tb.known ∙ ap (known_at B.instant) e in
      then_is (arriving zone A.instant) _ A.instant (arriving_known zone A.instant ta.known)
      ∙ ap (λ (r : Result ℤ Fault). r >>= λ _. span_measured zone (calendar_of src A) unit A.instant B.instant) at

  pub measured_means : Lawful src → (st : State) (a b n : ℕ) (unit : Measure) (A B : Mark) → mark_at src st a ≡ Some A → mark_at src st b ≡ Some B →
      n < span_slots st → MeasuredTo src unit A B (measured src st a b unit n)
  measured_means law st a b n unit A B first second on =
      subst (MeasuredTo src unit A B) (sym (measured_at src st a b n unit A B first second on)) (by (zone_of src A (second_of B.instant)) refl)
    where
      ta : There src A
      ta = (mark_in_slot src st a A first).1

      tb : There src B
      tb = (mark_in_slot src st b B second).1

      by : (v : Value) → zone_of src A (second_of B.instant) ≡ v →
          MeasuredTo src unit A B (measure_answer (zone_of src A) (calendar_of src A) unit A.instant B.instant)
      by (Offset o) e =
          let x = span_between A B unit ta tb (ap is_blank e) in
          subst (MeasuredTo src unit A B) (sym x.1) (measures x.0 (truth src law A B unit x.0 ta x.1))
      by (Blank cause depth) e = subst (MeasuredTo src unit A B) (sym (blank_between A B unit cause depth ta tb e)) (blank_there cause depth e)

  -- ── carrying ──

  pub carried_means : (st : State) (a n c : ℕ) (A : Mark) (s : Span) → mark_at src st a ≡ Some A → span_at st n ≡ Some s → c < mark_slots st →
      CarriedBy src A s (carried src st a n c)
  carried_means st a n c A s first span on =
      subst (CarriedBy src A s) (sym (carried_at src st a n c A s first span on)) (by (carry_answer (zone_of src A) (calendar_of src A) A.instant s) refl)
    where
      by : (r : Result ℤ Fault) → carry_answer (zone_of src A) (calendar_of src A) A.instant s ≡ r → CarriedBy src A s (r >>= λ i. Ok (moved A i))
      by (Ok i) e = carries (moved A i) refl refl e
      by (Err x) e = refuses x e

  -- ── names ──

  pub rezoned_means : (st : State) (n : ℕ) (name : List ℕ) (A : Mark) → mark_at src st n ≡ Some A → Rezoned src A name (rezoned src st n name)
  rezoned_means st n name A e =
      subst (Rezoned src A name) (sym (reads_at src st n A (λ m. zone_named src name >>= in_zone src m) e))
      (by_form (scan_zone_name name) (zone_name_answers name))
    where
      known : Known (zone_of src A) A.instant
      known = (mark_in_slot src st n A e).1.known

      by_value : (z : ℕ) → Lowest src.zones.name src.zones.count name z → (v : Value) → src.zones.value z (second_of A.instant) ≡ v →
          Rezoned src A name (known_at A.instant v >>= λ _. Ok (record { instant = A.instant; zone = z; calendar = A.calendar }))
      by_value z l (Offset o) f = rezones (record { instant = A.instant; zone = z; calendar = A.calendar }) refl refl l (ap is_blank f)
      by_value z l (Blank cause depth) f = blank z cause depth l f

      by_number : IsZoneName name (record {}) → (o : Option ℕ) → MatchOption o (NoneBears src.zones.name src.zones.count name) (Lowest src.zones.name src.zones.count name) →
          Rezoned src A name (ok_or o (UnknownZone 0) >>= in_zone src A)
      by_number form None h = unknown form h
      by_number form (Some z) l =
          let zone = src.zones.value z in
          subst (λ (r : Result ℤ Fault). Rezoned src A name (r >>= λ _. Ok (record { instant = A.instant; zone = z; calendar = A.calendar })))
          (sym (arriving_by zone (zone_of src A) A.instant known)) (by_value z l (zone (second_of A.instant)) refl)

      by_form : (r : Result InForm Misread) → Answers IsZoneName name r →
          Rezoned src A name ((or_unreadable r >>= λ _. ok_or (number_of src.zones.name src.zones.count name) (UnknownZone 0)) >>= in_zone src A)
      by_form (Ok v) form = by_number form (number_of src.zones.name src.zones.count name) (number_told src.zones.name name src.zones.count)
      by_form (Err m) refused = unreadable m.at refused

  pub recalendared_means : (st : State) (n : ℕ) (name : List ℕ) (A : Mark) → mark_at src st n ≡ Some A →
      Recalendared src A name (recalendared src st n name)
  recalendared_means st n name A e =
      subst (Recalendared src A name) (sym (reads_at src st n A (λ m. calendar_named src name >>= in_calendar m) e))
      (by_form (scan_calendar_name name) (calendar_name_answers name))
    where
      by_number : CalendarName name (record {}) → (o : Option ℕ) →
          MatchOption o (NoneBears src.calendars.name src.calendars.count name) (Lowest src.calendars.name src.calendars.count name) →
          Recalendared src A name (ok_or o (UnknownCalendar 0) >>= in_calendar A)
      by_number form None h = unknown_calendar form h
      by_number form (Some k) l = recalendars (record { instant = A.instant; zone = A.zone; calendar = k }) refl refl l

      by_form : (r : Result InForm Misread) → Answers CalendarName name r →
          Recalendared src A name ((or_unreadable r >>= λ _. ok_or (number_of src.calendars.name src.calendars.count name) (UnknownCalendar 0)) >>= in_calendar A)
      by_form (Ok v) form = by_number form (number_of src.calendars.name src.calendars.count name) (number_told src.calendars.name name src.calendars.count)
      by_form (Err m) refused = unreadable_calendar m.at refused

  -- ── lifting ──

  pub lifted_means : (st : State) (n : ℕ) (m : Mark) → mark_at src st n ≡ Some m → lifted src st n ≡ Ok m
  lifted_means st n m e = then_is _ _ tt (on_marks src st n 0 m e) ∙ ap (λ o. filled o 0) e

  -- ── entering ──

  pub entered_means : (st : State) (n : ℕ) (text : List ℕ) → n < span_slots st → Answered text (entered src st n text)
  entered_means st n text on = subst (Answered text) (sym (then_is _ (λ _. read_span text) tt (on_shelf_is (span_slots st) n 0 on))) (text_answered text)

  -- ── placing ──

  pub placed_means : (st : State) (n : ℕ) (text : List ℕ) → n < mark_slots st → Placed src text (placed src st n text)
  placed_means st n text on =
      let answer = read_answer src.zones src.calendars text in
      subst (Placed src text) (sym (then_is _ (λ _. answer) tt (on_shelf_is (mark_slots st) n 0 on)))
      (by answer (text_accepted src.zones src.calendars text answer refl) (text_refused src.zones src.calendars text answer refl))
    where
      by : (r : Result Mark Fault) → IfOk r (Says src.zones src.calendars text) → IfErr r (Refused src.zones src.calendars text) → Placed src text r
      by (Ok m) says refused = says
      by (Err e) says refused = refused
