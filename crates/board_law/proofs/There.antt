-- Marks that are there, and spans that can be entered: what a board's slots hold, and what its calls answer.
use Rattle.std.proofs.Common.{◌≡◌, ℕ, Bool, true, false, cond, List, ℤ, ◌+ℤ◌, Some, None, Ok, Option, Result, ok_or, sym, refl, ap, subst, inl, inr}
use Rattle.std.proofs.lemmas.Bool.{true≢false}
use Rattle.names.specs.Scanning.{scan_calendar_name}
use Rattle.names.specs.ZoneScanning.{scan_zone_name}
use Rattle.timebase.specs.declared.fault.Fault.{Fault}
use Rattle.timebase.specs.declared.fault.Fault.TheVariants.{UnknownZone, UnknownCalendar, NoSuchDate}
use Rattle.timebase.specs.declared.span.Part.{Part}
use Rattle.timebase.specs.declared.span.Span.{Span}
use Rattle.timebase.specs.Spans.{Enterable, InLimits, wrong_part}
use Rattle.timebase.proofs.Enterables.{enterable_right, right_enterable}
use Rattle.zone.specs.Zones.{Zone}
use Rattle.calendar.specs.Calendars.{Calendar}
use Rattle.local_times.specs.Chains.{◌>>=◌}
use Rattle.local_times.specs.Locals.{local_day, arriving, Known}
use Rattle.local_times.proofs.Locals.{arriving_tells}
use Rattle.local_times.proofs.Results.{err_ok, ok_same}
use Rattle.span_law.specs.declared.unit.Unit.{Unit as Measure}
use Rattle.span_law.specs.declared.way.Way.{Way}
use Rattle.span_law.specs.declared.way.Way.TheVariants.{Onward as onward, Back as back}
use Rattle.span_law.specs.Carrying.{met_on, natural, no_date_parts, carried, carry_answer}
use Rattle.span_law.specs.Stepping.{day_on}
use Rattle.span_law.specs.Measuring.{way_between, measure_answer}
use Rattle.span_law.specs.Law.{Aligned, TrueSpan}
use Rattle.span_law.proofs.Answered.{answered, spans_true_over}
use Rattle.span_text.specs.Spans.{read_span, Answered}
use Rattle.span_text.specs.Spans.Answered.{reads, unreadable, past}
use Rattle.span_text.proofs.Answering.{answered as text_answered}
use Rattle.mark_text.specs.declared.mark.Mark.{Mark}
use Rattle.mark_text.specs.Marks.{Lowest, number_of, mark_there}
use Rattle.mark_text.specs.Reading.{or_unreadable}
use Rattle.mark_text.proofs.Lookups.{number_own}
use Rattle.mark_text.proofs.Tells.{then_ok}
use Rattle.mark_text.proofs.There.{there_is, is_there}
use Rattle.shelf.specs.Slots.{slot_at}
use Rattle.board_law.specs.Boards.{There, Sources, State, span_there, span_at, mark_at, zone_of, calendar_of, zone_named, calendar_named, moved, in_zone, in_calendar, led}
use Rattle.board_law.specs.Runs.{Lawful}
use Rattle.board_law.proofs.Checks.{kept_tells, kept_is, found_tells}

-- ── spans ──

span_tells : (s : Span) → span_there s ≡ true → Enterable s
span_tells s e = by (wrong_part s) refl e
  where
    by : (o : Option Part) → wrong_part s ≡ o → elim o [ Some part ↦ false | None ↦ true ] ≡ true → Enterable s
    by (Some part) f g = absurd (true≢false (sym g))
    by None f g = right_enterable s f

span_is_there : (s : Span) → Enterable s → span_there s ≡ true
span_is_there s e = ap (λ (o : Option Part). elim o [ Some part ↦ false | None ↦ true ]) (enterable_right s e)

pub span_in_slot : (st : State) (n : ℕ) (s : Span) → span_at st n ≡ Some s → (slot_at 256 st.spans n ≡ Some s) × Enterable s
span_in_slot st n s e = let k = kept_tells span_there (slot_at 256 st.spans n) s e in (k.0, span_tells s k.1)

pub span_at_is : (st : State) (n : ℕ) (s : Span) → slot_at 256 st.spans n ≡ Some s → Enterable s → span_at st n ≡ Some s
span_at_is st n s e h = kept_is span_there (slot_at 256 st.spans n) s e (span_is_there s h)

-- a span of parts that all point one way, within the limits
entered_from : (way : Way) (s : Span) → Aligned way s → InLimits s → Enterable s
entered_from onward s a l = record { signs = inl (record { years = a.years; months = a.months; weeks = a.weeks; days = a.days; time = a.time }); limits = l }
entered_from back s a l = record { signs = inr (record { years = a.years; months = a.months; weeks = a.weeks; days = a.days; time = a.time }); limits = l }

pub read_enterable : (t : List ℕ) (s : Span) → read_span t ≡ Ok s → Enterable s
read_enterable t s e = by (read_span t) (text_answered t) e
  where
    by : (r : Result Span Fault) → Answered t r → r ≡ Ok s → Enterable s
    by r (reads text within enterable) f = subst Enterable (ok_same f) enterable
    by r (unreadable a) f = err_ok f
    by r (past a b) f = err_ok f

-- ── carrying ──

-- where carrying leads, an instant is known
carried_known : (zone : Zone) (c : Calendar) (i : ℤ) (s : Span) (b : ℤ) → carry_answer zone c i s ≡ Ok b → Known zone b
carried_known zone c i s b e = by (no_date_parts s) (then_ok (arriving zone i) (λ _. carried zone c i s) b e).next
  where
    known : (j : ℤ) → arriving zone j ≡ Ok b → Known zone b
    known j f = let a = arriving_tells zone j b (sym f) in subst (Known zone) (sym a.1) a.0

    from_met : ℤ → Result ℤ Fault
    from_met met = arriving zone (met +ℤ s.time)

    from_day : ℤ → Result ℤ Fault
    from_day day = met_on zone i day >>= from_met

    by : (t : Bool) → cond t (arriving zone (i +ℤ s.time)) (ok_or (day_on c (natural (local_day zone i)) s) NoSuchDate >>= from_day) ≡ Ok b → Known zone b
    by true f = known (i +ℤ s.time) f
    by false f =
        let d = then_ok (ok_or (day_on c (natural (local_day zone i)) s) NoSuchDate) from_day b f in
        let m = then_ok (met_on zone i d.value) from_met b d.next in
        known (m.value +ℤ s.time) m.next

-- ── marks ──

module _ (src : Sources) where
  pub mark_in_slot : (st : State) (n : ℕ) (m : Mark) → mark_at src st n ≡ Some m → (slot_at 256 st.marks n ≡ Some m) × There src m
  mark_in_slot st n m e =
      let k = kept_tells (mark_there src.zones src.calendars) (slot_at 256 st.marks n) m e in
      (k.0, there_is src.zones src.calendars m k.1)

  pub mark_at_is : (st : State) (n : ℕ) (m : Mark) → slot_at 256 st.marks n ≡ Some m → There src m → mark_at src st n ≡ Some m
  mark_at_is st n m e t = kept_is (mark_there src.zones src.calendars) (slot_at 256 st.marks n) m e (is_there src.zones src.calendars m t)

  pub moved_there : (m : Mark) (i : ℤ) → There src m → Known (zone_of src m) i → There src (moved m i)
  moved_there m i t k = record { zone = t.zone; calendar = t.calendar; known = k }

  -- a name that is found is found at the lowest number that bears it
  zone_lowest : (name : List ℕ) (z : ℕ) → zone_named src name ≡ Ok z → Lowest src.zones.name src.zones.count (src.zones.name z) z
  zone_lowest name z e =
      let found = number_of src.zones.name src.zones.count name in
      let t = then_ok (or_unreadable (scan_zone_name name)) (λ _. ok_or found (UnknownZone 0)) z e in
      number_own src.zones.name name src.zones.count z (found_tells found (UnknownZone 0) z t.next)

  calendar_lowest : (name : List ℕ) (k : ℕ) → calendar_named src name ≡ Ok k →
      Lowest src.calendars.name src.calendars.count (src.calendars.name k) k
  calendar_lowest name k e =
      let found = number_of src.calendars.name src.calendars.count name in
      let t = then_ok (or_unreadable (scan_calendar_name name)) (λ _. ok_or found (UnknownCalendar 0)) k e in
      number_own src.calendars.name name src.calendars.count k (found_tells found (UnknownCalendar 0) k t.next)

  pub rezoned_there : (m : Mark) (name : List ℕ) (r : Mark) → There src m → (zone_named src name >>= in_zone src m) ≡ Ok r → There src r
  rezoned_there m name r t e =
      let z = then_ok (zone_named src name) (in_zone src m) r e in
      let zone = src.zones.value z.value in
      let i = then_ok (arriving zone m.instant) (λ _. Ok (record { instant = m.instant; zone = z.value; calendar = m.calendar })) r z.next in
      let a = arriving_tells zone m.instant i.value (sym i.was) in
      subst (There src) (ok_same i.next) (record { zone = zone_lowest name z.value z.was; calendar = t.calendar; known = a.0 })

  pub recalendared_there : (m : Mark) (name : List ℕ) (r : Mark) → There src m → (calendar_named src name >>= in_calendar m) ≡ Ok r → There src r
  recalendared_there m name r t e =
      let k = then_ok (calendar_named src name) (in_calendar m) r e in
      subst (There src) (ok_same k.next) (record { zone = t.zone; calendar = calendar_lowest name k.value k.was; known = t.known })

  pub carried_there : (m : Mark) (s : Span) (r : Mark) → There src m → led src m s ≡ Ok r → There src r
  carried_there m s r t e =
      let i = then_ok (carry_answer (zone_of src m) (calendar_of src m) m.instant s) (λ i. Ok (moved m i)) r e in
      subst (There src) (ok_same i.next) (moved_there m i.value t (carried_known (zone_of src m) (calendar_of src m) m.instant s i.value i.was))

  -- ── measuring ──

  module _ (law : Lawful src) (A B : Mark) (unit : Measure) (s : Span) (t : There src A)
      (e : measure_answer (zone_of src A) (calendar_of src A) unit A.instant B.instant ≡ Ok s) where
    pub truth : TrueSpan (zone_of src A) (calendar_of src A) unit A.instant B.instant s
    truth =
        spans_true_over src.zones src.calendars law.zones law.calendars A.zone A.calendar t.zone.there t.calendar.there
        unit A.instant B.instant s e

    -- the second's instant is known in the first's zone
    pub end_known : Known (zone_of src A) B.instant
    end_known = (answered (zone_of src A) (calendar_of src A) unit A.instant B.instant s e).end

    pub measured_enterable : Enterable s
    measured_enterable = entered_from (way_between A.instant B.instant) s truth.keeps.aligned truth.limits
