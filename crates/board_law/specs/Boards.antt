-- A board: what its slots hold, the calls on it, and what each answers and leaves.
use Rattle.std.specs.Prelude.{ℕ, ◌+◌, ◌*◌, Bool, true, false, cond, List, [], ◌∷◌, Some, None, Ok, Err, Option, Result, is_ok, nat_lt, ok_or, ℤ}
use Rattle.timebase.specs.declared.fault.Fault.{Fault}
use Rattle.timebase.specs.declared.fault.Fault.TheVariants.{SlotOff, SlotEmpty, UnknownZone, UnknownCalendar, BufferSmall}
use Rattle.timebase.specs.declared.span.Span.{Span}
use Rattle.timebase.specs.Spans.{wrong_part}
use Rattle.names.specs.Scanning.{scan_calendar_name}
use Rattle.names.specs.ZoneScanning.{scan_zone_name}
use Rattle.zone.specs.Zones.{Zone, Zones}
use Rattle.calendar.specs.Calendars.{Calendar, Calendars}
use Rattle.local_times.specs.Chains.{◌>>=◌}
use Rattle.local_times.specs.Locals.{arriving}
use Rattle.span_law.specs.declared.unit.Unit.{Unit as Measure}
use Rattle.span_law.specs.Carrying.{carry_answer}
use Rattle.span_law.specs.Measuring.{measure_answer}
use Rattle.span_text.specs.Spans.{read_span}
use Rattle.mark_text.specs.declared.mark.Mark.{Mark}
use Rattle.mark_text.specs.Marks.{IsThere, mark_there, number_of}
use Rattle.mark_text.specs.Reading.{or_unreadable, read_answer}
use Rattle.shelf.specs.Slots.{in_use, slot_count, slot_at, written, emptied}

-- the zones and the calendars that a board stands on
pub record Sources : Type 0 where
  pub zones : Zones
  pub calendars : Calendars

-- all that the memory lent for marks and for spans holds
pub record State : Type 0 where
  pub marks : List (Option Mark)
  pub spans : List (Option Span)

-- a shelf of marks or of spans uses at most 256 slots
abbrev pub mark_slots : State → ℕ
mark_slots st = slot_count 256 st.marks

abbrev pub span_slots : State → ℕ
span_slots st = slot_count 256 st.spans

-- a board made new over lent memory
abbrev pub new_board : List (Option Mark) → List (Option Span) → State
new_board marks spans = record { marks = emptied 256 marks; spans = emptied 256 spans }

abbrev pub put_mark : State → ℕ → Option Mark → State
put_mark st n o = record { marks = written 256 st.marks n o; spans = st.spans }

abbrev pub put_span : State → ℕ → Option Span → State
put_span st n o = record { marks = st.marks; spans = written 256 st.spans n o }

-- ── what is there ──

-- what fails a test counts as nothing
abbrev pub kept : {A : Type 0} → (A → Bool) → Option A → Option A
kept there (Some a) = cond (there a) (Some a) None
kept there None = None

-- a mark that a text can enter
abbrev pub There : Sources → Mark → Type 0
There src m = IsThere src.zones src.calendars m

-- the same as a test
abbrev pub is_there : Sources → Mark → Bool
is_there src m = mark_there src.zones src.calendars m

-- a span that a text can enter
abbrev pub span_there : Span → Bool
span_there s = elim (wrong_part s) [ Some part ↦ false | None ↦ true ]

-- what a slot holds; what no text can enter counts as empty
abbrev pub span_at : State → ℕ → Option Span
span_at st n = kept span_there (slot_at 256 st.spans n)

abbrev pub mark_among : Sources → List (Option Mark) → ℕ → Option Mark
mark_among src marks n = kept (is_there src) (slot_at 256 marks n)

abbrev pub mark_at : Sources → State → ℕ → Option Mark
mark_at src st n = mark_among src st.marks n

-- the zone and the calendar of a mark
abbrev pub zone_of : Sources → Mark → Zone
zone_of src m = src.zones.value m.zone

abbrev pub calendar_of : Sources → Mark → Calendar
calendar_of src m = src.calendars.calendar m.calendar

-- ── checks ──

-- slot n, which is the call's slot number `which`, is on a shelf of so many slots
abbrev pub on_shelf : ℕ → ℕ → ℕ → Result (Unit {0}) Fault
on_shelf slots n which = cond (nat_lt n slots) (Ok tt) (Err (SlotOff which))

-- what a slot that is read holds
abbrev pub filled : {A : Type 0} → Option A → ℕ → Result A Fault
filled o which = ok_or o (SlotEmpty which)

-- a buffer has the room that is asked for
abbrev pub roomy : ℕ → ℕ → Result (Unit {0}) Fault
roomy least room = cond (nat_lt room least) (Err BufferSmall) (Ok tt)

-- the number of the zone that bears a name; a name is in form or not at any length
abbrev pub zone_named : Sources → List ℕ → Result ℕ Fault
zone_named src name = or_unreadable (scan_zone_name name) >>= λ _. ok_or (number_of src.zones.name src.zones.count name) (UnknownZone 0)

abbrev pub calendar_named : Sources → List ℕ → Result ℕ Fault
calendar_named src name =
    or_unreadable (scan_calendar_name name) >>= λ _. ok_or (number_of src.calendars.name src.calendars.count name) (UnknownCalendar 0)

-- ── what the calls answer ──

-- the same mark at another instant, and in another calendar
abbrev pub moved : Mark → ℤ → Mark
moved m i = record { instant = i; zone = m.zone; calendar = m.calendar }

abbrev pub in_calendar : Mark → ℕ → Result Mark Fault
in_calendar m k = Ok (record { instant = m.instant; zone = m.zone; calendar = k })

module _ (src : Sources) where
  -- the same mark in another zone, which needs an offset at its instant
  abbrev pub in_zone : Mark → ℕ → Result Mark Fault
  in_zone m z = arriving (src.zones.value z) m.instant >>= λ _. Ok (record { instant = m.instant; zone = z; calendar = m.calendar })

  -- where a span leads from a mark
  abbrev pub led : Mark → Span → Result Mark Fault
  led m s = carry_answer (zone_of src m) (calendar_of src m) m.instant s >>= λ i. Ok (moved m i)

module _ (src : Sources) (marks : List (Option Mark)) where
  -- the span from a mark to that in slot b, over the first's zone and calendar
  abbrev pub span_to : ℕ → Measure → Mark → Result Span Fault
  span_to b unit A = filled (mark_among src marks b) 1 >>= λ B. measure_answer (zone_of src A) (calendar_of src A) unit A.instant B.instant

  -- the span from the mark in slot a to that in slot b
  abbrev pub between : ℕ → ℕ → Measure → Result Span Fault
  between a b unit = filled (mark_among src marks a) 0 >>= span_to b unit

module _ (src : Sources) (st : State) where
  -- a text says a mark for slot n
  abbrev pub placed : ℕ → List ℕ → Result Mark Fault
  placed n text = on_shelf (mark_slots st) n 0 >>= λ _. read_answer src.zones src.calendars text

  -- the mark that is taken from slot n
  abbrev pub lifted : ℕ → Result Mark Fault
  lifted n = on_shelf (mark_slots st) n 0 >>= λ _. filled (mark_at src st n) 0

  -- a text says a span for slot n
  abbrev pub entered : ℕ → List ℕ → Result Span Fault
  entered n text = on_shelf (span_slots st) n 0 >>= λ _. read_span text

  -- the span from the mark in slot a to that in slot b, for slot n
  abbrev pub measured : ℕ → ℕ → Measure → ℕ → Result Span Fault
  measured a b unit n =
      on_shelf (mark_slots st) a 0 >>= λ _. on_shelf (mark_slots st) b 1 >>= λ _. on_shelf (span_slots st) n 2 >>= λ _.
      between src st.marks a b unit

  -- the mark to which the mark in slot a is carried by the span in slot n, for slot c
  abbrev pub carried : ℕ → ℕ → ℕ → Result Mark Fault
  carried a n c =
      on_shelf (mark_slots st) a 0 >>= λ _. on_shelf (span_slots st) n 1 >>= λ _. on_shelf (mark_slots st) c 2 >>= λ _.
      filled (mark_at src st a) 0 >>= λ A. filled (span_at st n) 1 >>= led src A

  -- the mark in slot n at its instant in the zone that bears a name
  abbrev pub rezoned : ℕ → List ℕ → Result Mark Fault
  rezoned n name = on_shelf (mark_slots st) n 0 >>= λ _. filled (mark_at src st n) 0 >>= λ A. zone_named src name >>= in_zone src A

  -- the mark in slot n in the calendar that bears a name
  abbrev pub recalendared : ℕ → List ℕ → Result Mark Fault
  recalendared n name = on_shelf (mark_slots st) n 0 >>= λ _. filled (mark_at src st n) 0 >>= λ A. calendar_named src name >>= in_calendar A

  -- the mark or the span in slot n whose text is written to a buffer of a length
  abbrev pub mark_written : ℕ → ℕ → Result Mark Fault
  mark_written n room = on_shelf (mark_slots st) n 0 >>= λ _. filled (mark_at src st n) 0 >>= λ A. roomy 96 room >>= λ _. Ok A

  abbrev pub span_written : ℕ → ℕ → Result Span Fault
  span_written n room = on_shelf (span_slots st) n 0 >>= λ _. filled (span_at st n) 0 >>= λ s. roomy 96 room >>= λ _. Ok s

-- how many slots hold a mark that is there
abbrev pub one_if : {A : Type 0} → Option A → ℕ
one_if (Some a) = 1
one_if None = 0

abbrev pub marks_in : Sources → List (Option Mark) → ℕ
marks_in src [] = 0
marks_in src (o ∷ os) = one_if (kept (is_there src) o) + marks_in src os

abbrev pub marks_there : Sources → State → ℕ
marks_there src st = marks_in src (in_use 256 st.marks)

-- a list has 100 bytes for each
abbrev pub listed : Sources → State → ℕ → Result (Unit {0}) Fault
listed src st room = roomy (100 * marks_there src st) room

-- ── calls ──

-- the state once a mark, or a span, that is answered stands in slot n
abbrev pub with_mark : State → ℕ → Result Mark Fault → Result State Fault
with_mark st n answer = answer >>= λ m. Ok (put_mark st n (Some m))

abbrev pub with_span : State → ℕ → Result Span Fault → Result State Fault
with_span st n answer = answer >>= λ s. Ok (put_span st n (Some s))

-- `room` is the length of the buffer that a text is written to
pub data Call : Type 0 where
  place : (slot : ℕ) (text : List ℕ) → Call
  lift : (slot : ℕ) → Call
  enter : (slot : ℕ) (text : List ℕ) → Call
  measure : (first second : ℕ) (unit : Measure) (span : ℕ) → Call
  carry : (first span target : ℕ) → Call
  rezone : (slot : ℕ) (name : List ℕ) → Call
  recalendar : (slot : ℕ) (name : List ℕ) → Call
  write_mark : (slot room : ℕ) → Call
  write_span : (slot room : ℕ) → Call
  list_marks : (room : ℕ) → Call

module _ (src : Sources) where
  -- the state after a call, or why it is refused
  unfoldable pub after : State → Call → Result State Fault
  after st (place n text) = with_mark st n (placed src st n text)
  after st (lift n) = lifted src st n >>= λ _. Ok (put_mark st n None)
  after st (enter n text) = with_span st n (entered src st n text)
  after st (measure a b unit n) = with_span st n (measured src st a b unit n)
  after st (carry a n c) = with_mark st c (carried src st a n c)
  after st (rezone n name) = with_mark st n (rezoned src st n name)
  after st (recalendar n name) = with_mark st n (recalendared src st n name)
  after st (write_mark n room) = mark_written src st n room >>= λ _. Ok st
  after st (write_span n room) = span_written src st n room >>= λ _. Ok st
  after st (list_marks room) = listed src st room >>= λ _. Ok st

-- a refused call alters nothing
abbrev pub or_same : State → Result State Fault → State
or_same st (Ok next) = next
or_same st (Err e) = st

module _ (src : Sources) where
  -- the state after a call, accepted or refused
  abbrev pub made : State → Call → State
  made st call = or_same st (after src st call)

  -- the state after a list of calls
  unfoldable pub run : State → List Call → State
  run st [] = st
  run st (call ∷ calls) = run (made st call) calls

  -- how many calls of a list are accepted
  unfoldable pub accepted : State → List Call → ℕ
  accepted st [] = 0
  accepted st (call ∷ calls) = cond (is_ok (after src st call)) 1 0 + accepted (made st call) calls
