-- What the calls of a board answer whose slots are there, in the words of its rules; of carrying by its definition.
use Rattle.std.specs.Prelude.{◌≡◌, ℕ, ◌<◌, ◌≤◌, false, List, ◌++◌, length, drop, Ok, Err, Result, ◌*◌, Some}
use Rattle.timebase.specs.declared.fault.Fault.{Fault}
use Rattle.timebase.specs.declared.fault.Fault.TheVariants.{Unreadable, UnknownZone, UnknownCalendar, Blank as NoOffset, BufferSmall}
use Rattle.timebase.specs.declared.span.Span.{Span}
use Rattle.reading.specs.Places.{Refused}
use Rattle.names.specs.Names.{CalendarName}
use Rattle.names.specs.ZoneNames.{IsZoneName}
use Rattle.zone.specs.declared.value.Value.TheVariants.{Blank}
use Rattle.zone.specs.Zones.{is_blank}
use Rattle.local_times.specs.Locals.{second_of}
use Rattle.span_law.specs.declared.unit.Unit.{Unit as Measure}
use Rattle.span_law.specs.Carrying.{carry_answer}
use Rattle.span_law.specs.Law.{TrueSpan}
use Rattle.span_text.specs.Canonical.{span_text}
use Rattle.span_text.specs.Spans.{Answered}
use Rattle.mark_text.specs.declared.mark.Mark.{Mark}
use Rattle.mark_text.specs.Marks.{Lowest}
use Rattle.mark_text.specs.Meanings.{Says}
use Rattle.mark_text.specs.Refusals.{NoneBears, Refused as RefusedText}
use Rattle.mark_text.specs.Shown.{TextOf}
use Rattle.board_law.specs.Boards.{Sources, State, mark_slots, span_slots, mark_at, span_at, marks_there, zone_of, calendar_of}
use Rattle.board_law.specs.Texts.{Listing}

module _ (src : Sources) where
  -- placing the mark that a text says, or what the text is refused by
  abbrev pub Placed : List ℕ → Result Mark Fault → Type 0
  Placed text (Ok m) = Says src.zones src.calendars text m
  Placed text (Err e) = RefusedText src.zones src.calendars text e

  -- measuring from the mark A to the mark B: a span that is true of them, or refused by 11 where A's zone is blank at B's instant
  pub data MeasuredTo (unit : Measure) (A B : Mark) : Result Span Fault → Type 0 where
    measures : (s : Span) → TrueSpan (zone_of src A) (calendar_of src A) unit A.instant B.instant s → MeasuredTo unit A B (Ok s)
    blank : (cause depth : ℕ) → zone_of src A (second_of B.instant) ≡ Blank cause depth → MeasuredTo unit A B (Err (NoOffset cause depth))

  -- carrying the mark A by a span: its zone and its calendar stay, and in them its instant is carried, or the carry is refused
  pub data CarriedBy (A : Mark) (s : Span) : Result Mark Fault → Type 0 where
    carries : (m : Mark) → m.zone ≡ A.zone → m.calendar ≡ A.calendar →
        carry_answer (zone_of src A) (calendar_of src A) A.instant s ≡ Ok m.instant → CarriedBy A s (Ok m)
    refuses : (e : Fault) → carry_answer (zone_of src A) (calendar_of src A) A.instant s ≡ Err e → CarriedBy A s (Err e)

  -- rezoning the mark A by a name: its instant and its calendar stay, and its zone is the first that bears the name, which has an offset
  -- there; refused by 3 where the name is out of form, by 6 where no zone bears it, and by 11 where that zone is blank there
  pub data Rezoned (A : Mark) (name : List ℕ) : Result Mark Fault → Type 0 where
    rezones : (m : Mark) → m.instant ≡ A.instant → m.calendar ≡ A.calendar → Lowest src.zones.name src.zones.count name m.zone →
        is_blank (zone_of src m (second_of A.instant)) ≡ false → Rezoned A name (Ok m)
    unreadable : (at : ℕ) → Refused IsZoneName name at → Rezoned A name (Err (Unreadable at))
    unknown : IsZoneName name (record {}) → NoneBears src.zones.name src.zones.count name → Rezoned A name (Err (UnknownZone 0))
    blank : (z cause depth : ℕ) → Lowest src.zones.name src.zones.count name z → src.zones.value z (second_of A.instant) ≡ Blank cause depth →
        Rezoned A name (Err (NoOffset cause depth))

  -- recalendaring the mark A by a name: its instant and its zone stay, and its calendar is the first that bears the name; refused by 3
  -- where the name is out of form, and by 7 where no calendar bears it
  pub data Recalendared (A : Mark) (name : List ℕ) : Result Mark Fault → Type 0 where
    recalendars : (m : Mark) → m.instant ≡ A.instant → m.zone ≡ A.zone → Lowest src.calendars.name src.calendars.count name m.calendar →
        Recalendared A name (Ok m)
    unreadable : (at : ℕ) → Refused CalendarName name at → Recalendared A name (Err (Unreadable at))
    unknown : CalendarName name (record {}) → NoneBears src.calendars.name src.calendars.count name →
        Recalendared A name (Err (UnknownCalendar 0))

-- writing a text to a buffer: with less room than is asked for it is refused by 13, and nothing is written; else the text stands at the
-- start, and past it the buffer is as before
pub record WrittenTo (IsText : List ℕ → Type 0) (least : ℕ) (before : List ℕ) (answer : Result ℕ Fault) (buffer : List ℕ) : Type 0 where
  pub small : length before < least → (answer ≡ Err BufferSmall) × (buffer ≡ before)
  pub roomy : least ≤ length before → (t : List ℕ) × IsText t × (answer ≡ Ok (length t)) × (buffer ≡ t ++ drop (length t) before)

-- ── each call, where its slots are on their shelves and those that it reads hold something ──

module _ (src : Sources) (st : State) where
  abbrev pub PlaceAnswers : ℕ → List ℕ → Result Mark Fault → Type 0
  PlaceAnswers n text answer = n < mark_slots st → Placed src text answer

  abbrev pub LiftAnswers : ℕ → Result Mark Fault → Type 0
  LiftAnswers n answer = (A : Mark) → mark_at src st n ≡ Some A → answer ≡ Ok A

  abbrev pub EnterAnswers : ℕ → List ℕ → Result Span Fault → Type 0
  EnterAnswers n text answer = n < span_slots st → Answered text answer

  abbrev pub MeasureAnswers : ℕ → ℕ → Measure → ℕ → Result Span Fault → Type 0
  MeasureAnswers a b unit n answer =
      (A B : Mark) → mark_at src st a ≡ Some A → mark_at src st b ≡ Some B → n < span_slots st → MeasuredTo src unit A B answer

  abbrev pub CarryAnswers : ℕ → ℕ → ℕ → Result Mark Fault → Type 0
  CarryAnswers a n c answer =
      (A : Mark) (s : Span) → mark_at src st a ≡ Some A → span_at st n ≡ Some s → c < mark_slots st → CarriedBy src A s answer

  abbrev pub RezoneAnswers : ℕ → List ℕ → Result Mark Fault → Type 0
  RezoneAnswers n name answer = (A : Mark) → mark_at src st n ≡ Some A → Rezoned src A name answer

  abbrev pub RecalendarAnswers : ℕ → List ℕ → Result Mark Fault → Type 0
  RecalendarAnswers n name answer = (A : Mark) → mark_at src st n ≡ Some A → Recalendared src A name answer

  -- `before` is what the buffer held that a text is written to
  abbrev pub WriteMarkAnswers : ℕ → List ℕ → Result ℕ Fault → List ℕ → Type 0
  WriteMarkAnswers n before answer buffer =
      (A : Mark) → mark_at src st n ≡ Some A → WrittenTo (TextOf src.zones src.calendars A) 96 before answer buffer

  abbrev pub WriteSpanAnswers : ℕ → List ℕ → Result ℕ Fault → List ℕ → Type 0
  WriteSpanAnswers n before answer buffer = (s : Span) → span_at st n ≡ Some s → WrittenTo (λ t. t ≡ span_text s) 96 before answer buffer

  abbrev pub ListAnswers : List ℕ → Result ℕ Fault → List ℕ → Type 0
  ListAnswers before answer buffer = WrittenTo (Listing src st) (100 * marks_there src st) before answer buffer
