-- The law over runs of calls: a measured span stays true of its two marks, whatever else is done on the board.
use Rattle.std.specs.Prelude.{◌≡◌, ◌⊎◌, ℕ, ◌<◌, false, List, [], ◌∷◌, ◌++◌, drop, Some, Ok, Err, Option, Result}
use Rattle.timebase.specs.declared.fault.Fault.{Fault}
use Rattle.timebase.specs.declared.span.Span.{Span}
use Rattle.timebase.specs.Faults.{told}
use Rattle.timebase.specs.Spans.{Enterable}
use Rattle.zone.specs.Zones.{ZonesLaws, is_blank}
use Rattle.calendar.specs.Calendars.{CalendarsLaws}
use Rattle.local_times.specs.Locals.{second_of}
use Rattle.span_law.specs.declared.unit.Unit.{Unit as Measure}
use Rattle.span_law.specs.Law.{TrueSpan, Beyond, Smaller}
use Rattle.mark_text.specs.declared.mark.Mark.{Mark}
use Rattle.shelf.specs.Laws.{OnlySlotChanged}
use Rattle.shelf.specs.Slots.{slot_at}
use Rattle.board_law.specs.Boards.{Sources, State, mark_slots, span_slots, new_board, span_at, mark_at, zone_of, calendar_of, There, moved, Call, measure, carry, after, made, run}

-- what every zone source and every calendar source shows
pub record Lawful (src : Sources) : Type 0 where
  pub zones : ZonesLaws src.zones
  pub calendars : CalendarsLaws src.calendars

module _ (src : Sources) where
  -- two marks and a span stand in their slots
  pub record Holds (st : State) (a b n : ℕ) (A B : Mark) (s : Span) : Type 0 where
    pub first : mark_at src st a ≡ Some A
    pub second : mark_at src st b ≡ Some B
    pub span : span_at st n ≡ Some s

  -- one of the calls was an accepted measuring from A to B, and it left s
  pub record MeasuredIn (start : State) (calls : List Call) (a b n : ℕ) (unit : Measure) (A B : Mark) (s : Span) : Type 0 where
    pub before : List Call
    pub later : List Call
    pub next : State
    pub order : calls ≡ before ++ (measure a b unit n ∷ later)
    pub accepted : after src (run src start before) (measure a b unit n) ≡ Ok next
    pub left : Holds next a b n A B s

  -- carrying is accepted, its slot then holds the mark m, and nothing else has changed
  pub record Arrives (st : State) (a n c : ℕ) (m : Mark) : Type 0 where
    pub next : State
    pub accepted : after src st (carry a n c) ≡ Ok next
    pub holds : mark_at src next c ≡ Some m
    pub marks : OnlySlotChanged 256 st.marks c (Some m) next.marks
    pub spans : next.spans ≡ st.spans

  -- what a measured span keeps on a board: carried from the first mark's slot into any slot, it arrives at the second's instant, in the
  -- first's zone and calendar; and it is true of the two instants
  pub record TrueOn (st : State) (a b n : ℕ) (unit : Measure) (A B : Mark) (s : Span) : Type 0 where
    pub arrives : (c : ℕ) → c < mark_slots st → Arrives st a n c (moved A B.instant)
    pub is_true : TrueSpan (zone_of src A) (calendar_of src A) unit A.instant B.instant s

  -- what a carry answers, for slot c: by a span that some call measured and that stands in its slot, as do the two marks, it leads from
  -- the first to the second's instant
  abbrev pub LeadsTrue : State → ℕ → ℕ → ℕ → Result Mark Fault → Type 0
  LeadsTrue st a n c answer = (start : State) (calls : List Call) (b : ℕ) (unit : Measure) (A B : Mark) (s : Span) →
      MeasuredIn start calls a b n unit A B s → Holds st a b n A B s → c < mark_slots st → answer ≡ Ok (moved A B.instant)

  -- in the slots of a measuring stand both marks, and a span that is true of them
  pub record TrueHere (st : State) (a b n : ℕ) (unit : Measure) (s : Span) : Type 0 where
    pub A : Mark
    pub B : Mark
    pub holds : Holds st a b n A B s
    pub is_true : TrueOn st a b n unit A B s

  -- whatever stands in a slot can be entered by a text
  pub record AllThere (st : State) : Type 0 where
    pub marks : (n : ℕ) (m : Mark) → slot_at 256 st.marks n ≡ Some m → There src m
    pub spans : (n : ℕ) (s : Span) → slot_at 256 st.spans n ≡ Some s → Enterable s

  -- what holds after a list of calls
  pub record RunKeeps (start : State) (calls : List Call) (end : State) : Type 0 where
    -- a span that one of the calls measured is true as long as the two marks and the span stand in their slots
    pub stays : (a b n : ℕ) (unit : Measure) (A B : Mark) (s : Span) → MeasuredIn start calls a b n unit A B s → Holds end a b n A B s → TrueOn end a b n unit A B s
    -- nothing comes to stand that no text can enter
    pub there : AllThere start → AllThere end
    -- as many slots are in use as before, and the memory past them is as before
    pub mark_slots_stay : mark_slots end ≡ mark_slots start
    pub span_slots_stay : span_slots end ≡ span_slots start
    pub marks_past_cap : drop 256 end.marks ≡ drop 256 start.marks
    pub spans_past_cap : drop 256 end.spans ≡ drop 256 start.spans

  -- the same after calls that go on from a state, from whatever start earlier calls led to it
  abbrev pub KeepsOn : State → List Call → State → Type 0
  KeepsOn now calls end = (start : State) (earlier : List Call) → run src start earlier ≡ now → RunKeeps start (earlier ++ calls) end

  -- a call leaves in the slots of two marks and of a span what they held
  pub record LeavesBe (a b n : ℕ) (before after : State) : Type 0 where
    pub first : slot_at 256 after.marks a ≡ slot_at 256 before.marks a
    pub second : slot_at 256 after.marks b ≡ slot_at 256 before.marks b
    pub span : slot_at 256 after.spans n ≡ slot_at 256 before.spans n

  -- of the calls of a list, none that is accepted alters one of the three slots
  pub data Unaltered (a b n : ℕ) : State → List Call → Type 0 where
    none : (st : State) → Unaltered a b n st []
    one_more : (st : State) (call : Call) (calls : List Call) →
        ((next : State) → after src st call ≡ Ok next → LeavesBe a b n st next) → Unaltered a b n (made src st call) calls →
        Unaltered a b n st (call ∷ calls)

  pub record SpansStayTrue : Type 0 where
    -- on any board, made new or holding whatever else, after any calls, what an accepted measuring leaves is true until an accepted call
    -- alters one of its slots
    pub until : (start : State) (before later : List Call) (next : State) (a b n : ℕ) (unit : Measure) →
        after src (run src start before) (measure a b unit n) ≡ Ok next → Unaltered a b n next later →
        (A : Mark) × (B : Mark) × (s : Span) × Holds next a b n A B s × TrueOn (run src next later) a b n unit A B s
    -- measuring is accepted wherever its slots are on the shelf, its marks are there, and the first's zone has an offset at the second's
    -- instant
    pub accepts : (st : State) (a b n : ℕ) (unit : Measure) (A B : Mark) → mark_at src st a ≡ Some A → mark_at src st b ≡ Some B →
        n < span_slots st → is_blank (zone_of src A (second_of B.instant)) ≡ false → (next : State) × (after src st (measure a b unit n) ≡ Ok next)
    -- it is refused by three numbers only
    pub refuses : (st : State) (a b n : ℕ) (unit : Measure) (e : Fault) → after src st (measure a b unit n) ≡ Err e →
        ((told e).number ≡ 1) ⊎ (((told e).number ≡ 2) ⊎ ((told e).number ≡ 11))
    -- accepted, it leaves a span between the marks of its slots
    pub leaves : (st next : State) (a b n : ℕ) (unit : Measure) → after src st (measure a b unit n) ≡ Ok next →
        (A : Mark) × (B : Mark) × (s : Span) × Holds next a b n A B s
    -- of two marks on one side of a first, measured by one unit in any runs, the farther has the larger span
    pub farther : (start start' : State) (calls calls' : List Call) (a b n a' e n' : ℕ) (unit : Measure) (A B E : Mark) (s t : Span) →
        MeasuredIn start calls a b n unit A B s → MeasuredIn start' calls' a' e n' unit A E t → Beyond A.instant B.instant E.instant → Smaller s t
    pub keeps : (start : State) (calls : List Call) → RunKeeps start calls (run src start calls)
    -- on a board made new, whatever is done, every filled slot can be entered by a text
    pub there : (marks : List (Option Mark)) (spans : List (Option Span)) (calls : List Call) → AllThere (run src (new_board marks spans) calls)

-- the law over all sources
abbrev pub SpansAlwaysStayTrue : Type 0
SpansAlwaysStayTrue = (src : Sources) → Lawful src → SpansStayTrue src
