-- What accepted calls went by, and what they leave.
use Rattle.std.proofs.Common.{◌≡◌, ℕ, ◌<◌, ℤ, List, Some, None, Ok, Option, Result, sym, ap, ◌∙◌, subst}
use Rattle.timebase.specs.declared.fault.Fault.{Fault}
use Rattle.timebase.specs.declared.span.Span.{Span}
use Rattle.timebase.specs.Spans.{Enterable}
use Rattle.local_times.specs.Chains.{◌>>=◌}
use Rattle.local_times.proofs.Results.{ok_same}
use Rattle.span_law.specs.declared.unit.Unit.{Unit as Measure}
use Rattle.span_law.specs.Carrying.{carry_answer}
use Rattle.span_law.specs.Measuring.{measure_answer}
use Rattle.span_law.proofs.Steps.{none_some, some_same}
use Rattle.span_text.specs.Spans.{read_span}
use Rattle.mark_text.specs.declared.mark.Mark.{Mark}
use Rattle.mark_text.specs.Reading.{read_answer}
use Rattle.mark_text.proofs.Tells.{then_ok}
use Rattle.mark_text.proofs.There.{read_there}
use Rattle.board_law.specs.Boards.{There, Sources, State, mark_slots, span_slots, put_mark, put_span, span_at, mark_at, mark_among, zone_of, calendar_of, on_shelf, filled, zone_named, calendar_named, moved, in_zone, in_calendar, led, span_to, between, placed, lifted, entered, measured, carried, rezoned, recalendared, mark_written, span_written, listed, Call, place, lift, enter, measure, carry, rezone, recalendar, write_mark, write_span, list_marks, after}
use Rattle.board_law.specs.Runs.{Lawful}
use Rattle.board_law.proofs.Checks.{then_is, three, on_shelf_tells, on_shelf_is, filled_tells}
use Rattle.board_law.proofs.Slots.{on_it}
use Rattle.board_law.proofs.There.{span_in_slot, read_enterable, mark_in_slot, rezoned_there, recalendared_there, carried_there, measured_enterable}

module _ (src : Sources) where
  -- a slot that is read is on the shelf
  pub on_marks : (st : State) (n which : ℕ) (m : Mark) → mark_at src st n ≡ Some m → on_shelf (mark_slots st) n which ≡ Ok tt
  on_marks st n which m e = on_shelf_is (mark_slots st) n which (on_it 256 st.marks n m (mark_in_slot src st n m e).0)

  on_spans : (st : State) (n which : ℕ) (s : Span) → span_at st n ≡ Some s → on_shelf (span_slots st) n which ≡ Ok tt
  on_spans st n which s e = on_shelf_is (span_slots st) n which (on_it 256 st.spans n s (span_in_slot st n s e).0)

  pub mark_filled : (st : State) (n which : ℕ) (m : Mark) → filled (mark_at src st n) which ≡ Ok m → There src m
  mark_filled st n which m e = (mark_in_slot src st n m (filled_tells (mark_at src st n) which m e)).1

  -- ── measuring ──

  -- the marks of two slots between which a span s is
  pub record Between (marks : List (Option Mark)) (a b : ℕ) (unit : Measure) (s : Span) : Type 0 where
    pub A : Mark
    pub B : Mark
    pub first : mark_among src marks a ≡ Some A
    pub second : mark_among src marks b ≡ Some B
    pub answer : measure_answer (zone_of src A) (calendar_of src A) unit A.instant B.instant ≡ Ok s

  pub between_tells : (marks : List (Option Mark)) (a b : ℕ) (unit : Measure) (s : Span) → between src marks a b unit ≡ Ok s → Between marks a b unit s
  between_tells marks a b unit s e =
      let f = then_ok (filled (mark_among src marks a) 0) (span_to src marks b unit) s e in
      let by = λ (B : Mark). measure_answer (zone_of src f.value) (calendar_of src f.value) unit f.value.instant B.instant in
      let g = then_ok (filled (mark_among src marks b) 1) by s f.next in
      record {
        A = f.value;
        B = g.value;
        first = filled_tells (mark_among src marks a) 0 f.value f.was;
        second = filled_tells (mark_among src marks b) 1 g.value g.was;
        answer = g.next;
      }

  -- what a measuring went by that answers s
  pub record Measuring (st : State) (a b n : ℕ) (unit : Measure) (s : Span) : Type 0 where
    pub on : n < span_slots st
    pub ends : Between st.marks a b unit s

  pub measuring : (st : State) (a b n : ℕ) (unit : Measure) (s : Span) → measured src st a b unit n ≡ Ok s → Measuring st a b n unit s
  measuring st a b n unit s e =
      let p = three (on_shelf (mark_slots st) a 0) (on_shelf (mark_slots st) b 1) (on_shelf (span_slots st) n 2) (between src st.marks a b unit) s e in
      record { on = on_shelf_tells (span_slots st) n 2 tt p.2; ends = between_tells st.marks a b unit s p.3 }

  -- what an accepted measuring leaves
  pub record Measured (st next : State) (a b n : ℕ) (unit : Measure) : Type 0 where
    pub s : Span
    pub by : Measuring st a b n unit s
    pub is : next ≡ put_span st n (Some s)

  pub measured_left : (st next : State) (a b n : ℕ) (unit : Measure) → after src st (measure a b unit n) ≡ Ok next →
      Measured st next a b n unit
  unfolding after
  measured_left st next a b n unit e =
      let r = then_ok (measured src st a b unit n) (λ s. Ok (put_span st n (Some s))) next e in
      record { s = r.value; by = measuring st a b n unit r.value r.was; is = sym (ok_same r.next) }

  -- where its slots are there, it answers what measuring between the two marks does
  pub measured_at : (st : State) (a b n : ℕ) (unit : Measure) (A B : Mark) → mark_at src st a ≡ Some A → mark_at src st b ≡ Some B → n < span_slots st →
      measured src st a b unit n ≡ measure_answer (zone_of src A) (calendar_of src A) unit A.instant B.instant
  measured_at st a b n unit A B first second on =
      then_is _ _ tt (on_marks st a 0 A first) ∙ then_is _ _ tt (on_marks st b 1 B second)
      ∙ then_is _ _ tt (on_shelf_is (span_slots st) n 2 on)
      ∙ then_is _ _ A (ap (λ o. filled o 0) first) ∙ then_is _ _ B (ap (λ o. filled o 1) second)

  -- what is answered is put
  pub measure_is : (st : State) (a b n : ℕ) (unit : Measure) (A B : Mark) (s : Span) →
      mark_at src st a ≡ Some A → mark_at src st b ≡ Some B → n < span_slots st →
      measure_answer (zone_of src A) (calendar_of src A) unit A.instant B.instant ≡ Ok s →
      after src st (measure a b unit n) ≡ Ok (put_span st n (Some s))
  unfolding after
  measure_is st a b n unit A B s first second on e =
      then_is _ (λ s. Ok (put_span st n (Some s))) s (measured_at st a b n unit A B first second on ∙ e)

  -- ── carrying ──

  -- where the span in slot n leads from a mark
  abbrev led_by : State → ℕ → Mark → Result Mark Fault
  led_by st n A = filled (span_at st n) 1 >>= led src A

  pub carried_at : (st : State) (a n c : ℕ) (A : Mark) (s : Span) →
      mark_at src st a ≡ Some A → span_at st n ≡ Some s → c < mark_slots st → carried src st a n c ≡ led src A s
  carried_at st a n c A s first span on =
      then_is _ _ tt (on_marks st a 0 A first) ∙ then_is _ _ tt (on_spans st n 1 s span)
      ∙ then_is _ _ tt (on_shelf_is (mark_slots st) c 2 on)
      ∙ then_is _ _ A (ap (λ o. filled o 0) first) ∙ then_is _ _ s (ap (λ o. filled o 1) span)

  pub carried_is : (st : State) (a n c : ℕ) (A : Mark) (s : Span) (i : ℤ) →
      mark_at src st a ≡ Some A → span_at st n ≡ Some s → c < mark_slots st →
      carry_answer (zone_of src A) (calendar_of src A) A.instant s ≡ Ok i → carried src st a n c ≡ Ok (moved A i)
  carried_is st a n c A s i first span on e = carried_at st a n c A s first span on ∙ then_is _ _ i e

  -- where a slot that is read holds a mark, what follows is made of that
  pub reads_at : {R : Type 0} (st : State) (n : ℕ) (A : Mark) (k : Mark → Result R Fault) → mark_at src st n ≡ Some A →
      (on_shelf (mark_slots st) n 0 >>= (λ _. filled (mark_at src st n) 0 >>= k)) ≡ k A
  reads_at st n A k e = then_is _ _ tt (on_marks st n 0 A e) ∙ then_is _ k A (ap (λ o. filled o 0) e)

  pub reads_span_at : {R : Type 0} (st : State) (n : ℕ) (s : Span) (k : Span → Result R Fault) → span_at st n ≡ Some s →
      (on_shelf (span_slots st) n 0 >>= (λ _. filled (span_at st n) 0 >>= k)) ≡ k s
  reads_span_at st n s k e = then_is _ _ tt (on_spans st n 0 s e) ∙ then_is _ k s (ap (λ o. filled o 0) e)

  pub carry_is : (st : State) (a n c : ℕ) (m : Mark) → carried src st a n c ≡ Ok m → after src st (carry a n c) ≡ Ok (put_mark st c (Some m))
  unfolding after
  carry_is st a n c m e = then_is (carried src st a n c) (λ m. Ok (put_mark st c (Some m))) m e

  -- ── what a call answers ──

  -- a mark for slot n, which a text can enter
  pub record MarkFor (st : State) (n : ℕ) (m : Mark) : Type 0 where
    pub on : n < mark_slots st
    pub there : There src m

  pub record SpanFor (st : State) (n : ℕ) (s : Span) : Type 0 where
    pub on : n < span_slots st
    pub there : Enterable s

  pub placed_for : (st : State) (n : ℕ) (text : List ℕ) (m : Mark) → placed src st n text ≡ Ok m → MarkFor st n m
  placed_for st n text m e =
      let p = then_ok (on_shelf (mark_slots st) n 0) (λ _. read_answer src.zones src.calendars text) m e in
      record { on = on_shelf_tells (mark_slots st) n 0 p.value p.was; there = read_there src.zones src.calendars text m p.next }

  pub lifted_for : (st : State) (n : ℕ) (m : Mark) → lifted src st n ≡ Ok m → MarkFor st n m
  lifted_for st n m e =
      let p = then_ok (on_shelf (mark_slots st) n 0) (λ _. filled (mark_at src st n) 0) m e in
      record { on = on_shelf_tells (mark_slots st) n 0 p.value p.was; there = mark_filled st n 0 m p.next }

  pub entered_for : (st : State) (n : ℕ) (text : List ℕ) (s : Span) → entered src st n text ≡ Ok s → SpanFor st n s
  entered_for st n text s e =
      let p = then_ok (on_shelf (span_slots st) n 0) (λ _. read_span text) s e in
      record { on = on_shelf_tells (span_slots st) n 0 p.value p.was; there = read_enterable text s p.next }

  pub measured_for : Lawful src → (st : State) (a b n : ℕ) (unit : Measure) (s : Span) → measured src st a b unit n ≡ Ok s → SpanFor st n s
  measured_for law st a b n unit s e =
      let m = measuring st a b n unit s e in
      record { on = m.on; there = measured_enterable src law m.ends.A m.ends.B unit s (mark_in_slot src st a m.ends.A m.ends.first).1 m.ends.answer }

  pub carried_for : (st : State) (a n c : ℕ) (m : Mark) → carried src st a n c ≡ Ok m → MarkFor st c m
  carried_for st a n c m e =
      let p = three (on_shelf (mark_slots st) a 0) (on_shelf (span_slots st) n 1) (on_shelf (mark_slots st) c 2)
      (filled (mark_at src st a) 0 >>= led_by st n) m e in
      let f = then_ok (filled (mark_at src st a) 0) (led_by st n) m p.3 in
      let g = then_ok (filled (span_at st n) 1) (led src f.value) m f.next in
      record {
        on = on_shelf_tells (mark_slots st) c 2 tt p.2;
        there = carried_there src f.value g.value m (mark_filled st a 0 f.value f.was) g.next;
      }

  -- of what comes of the mark in slot n, for the same slot
  again_for : (st : State) (n : ℕ) (k : Mark → Result Mark Fault) → ((m r : Mark) → There src m → k m ≡ Ok r → There src r) → (r : Mark) →
      (on_shelf (mark_slots st) n 0 >>= (λ _. filled (mark_at src st n) 0 >>= k)) ≡ Ok r → MarkFor st n r
  again_for st n k there r e =
      let p = then_ok (on_shelf (mark_slots st) n 0) (λ _. filled (mark_at src st n) 0 >>= k) r e in
      let f = then_ok (filled (mark_at src st n) 0) k r p.next in
      record {
        on = on_shelf_tells (mark_slots st) n 0 p.value p.was;
        there = there f.value r (mark_filled st n 0 f.value f.was) f.next;
      }

  pub rezoned_for : (st : State) (n : ℕ) (name : List ℕ) (m : Mark) → rezoned src st n name ≡ Ok m → MarkFor st n m
  rezoned_for st n name m e =
      again_for st n (λ m. zone_named src name >>= in_zone src m) (λ m r t f. rezoned_there src m name r t f) m e

  pub recalendared_for : (st : State) (n : ℕ) (name : List ℕ) (m : Mark) → recalendared src st n name ≡ Ok m → MarkFor st n m
  recalendared_for st n name m e =
      again_for st n (λ m. calendar_named src name >>= in_calendar m) (λ m r t f. recalendared_there src m name r t f) m e

  -- ── what a call leaves ──

  -- a call alters nothing; or one slot, in which what it puts can be entered by a text
  pub data Step (st next : State) : Type 0 where
    alters_none : next ≡ st → Step st next
    puts_mark : (n : ℕ) (o : Option Mark) → n < mark_slots st → ((m : Mark) → o ≡ Some m → There src m) →
        next ≡ put_mark st n o → Step st next
    puts_span : (n : ℕ) (o : Option Span) → n < span_slots st → ((s : Span) → o ≡ Some s → Enterable s) →
        next ≡ put_span st n o → Step st next

  -- a call that puts the mark or the span that it answers
  new_mark : (st next : State) (n : ℕ) (r : Result Mark Fault) → ((m : Mark) → r ≡ Ok m → MarkFor st n m) →
      (r >>= λ m. Ok (put_mark st n (Some m))) ≡ Ok next → Step st next
  new_mark st next n r for e =
      let t = then_ok r (λ m. Ok (put_mark st n (Some m))) next e in
      let f = for t.value t.was in
      puts_mark n (Some t.value) f.on (λ x q. subst (There src) (some_same q) f.there) (sym (ok_same t.next))

  new_span : (st next : State) (n : ℕ) (r : Result Span Fault) → ((s : Span) → r ≡ Ok s → SpanFor st n s) →
      (r >>= λ s. Ok (put_span st n (Some s))) ≡ Ok next → Step st next
  new_span st next n r for e =
      let t = then_ok r (λ s. Ok (put_span st n (Some s))) next e in
      let f = for t.value t.was in
      puts_span n (Some t.value) f.on (λ x q. subst Enterable (some_same q) f.there) (sym (ok_same t.next))

  -- a call that only reads
  reads_only : {A : Type 0} (st next : State) (r : Result A Fault) → (r >>= λ _. Ok st) ≡ Ok next → Step st next
  reads_only st next r e = alters_none (sym (ok_same (then_ok r (λ _. Ok st) next e).next))

  pub steps : Lawful src → (st next : State) (call : Call) → after src st call ≡ Ok next → Step st next
  unfolding after
  steps law st next (place n text) e = new_mark st next n (placed src st n text) (placed_for st n text) e
  steps law st next (lift n) e =
      let r = then_ok (lifted src st n) (λ _. Ok (put_mark st n None)) next e in
      puts_mark n None (lifted_for st n r.value r.was).on (λ m f. none_some f) (sym (ok_same r.next))
  steps law st next (enter n text) e = new_span st next n (entered src st n text) (entered_for st n text) e
  steps law st next (measure a b unit n) e = new_span st next n (measured src st a b unit n) (measured_for law st a b n unit) e
  steps law st next (carry a n c) e = new_mark st next c (carried src st a n c) (carried_for st a n c) e
  steps law st next (rezone n name) e = new_mark st next n (rezoned src st n name) (rezoned_for st n name) e
  steps law st next (recalendar n name) e = new_mark st next n (recalendared src st n name) (recalendared_for st n name) e
  steps law st next (write_mark n room) e = reads_only st next (mark_written src st n room) e
  steps law st next (write_span n room) e = reads_only st next (span_written src st n room) e
  steps law st next (list_marks room) e = reads_only st next (listed src st room) e
