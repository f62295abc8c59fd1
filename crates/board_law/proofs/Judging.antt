-- By which of its slots a call is refused.
use Rattle.std.proofs.Common.{◌≡◌, ℕ, zero, suc, ◌<◌, ◌≤◌, Bool, true, false, cond, ltb, List, [], ◌∷◌, ℤ, ◌+ℤ◌, ◌*ℤ◌, ◌*◌, pos, Some, None, Ok, Err, Option, Result, IfErr, ok_or, int_lt, sym, refl, ap, ◌∙◌, subst, ⊎_elim, ◌↔◌, arith}
use Rattle.std.proofs.lemmas.Bool.{cases_lt, le-ltb}
use Rattle.timebase.specs.declared.fault.Fault.{Fault}
use Rattle.timebase.specs.declared.fault.Fault.TheVariants.{SlotOff, SlotEmpty, Unreadable, UnknownZone, UnknownCalendar, PastLimit, NoSuchDate, InstantOut, Blank as NoOffset, BufferSmall}
use Rattle.timebase.specs.Faults.{told}
use Rattle.timebase.specs.Instants.{is_instant}
use Rattle.timebase.specs.declared.span.Span.{Span}
use Rattle.reading.specs.declared.Misread.{Misread}
use Rattle.names.specs.Scanning.{scan_calendar_name}
use Rattle.names.specs.ZoneScanning.{scan_zone_name}
use Rattle.zone.specs.declared.value.Value.{Value}
use Rattle.zone.specs.declared.value.Value.TheVariants.{Offset, Blank}
use Rattle.zone.specs.Zones.{Zone, is_blank, Zones}
use Rattle.calendar.specs.Calendars.{Calendar, Calendars}
use Rattle.local_times.specs.Chains.{◌>>=◌}
use Rattle.local_times.specs.Locals.{second_of, micros_of, local_day, clock_second, count_of, arriving, known_at}
use Rattle.local_times.specs.Meeting.{fault_of, first_near, is, known, matched, skipped, meeting, local_at}
use Rattle.local_times.proofs.Results.{err_ok, err_same, refused_same}
use Rattle.span_law.specs.declared.unit.Unit.{Unit as Measure}
use Rattle.span_law.specs.Carrying.{met_on, natural, no_date_parts, carried as carried_by, carry_answer}
use Rattle.span_law.specs.Measuring.{measure_answer}
use Rattle.span_law.specs.Stepping.{day_on}
use Rattle.span_law.proofs.Steps.{none_some}
use Rattle.span_text.specs.Spans.{read_span, Answered}
use Rattle.span_text.specs.Spans.Answered.{reads, unreadable, past}
use Rattle.span_text.proofs.Answering.{answered as text_answered}
use Rattle.mark_text.specs.declared.mark.Mark.{Mark}
use Rattle.mark_text.specs.Marks.{number_of}
use Rattle.mark_text.specs.Reading.{or_unreadable, read_answer}
use Rattle.board_law.specs.Boards.{Sources, State, mark_slots, span_slots, mark_at, span_at, zone_of, calendar_of, on_shelf, filled, roomy, zone_named, calendar_named, in_zone, in_calendar, led, lifted, entered, measured, carried, rezoned, recalendared, mark_written, span_written, listed, marks_there, Call, lift, enter, measure, carry, rezone, recalendar, write_mark, write_span, list_marks, place, placed, put_mark, put_span, after}
use Rattle.mark_text.specs.Refusals.{Refused}
use Rattle.mark_text.specs.Refusals.Refused.{form as said_form, number as said_number, tag as said_tag, zone as said_zone, calendar as said_calendar, range as said_range, blank as said_blank, denied as said_denied}
use Rattle.mark_text.proofs.Judging.{refused as text_refused}
use Rattle.board_law.specs.Judging.{Use, uses, FirstWith, NoneWith, Off, Empty, Judged}
use Rattle.board_law.specs.Judging.Use.{reads_mark, reads_span, fills_mark, fills_span}
use Rattle.board_law.proofs.Checks.{then_is, then_refused, on_shelf_is}

-- ── the first of a list ──

module _ {A : Type 0} (P : A → Type 0) where
  first_one : (xs : List A) (j k : ℕ) → FirstWith P xs j → FirstWith P xs k → j ≡ k
  first_one [] j k f g = absurd f
  first_one (x ∷ xs) zero zero f g = refl
  first_one (x ∷ xs) zero (suc k) f g = absurd (g.0 f)
  first_one (x ∷ xs) (suc j) zero f g = absurd (f.0 g)
  first_one (x ∷ xs) (suc j) (suc k) f g = ap suc (first_one xs j k f.1 g.1)

  first_none : (xs : List A) (k : ℕ) → FirstWith P xs k → NoneWith P xs → ⊥
  first_none [] k f g = f
  first_none (x ∷ xs) zero f g = g.0 f
  first_none (x ∷ xs) (suc k) f g = first_none xs k f.1 g.1

-- ── refusals that tell no slot ──

-- a refusal that comes after those of slots
abbrev pub Late : Fault → Type 0
Late x = 3 ≤ (told x).number

late_as : {x y : Fault} → x ≡ y → Late x → Late y
late_as e l = subst Late e l

ok_late : {A : Type 0} {a : A} (x : Fault) → ◌≡◌ {A = Result A Fault} (Ok a) (Err x) → Late x
ok_late x e = err_ok (sym e)

err_late : {A : Type 0} (x y : Fault) → Late x → ◌≡◌ {A = Result A Fault} (Err x) (Err y) → Late y
err_late x y l e = late_as (err_same e) l

found_late : {A : Type 0} (o : Option A) (x y : Fault) → Late x → ok_or o x ≡ Err y → Late y
found_late (Some a) x y l e = ok_late y e
found_late None x y l e = err_late x y l e

form_late : {V : Type 0} (r : Result V Misread) (x : Fault) → or_unreadable r ≡ Err x → Late x
form_late (Ok v) x e = ok_late x e
form_late (Err m) x e = err_late (Unreadable m.at) x (omega arith) e

value_late : (i : ℤ) (v : Value) (x : Fault) → known_at i v ≡ Err x → Late x
value_late i (Offset o) x e = ok_late x e
value_late i (Blank cause depth) x e = err_late (NoOffset cause depth) x (omega arith) e

arriving_late : (zone : Zone) (i : ℤ) (x : Fault) → arriving zone i ≡ Err x → Late x
arriving_late zone i x e = by (is_instant i) e
  where
    by : (t : Bool) → cond t (known_at i (zone (second_of i))) (Err InstantOut) ≡ Err x → Late x
    by true f = value_late i (zone (second_of i)) x f
    by false f = err_late InstantOut x (omega arith) f

fault_late : (v : Value) → Late (fault_of v)
fault_late (Offset o) = omega arith
fault_late (Blank cause depth) = omega arith

meeting_late : (zone : Zone) (l : ℤ) (x : Fault) → meeting zone l ≡ Err x → Late x
unfolding meeting
meeting_late zone l x e = by_known (first_near l (λ s. is_blank (zone s))) e
  where
    by_skipped : (o : Option ℤ) → skipped zone l o ≡ Err x → Late x
    by_skipped (Some j) f = ok_late x f
    by_skipped None f = ok_late x f

    by_matched : (o : Option ℤ) → matched zone l o ≡ Err x → Late x
    by_matched (Some i) f = ok_late x f
    by_matched None f = by_skipped (first_near l (λ j. int_lt l (local_at zone j))) f

    by_known : (o : Option ℤ) → known zone l o ≡ Err x → Late x
    by_known (Some s) f = err_late (fault_of (zone s)) x (fault_late (zone s)) f
    by_known None f = by_matched (first_near l (λ i. is (local_at zone i) l)) f

met_late : (zone : Zone) (i day : ℤ) (x : Fault) → met_on zone i day ≡ Err x → Late x
met_late zone i day x =
    then_refused Late (meeting zone (count_of day (clock_second zone i))) (λ s. Ok ((s *ℤ pos 1000000) +ℤ pos (micros_of i))) x
    (meeting_late zone (count_of day (clock_second zone i))) (λ s _ f. ok_late x f)

measure_late : (zone : Zone) (c : Calendar) (unit : Measure) (i j : ℤ) (x : Fault) → measure_answer zone c unit i j ≡ Err x → Late x
measure_late zone c unit i j x =
    then_refused Late (arriving zone i) _ x (arriving_late zone i) (λ _ _.
    then_refused Late (arriving zone j) _ x (arriving_late zone j) (λ _ _.
    then_refused Late (known_at j (zone (second_of j))) _ x (value_late j (zone (second_of j))) (λ _ _ f. ok_late x f)))

carry_late : (zone : Zone) (c : Calendar) (i : ℤ) (s : Span) (x : Fault) → carry_answer zone c i s ≡ Err x → Late x
carry_late zone c i s x = then_refused Late (arriving zone i) (λ _. carried_by zone c i s) x (arriving_late zone i) (λ _ _ e. by (no_date_parts s) e)
  where
    to_day : Option ℤ
    to_day = day_on c (natural (local_day zone i)) s

    by : (t : Bool) → cond t (arriving zone (i +ℤ s.time)) (ok_or to_day NoSuchDate >>= λ day. met_on zone i day >>= λ met. arriving zone (met +ℤ s.time)) ≡ Err x → Late x
    by true f = arriving_late zone (i +ℤ s.time) x f
    by false f =
        then_refused Late (ok_or to_day NoSuchDate) (λ day. met_on zone i day >>= λ met. arriving zone (met +ℤ s.time)) x
        (λ y. found_late to_day NoSuchDate y (omega arith)) (λ day _.
        then_refused Late (met_on zone i day) (λ met. arriving zone (met +ℤ s.time)) x (met_late zone i day) (λ met _. arriving_late zone (met +ℤ s.time) x)) f

roomy_late : (least room : ℕ) (x : Fault) → roomy least room ≡ Err x → Late x
roomy_late least room x e = by (ltb room least) e
  where
    by : (t : Bool) → ◌≡◌ {A = Result (Unit {0}) Fault} (cond t (Err BufferSmall) (Ok tt)) (Err x) → Late x
    by true f = err_late BufferSmall x (omega arith) f
    by false f = ok_late x f

span_text_late : (t : List ℕ) (x : Fault) → read_span t ≡ Err x → Late x
span_text_late t x e = by (read_span t) (text_answered t) e
  where
    by : (r : Result Span Fault) → Answered t r → r ≡ Err x → Late x
    by r (reads text within enterable) f = ok_late x f
    by r (unreadable {place} a) f = err_late (Unreadable place) x (omega arith) f
    by r (past {part} a b) f = err_late (PastLimit part) x (omega arith) f

-- what a mark's text is refused by
said_late : {zs : Zones} {cs : Calendars} {t : List ℕ} {x : Fault} → Refused zs cs t x → Late x
said_late (said_form a) = omega arith
said_late (said_number a b) = omega arith
said_late (said_tag a b) = omega arith
said_late (said_zone a b) = omega arith
said_late (said_calendar a b) = omega arith
said_late (said_range a b) = omega arith
said_late (said_blank a b c) = omega arith
said_late (said_denied a b c d) = omega arith

mark_text_late : (zs : Zones) (cs : Calendars) (t : List ℕ) (x : Fault) → read_answer zs cs t ≡ Err x → Late x
mark_text_late zs cs t x e = said_late (subst (λ (r : Result Mark Fault). IfErr r (Refused zs cs t)) e (text_refused zs cs t (read_answer zs cs t) refl))

module _ (src : Sources) where
  zone_named_late : (name : List ℕ) (x : Fault) → zone_named src name ≡ Err x → Late x
  zone_named_late name x =
      then_refused Late (or_unreadable (scan_zone_name name)) _ x (form_late (scan_zone_name name))
      (λ _ _. found_late (number_of src.zones.name src.zones.count name) (UnknownZone 0) x (omega arith))

  calendar_named_late : (name : List ℕ) (x : Fault) → calendar_named src name ≡ Err x → Late x
  calendar_named_late name x =
      then_refused Late (or_unreadable (scan_calendar_name name)) _ x (form_late (scan_calendar_name name))
      (λ _ _. found_late (number_of src.calendars.name src.calendars.count name) (UnknownCalendar 0) x (omega arith))

-- ── what becomes of a call ──

off_same : {k j : ℕ} → SlotOff k ≡ SlotOff j → k ≡ j
off_same g = cc

empty_same : {k j : ℕ} → SlotEmpty k ≡ SlotEmpty j → k ≡ j
empty_same g = cc

off_empty : {k j : ℕ} → SlotOff k ≡ SlotEmpty j → ⊥
off_empty g = let z : ◌≡◌ {A = ℕ} 1 2 = ap (λ x. (told x).number) g in absurd (omega (arith, z))

module _ (src : Sources) (st : State) where
  -- a slot is off, or else a slot that is read is empty, or else no refusal tells a slot
  data Verdict {A : Type 0} (us : List Use) (answer : Result A Fault) : Type 0 where
    slot_off : (k : ℕ) → FirstWith (Off src st) us k → answer ≡ Err (SlotOff k) → Verdict us answer
    slot_empty : (k : ℕ) → NoneWith (Off src st) us → FirstWith (Empty src st) us k → answer ≡ Err (SlotEmpty k) → Verdict us answer
    passed : NoneWith (Off src st) us → NoneWith (Empty src st) us → ((x : Fault) → answer ≡ Err x → Late x) → Verdict us answer

  judges : {A : Type 0} (call : Call) (answer : Result A Fault) → Verdict (uses call) answer → Judged src st call answer
  judges call answer (slot_off k f e) = record {
    off = λ j. (
      (λ g. let s : k ≡ j = off_same (refused_same e g) in subst (FirstWith (Off src st) (uses call)) s f),
      (λ g. e ∙ ap (λ i. Err (SlotOff i)) (first_one (Off src st) (uses call) k j f g)),
    );
    empty = λ j. ((λ g. absurd (off_empty (refused_same e g))), (λ p. absurd (first_none (Off src st) (uses call) k f p.0)));
  }
  judges call answer (slot_empty k n f e) = record {
    off = λ j. ((λ g. absurd (off_empty (refused_same g e))), (λ g. absurd (first_none (Off src st) (uses call) j g n)));
    empty = λ j. (
      (λ g. let s : k ≡ j = empty_same (refused_same e g) in (n, subst (FirstWith (Empty src st) (uses call)) s f)),
      (λ p. e ∙ ap (λ i. Err (SlotEmpty i)) (first_one (Empty src st) (uses call) k j f p.1)),
    );
  }
  judges call answer (passed n m late) = record {
    off = λ j. ((λ g. let l = late (SlotOff j) g in absurd (omega (arith, l))), (λ g. absurd (first_none (Off src st) (uses call) j g n)));
    empty = λ j. ((λ g. let l = late (SlotEmpty j) g in absurd (omega (arith, l))), (λ p. absurd (first_none (Empty src st) (uses call) j p.1 m)));
  }

  -- ── shapes of calls ──

  -- a slot is off, or else holds nothing, exactly as a check of these has it
  record Checked {A : Type 0} (u : Use) (slots n : ℕ) (o : Option A) : Type 0 where
    off : Off src st u ↔ (slots ≤ n)
    empty : Empty src st u ↔ (o ≡ None)

  reads_checked : (n : ℕ) → Checked (reads_mark n) (mark_slots st) n (mark_at src st n)
  reads_checked n = record { off = (λ h. h, λ h. h); empty = (λ e. e, λ e. e) }

  span_checked : (n : ℕ) → Checked (reads_span n) (span_slots st) n (span_at st n)
  span_checked n = record { off = (λ h. h, λ h. h); empty = (λ e. e, λ e. e) }

  -- whether a check refuses
  check_off : {A : Type 0} (slots n which : ℕ) (k : Unit {0} → Result A Fault) → slots ≤ n → (on_shelf slots n which >>= k) ≡ Err (SlotOff which)
  check_off slots n which k h = ap (λ (t : Bool). cond t (Ok tt) (Err (SlotOff which)) >>= k) (le-ltb n slots h)

  check_on : {A : Type 0} (slots n which : ℕ) (k : Unit {0} → Result A Fault) → n < slots → (on_shelf slots n which >>= k) ≡ k tt
  check_on slots n which k h = then_is (on_shelf slots n which) k tt (on_shelf_is slots n which h)

  check_empty : {A B : Type 0} (o : Option A) (which : ℕ) (k : A → Result B Fault) → o ≡ None → (filled o which >>= k) ≡ Err (SlotEmpty which)
  check_empty o which k e = ap (λ x. filled x which >>= k) e

  check_filled : {A B : Type 0} (o : Option A) (which : ℕ) (k : A → Result B Fault) (a : A) → o ≡ Some a → (filled o which >>= k) ≡ k a
  check_filled o which k a e = then_is (filled o which) k a (ap (λ x. filled x which) e)

  later : {A : Type 0} {answer rest : Result A Fault} → answer ≡ rest → ((x : Fault) → rest ≡ Err x → Late x) → (x : Fault) → answer ≡ Err x → Late x
  later e late x f = late x (sym e ∙ f)

  -- a call that only gives a slot something
  fills_one : {A : Type 0} (u : Use) (slots n : ℕ) → (Off src st u ↔ (slots ≤ n)) → (Empty src st u → ⊥) → (rest : Result A Fault) →
      ((x : Fault) → rest ≡ Err x → Late x) → Verdict (u ∷ []) (on_shelf slots n 0 >>= λ _. rest)
  fills_one u slots n off full rest late =
      ⊎_elim
      (λ (h : n < slots). passed ((λ o. let x = off.0 o in absurd (omega (arith, x, h))), tt) (full, tt) (later (check_on slots n 0 (λ _. rest) h) late))
      (λ (h : slots ≤ n). slot_off 0 (off.1 h) (check_off slots n 0 (λ _. rest) h))
      (cases_lt n slots)

  -- a call that reads one slot
  reads_one : {A B : Type 0} (u : Use) (slots n : ℕ) (o : Option A) → Checked u slots n o → (k : A → Result B Fault) →
      ((a : A) (x : Fault) → k a ≡ Err x → Late x) → Verdict (u ∷ []) (on_shelf slots n 0 >>= λ _. filled o 0 >>= k)
  reads_one {A} {B} u slots n o c k late =
      ⊎_elim
      (λ (h : n < slots). by h o refl)
      (λ (h : slots ≤ n). slot_off 0 (c.off.1 h) (check_off slots n 0 (λ _. filled o 0 >>= k) h))
      (cases_lt n slots)
    where
      on : n < slots → Off src st u → ⊥
      on h f = let x = c.off.0 f in omega (arith, x, h)

      by : n < slots → (p : Option A) → o ≡ p → Verdict (u ∷ []) (on_shelf slots n 0 >>= λ _. filled o 0 >>= k)
      by h (Some a) e =
          passed (on h, tt) ((λ f. none_some (sym (c.empty.0 f) ∙ e)), tt)
          (later (check_on slots n 0 (λ _. filled o 0 >>= k) h ∙ check_filled o 0 k a e) (late a))
      by h None e = slot_empty 0 (on h, tt) (c.empty.1 e) (check_on slots n 0 (λ _. filled o 0 >>= k) h ∙ check_empty o 0 k e)

  -- a call that reads two slots and gives a third something
  module _ {A B C : Type 0} (u v w : Use) (s0 n0 s1 n1 s2 n2 : ℕ) (o : Option A) (p : Option B) (k : A → B → Result C Fault) where
    abbrev reading : Unit {0} → Result C Fault
    reading _ = filled o 0 >>= λ a. filled p 1 >>= k a

    abbrev third : Unit {0} → Result C Fault
    third _ = on_shelf s2 n2 2 >>= reading

    abbrev second : Unit {0} → Result C Fault
    second _ = on_shelf s1 n1 1 >>= third

    abbrev whole : Result C Fault
    whole = on_shelf s0 n0 0 >>= second

    reads_two : Checked u s0 n0 o → Checked v s1 n1 p → (Off src st w ↔ (s2 ≤ n2)) → (Empty src st w → ⊥) →
        ((a : A) (b : B) (x : Fault) → k a b ≡ Err x → Late x) → Verdict (u ∷ (v ∷ (w ∷ []))) whole
    reads_two c d off full late =
        ⊎_elim
        (λ (h0 : n0 < s0).
        ⊎_elim
        (λ (h1 : n1 < s1).
        ⊎_elim
        (λ (h2 : n2 < s2). filled_by h0 h1 h2 o refl p refl)
        (λ (h2 : s2 ≤ n2). slot_off 2 (on0 h0, (on1 h1, off.1 h2)) (check_on s0 n0 0 second h0 ∙ check_on s1 n1 1 third h1 ∙ check_off s2 n2 2 reading h2))
        (cases_lt n2 s2))
        (λ (h1 : s1 ≤ n1). slot_off 1 (on0 h0, d.off.1 h1) (check_on s0 n0 0 second h0 ∙ check_off s1 n1 1 third h1))
        (cases_lt n1 s1))
        (λ (h0 : s0 ≤ n0). slot_off 0 (c.off.1 h0) (check_off s0 n0 0 second h0))
        (cases_lt n0 s0)
      where
        on0 : n0 < s0 → Off src st u → ⊥
        on0 h f = let x = c.off.0 f in omega (arith, x, h)

        on1 : n1 < s1 → Off src st v → ⊥
        on1 h f = let x = d.off.0 f in omega (arith, x, h)

        on2 : n2 < s2 → Off src st w → ⊥
        on2 h f = let x = off.0 f in omega (arith, x, h)

        filled_by : n0 < s0 → n1 < s1 → n2 < s2 → (a : Option A) → o ≡ a → (b : Option B) → p ≡ b → Verdict (u ∷ (v ∷ (w ∷ []))) whole
        filled_by h0 h1 h2 a ea b eb = by a ea b eb
          where
            on : NoneWith (Off src st) (u ∷ (v ∷ (w ∷ [])))
            on = (on0 h0, (on1 h1, (on2 h2, tt)))

            here : whole ≡ reading tt
            here = check_on s0 n0 0 second h0 ∙ check_on s1 n1 1 third h1 ∙ check_on s2 n2 2 reading h2

            by : (a : Option A) → o ≡ a → (b : Option B) → p ≡ b → Verdict (u ∷ (v ∷ (w ∷ []))) whole
            by None ea b eb = slot_empty 0 on (c.empty.1 ea) (here ∙ check_empty o 0 (λ x. filled p 1 >>= k x) ea)
            by (Some a) ea None eb =
                slot_empty 1 on ((λ f. none_some (sym (c.empty.0 f) ∙ ea)), d.empty.1 eb)
                (here ∙ check_filled o 0 (λ x. filled p 1 >>= k x) a ea ∙ check_empty p 1 (k a) eb)
            by (Some a) ea (Some b) eb =
                passed on ((λ f. none_some (sym (c.empty.0 f) ∙ ea)), ((λ f. none_some (sym (d.empty.0 f) ∙ eb)), (full, tt)))
                (later (here ∙ check_filled o 0 (λ x. filled p 1 >>= k x) a ea ∙ check_filled p 1 (k a) b eb) (late a b))

  -- ── each call ──

  same_off : {A : Type 0} → A ↔ A
  same_off = (λ h. h, λ h. h)

  pub lifted_judged : (n : ℕ) → Judged src st (lift n) (lifted src st n)
  lifted_judged n = judges (lift n) (lifted src st n) (subst (Verdict (reads_mark n ∷ [])) ok_again (reads_one (reads_mark n) (mark_slots st) n (mark_at src st n) (reads_checked n) (λ m. Ok m) (λ a x. ok_late x)))
    where
      again : (r : Result Mark Fault) → (r >>= λ m. Ok m) ≡ r
      again (Ok m) = refl
      again (Err e) = refl

      ok_again : (on_shelf (mark_slots st) n 0 >>= λ _. filled (mark_at src st n) 0 >>= λ m. Ok m) ≡ lifted src st n
      ok_again = ap (λ r. on_shelf (mark_slots st) n 0 >>= λ _. r) (again (filled (mark_at src st n) 0))

  pub placed_judged : (n : ℕ) (text : List ℕ) → Judged src st (place n text) (placed src st n text)
  placed_judged n text =
      judges (place n text) _
      (fills_one (fills_mark n) (mark_slots st) n same_off (λ e. e) (read_answer src.zones src.calendars text) (mark_text_late src.zones src.calendars text))

  pub entered_judged : (n : ℕ) (text : List ℕ) → Judged src st (enter n text) (entered src st n text)
  entered_judged n text = judges (enter n text) _ (fills_one (fills_span n) (span_slots st) n same_off (λ e. e) (read_span text) (span_text_late text))

  pub measured_judged : (a b n : ℕ) (unit : Measure) → Judged src st (measure a b unit n) (measured src st a b unit n)
  measured_judged a b n unit =
      judges (measure a b unit n) _
      (reads_two (reads_mark a) (reads_mark b) (fills_span n) (mark_slots st) a (mark_slots st) b (span_slots st) n (mark_at src st a) (mark_at src st b)
      (λ A B. measure_answer (zone_of src A) (calendar_of src A) unit A.instant B.instant)
      (reads_checked a) (reads_checked b) same_off (λ e. e) (λ A B. measure_late (zone_of src A) (calendar_of src A) unit A.instant B.instant))

  pub carried_judged : (a n c : ℕ) → Judged src st (carry a n c) (carried src st a n c)
  carried_judged a n c =
      judges (carry a n c) _
      (reads_two (reads_mark a) (reads_span n) (fills_mark c) (mark_slots st) a (span_slots st) n (mark_slots st) c (mark_at src st a) (span_at st n) (led src)
      (reads_checked a) (span_checked n) same_off (λ e. e)
      (λ A s x. then_refused Late (carry_answer (zone_of src A) (calendar_of src A) A.instant s) _ x (carry_late (zone_of src A) (calendar_of src A) A.instant s) (λ _ _ f. ok_late x f)))

  pub rezoned_judged : (n : ℕ) (name : List ℕ) → Judged src st (rezone n name) (rezoned src st n name)
  rezoned_judged n name =
      judges (rezone n name) _
      (reads_one (reads_mark n) (mark_slots st) n (mark_at src st n) (reads_checked n) (λ A. zone_named src name >>= in_zone src A)
      (λ A x. then_refused Late (zone_named src name) (in_zone src A) x (zone_named_late src name)
      (λ z _. then_refused Late (arriving (src.zones.value z) A.instant) _ x (arriving_late (src.zones.value z) A.instant) (λ _ _ f. ok_late x f))))

  pub recalendared_judged : (n : ℕ) (name : List ℕ) → Judged src st (recalendar n name) (recalendared src st n name)
  recalendared_judged n name =
      judges (recalendar n name) _
      (reads_one (reads_mark n) (mark_slots st) n (mark_at src st n) (reads_checked n) (λ A. calendar_named src name >>= in_calendar A)
      (λ A x. then_refused Late (calendar_named src name) (in_calendar A) x (calendar_named_late src name) (λ k _ f. ok_late x f)))

  mark_written_judged : (n room : ℕ) → Judged src st (write_mark n room) (mark_written src st n room)
  mark_written_judged n room =
      judges (write_mark n room) _
      (reads_one (reads_mark n) (mark_slots st) n (mark_at src st n) (reads_checked n) (λ A. roomy 96 room >>= λ _. Ok A)
      (λ A x. then_refused Late (roomy 96 room) (λ _. Ok A) x (roomy_late 96 room) (λ _ _ f. ok_late x f)))

  span_written_judged : (n room : ℕ) → Judged src st (write_span n room) (span_written src st n room)
  span_written_judged n room =
      judges (write_span n room) _
      (reads_one (reads_span n) (span_slots st) n (span_at st n) (span_checked n) (λ s. roomy 96 room >>= λ _. Ok s)
      (λ s x. then_refused Late (roomy 96 room) (λ _. Ok s) x (roomy_late 96 room) (λ _ _ f. ok_late x f)))

  listed_judged : (room : ℕ) → Judged src st (list_marks room) (listed src st room)
  listed_judged room = judges (list_marks room) _ (passed tt tt (roomy_late (100 * marks_there src st) room))

  -- ── what is refused alike is judged alike ──

  judged_alike : {A B : Type 0} (call : Call) (answer : Result A Fault) (other : Result B Fault) → ((x : Fault) → (other ≡ Err x) ↔ (answer ≡ Err x)) →
      Judged src st call answer → Judged src st call other
  judged_alike call answer other alike j = record {
    off = λ k. ((λ e. (j.off k).0 ((alike (SlotOff k)).0 e)), (λ f. (alike (SlotOff k)).1 ((j.off k).1 f)));
    empty = λ k. ((λ e. (j.empty k).0 ((alike (SlotEmpty k)).0 e)), (λ f. (alike (SlotEmpty k)).1 ((j.empty k).1 f)));
  }

  refused_alike : {A B : Type 0} (f : A → B) (r : Result A Fault) (x : Fault) → ((r >>= λ a. Ok (f a)) ≡ Err x) ↔ (r ≡ Err x)
  refused_alike f (Ok a) x = ((λ e. err_ok (sym e)), (λ e. err_ok (sym e)))
  refused_alike f (Err y) x = ((λ e. ap Err (err_same e)), (λ e. ap Err (err_same e)))

  judged_then : {A B : Type 0} (call : Call) (f : A → B) (r : Result A Fault) → Judged src st call r → Judged src st call (r >>= λ a. Ok (f a))
  judged_then call f r j = judged_alike call r (r >>= λ a. Ok (f a)) (refused_alike f r) j

  after_judged : (call : Call) → Judged src st call (after src st call)
  unfolding after
  after_judged (place n text) = judged_then (place n text) (λ m. put_mark st n (Some m)) _ (placed_judged n text)
  after_judged (lift n) = judged_then (lift n) (λ _. put_mark st n None) _ (lifted_judged n)
  after_judged (enter n text) = judged_then (enter n text) (λ s. put_span st n (Some s)) _ (entered_judged n text)
  after_judged (measure a b unit n) = judged_then (measure a b unit n) (λ s. put_span st n (Some s)) _ (measured_judged a b n unit)
  after_judged (carry a n c) = judged_then (carry a n c) (λ m. put_mark st c (Some m)) _ (carried_judged a n c)
  after_judged (rezone n name) = judged_then (rezone n name) (λ m. put_mark st n (Some m)) _ (rezoned_judged n name)
  after_judged (recalendar n name) = judged_then (recalendar n name) (λ m. put_mark st n (Some m)) _ (recalendared_judged n name)
  after_judged (write_mark n room) = judged_then (write_mark n room) (λ _. st) _ (mark_written_judged n room)
  after_judged (write_span n room) = judged_then (write_span n room) (λ _. st) _ (span_written_judged n room)
  after_judged (list_marks room) = judged_then (list_marks room) (λ _. st) _ (listed_judged room)

  -- an answer to a call that is accepted or refused as the call is
  pub outcome_judged : {A : Type 0} (call : Call) (answer : Result A Fault) → ((next : State) → after src st call ≡ Ok next → (a : A) × (answer ≡ Ok a)) →
      ((x : Fault) → after src st call ≡ Err x → answer ≡ Err x) → Judged src st call answer
  outcome_judged {A} call answer accepted refused = judged_alike call (after src st call) answer alike (after_judged call)
    where
      by : (r : Result State Fault) → after src st call ≡ r → (x : Fault) → answer ≡ Err x → after src st call ≡ Err x
      by (Ok next) e x f = err_ok (sym f ∙ (accepted next e).1)
      by (Err y) e x f = e ∙ ap Err (refused_same (refused y e) f)

      alike : (x : Fault) → (answer ≡ Err x) ↔ (after src st call ≡ Err x)
      alike x = (by (after src st call) refl x, refused x)
