-- The law over runs: measured spans stay true.
use Rattle.std.proofs.Common.{◌≡◌, ℕ, ◌<◌, false, List, [], ◌∷◌, ◌++◌, Some, Ok, Err, Result, IfOk, sym, refl, ap, ◌∙◌, subst}
use Rattle.timebase.specs.declared.fault.Fault.{Fault}
use Rattle.timebase.specs.declared.span.Span.{Span}
use Rattle.zone.specs.Zones.{is_blank}
use Rattle.local_times.specs.Locals.{second_of}
use Rattle.span_law.specs.declared.unit.Unit.{Unit as Measure}
use Rattle.span_law.specs.Measuring.{measure_answer}
use Rattle.span_law.specs.Law.{Beyond, Smaller}
use Rattle.span_law.proofs.Steps.{some_same}
use Rattle.mark_text.specs.declared.mark.Mark.{Mark}
use Rattle.board_law.specs.Boards.{measured, carried, kept, is_there, span_there, made, or_same, with_span, There, Sources, State, mark_slots, span_slots, put_mark, put_span, new_board, mark_at, zone_of, calendar_of, moved, Call, measure, after, run}
use Rattle.board_law.specs.Runs.{KeepsOn, Unaltered, TrueHere, LeadsTrue, Lawful, Holds, MeasuredIn, Arrives, TrueOn, RunKeeps, SpansStayTrue, SpansAlwaysStayTrue}
use Rattle.board_law.specs.Runs.Unaltered.{one_more}
use Rattle.board_law.proofs.Slots.{written_law}
use Rattle.board_law.proofs.There.{span_at_is, mark_in_slot, mark_at_is, moved_there, truth, end_known, measured_enterable}
use Rattle.board_law.proofs.Calls.{Measuring, Measured, measuring, measured_left, measure_is, carried_is, carry_is}
use Rattle.board_law.proofs.Refused.{measure_refused}
use Rattle.board_law.proofs.Meanings.{span_between}
use Rattle.board_law.proofs.Keeps.{run_append, run_there, run_slots, new_there}

module _ (src : Sources) (law : Lawful src) where
  -- what a measuring tells of the marks and the span that stand in their slots after it
  record Fact (unit : Measure) (A B : Mark) (s : Span) : Type 0 where
    first : There src A
    answer : measure_answer (zone_of src A) (calendar_of src A) unit A.instant B.instant ≡ Ok s

  told_by : (st : State) (a b n : ℕ) (unit : Measure) (s : Span) (m : Measuring src st a b n unit s) → Fact unit m.ends.A m.ends.B s
  told_by st a b n unit s m = record { first = (mark_in_slot src st a m.ends.A m.ends.first).1; answer = m.ends.answer }

  -- what an accepted measuring leaves
  left : (st next : State) (a b n : ℕ) (unit : Measure) (m : Measured src st next a b n unit) → Holds src next a b n m.by.ends.A m.by.ends.B m.s
  left st next a b n unit m =
      let put = put_span st n (Some m.s) in
      let f = told_by st a b n unit m.s m.by in
      let held = (written_law 256 st.spans n (Some m.s)).holds m.by.on in
      let at = span_at_is put n m.s held (measured_enterable src law m.by.ends.A m.by.ends.B unit m.s f.first f.answer) in
      subst (λ (x : State). Holds src x a b n m.by.ends.A m.by.ends.B m.s) (sym m.is) (record { first = m.by.ends.first; second = m.by.ends.second; span = at })

  fact : (st next : State) (a b n : ℕ) (unit : Measure) (A B : Mark) (s : Span) →
      after src st (measure a b unit n) ≡ Ok next → Holds src next a b n A B s → Fact unit A B s
  fact st next a b n unit A B s e h =
      let m = measured_left src st next a b n unit e in
      let l = left st next a b n unit m in
      let ea : m.by.ends.A ≡ A = some_same (sym l.first ∙ h.first) in
      let eb : m.by.ends.B ≡ B = some_same (sym l.second ∙ h.second) in
      let es : m.s ≡ s = some_same (sym l.span ∙ h.span) in
      subst (λ (x : Mark). Fact unit x B s) ea
      (subst (λ (x : Mark). Fact unit m.by.ends.A x s) eb
      (subst (λ (x : Span). Fact unit m.by.ends.A m.by.ends.B x) es (told_by st a b n unit m.s m.by)))

  fact_in : (start : State) (calls : List Call) (a b n : ℕ) (unit : Measure) (A B : Mark) (s : Span) →
      MeasuredIn src start calls a b n unit A B s → Fact unit A B s
  fact_in start calls a b n unit A B s m = fact (run src start m.before) m.next a b n unit A B s m.accepted m.left

  -- ── what a span that was measured keeps ──

  leads_on : (st : State) (a b n c : ℕ) (unit : Measure) (A B : Mark) (s : Span) → Fact unit A B s → Holds src st a b n A B s →
      c < mark_slots st → carried src st a n c ≡ Ok (moved A B.instant)
  leads_on st a b n c unit A B s f h on = carried_is src st a n c A s B.instant h.first h.span on (truth src law A B unit s f.first f.answer).arrives

  arrives_on : (st : State) (a b n c : ℕ) (unit : Measure) (A B : Mark) (s : Span) → Fact unit A B s → Holds src st a b n A B s →
      c < mark_slots st → Arrives src st a n c (moved A B.instant)
  arrives_on st a b n c unit A B s f h on =
      let known = end_known src law A B unit s f.first f.answer in
      let m = moved A B.instant in
      let w = written_law 256 st.marks c (Some m) in
      record {
        next = put_mark st c (Some m);
        accepted = carry_is src st a n c m (leads_on st a b n c unit A B s f h on);
        holds = mark_at_is src (put_mark st c (Some m)) c m (w.holds on) (moved_there src A B.instant f.first known);
        marks = w;
        spans = refl;
      }

  true_on : (st : State) (a b n : ℕ) (unit : Measure) (A B : Mark) (s : Span) → Fact unit A B s → Holds src st a b n A B s →
      TrueOn src st a b n unit A B s
  true_on st a b n unit A B s f h = record {
    arrives = λ c on. arrives_on st a b n c unit A B s f h on;
    is_true = truth src law A B unit s f.first f.answer;
  }

  farther_on : (unit : Measure) (A B E : Mark) (s t : Span) → Fact unit A B s → Fact unit A E t →
      Beyond A.instant B.instant E.instant → Smaller s t
  farther_on unit A B E s t f g h = (truth src law A B unit s f.first f.answer).farther E.instant t h g.answer

  -- ── when measuring is accepted, and what it leaves ──

  accepts_on : (st : State) (a b n : ℕ) (unit : Measure) (A B : Mark) → mark_at src st a ≡ Some A → mark_at src st b ≡ Some B →
      n < span_slots st → is_blank (zone_of src A (second_of B.instant)) ≡ false →
      (next : State) × (after src st (measure a b unit n) ≡ Ok next)
  accepts_on st a b n unit A B first second on sure =
      let x = span_between src A B unit (mark_in_slot src st a A first).1 (mark_in_slot src st b B second).1 sure in
      (put_span st n (Some x.0), measure_is src st a b n unit A B x.0 first second on x.1)

  leaves_on : (st next : State) (a b n : ℕ) (unit : Measure) → after src st (measure a b unit n) ≡ Ok next →
      (A : Mark) × (B : Mark) × (s : Span) × Holds src next a b n A B s
  leaves_on st next a b n unit e =
      let m = measured_left src st next a b n unit e in
      (m.by.ends.A, m.by.ends.B, m.s, left st next a b n unit m)

  -- ── until a call alters a slot ──

  holds_through : (st : State) (later : List Call) (a b n : ℕ) (A B : Mark) (s : Span) → Unaltered src a b n st later →
      Holds src st a b n A B s → Holds src (run src st later) a b n A B s
  unfolding run
  holds_through st [] a b n A B s u h = h
  holds_through st (call ∷ calls) a b n A B s (one_more _ _ _ keep rest) h =
      holds_through (made src st call) calls a b n A B s rest (by (after src st call) refl)
    where
      by : (o : Result State Fault) → after src st call ≡ o → Holds src (or_same st o) a b n A B s
      by (Ok next) e =
          let k = keep next e in
          record {
            first = ap (kept (is_there src)) k.first ∙ h.first;
            second = ap (kept (is_there src)) k.second ∙ h.second;
            span = ap (kept span_there) k.span ∙ h.span;
          }
      by (Err x) e = h

  true_until : (st next : State) (later : List Call) (a b n : ℕ) (unit : Measure) → after src st (measure a b unit n) ≡ Ok next →
      Unaltered src a b n next later →
      (A : Mark) × (B : Mark) × (s : Span) × Holds src next a b n A B s × TrueOn src (run src next later) a b n unit A B s
  true_until st next later a b n unit e u =
      let m = measured_left src st next a b n unit e in
      let h = left st next a b n unit m in
      let f = told_by st a b n unit m.s m.by in
      let end = holds_through next later a b n m.by.ends.A m.by.ends.B m.s u h in
      (m.by.ends.A, m.by.ends.B, m.s, h, true_on (run src next later) a b n unit m.by.ends.A m.by.ends.B m.s f end)

  true_put : (st : State) (a b n : ℕ) (unit : Measure) (s : Span) → measured src st a b unit n ≡ Ok s →
      TrueHere src (put_span st n (Some s)) a b n unit s
  true_put st a b n unit s e =
      let m = measuring src st a b n unit s e in
      let next = put_span st n (Some s) in
      let h = left st next a b n unit (record { s = s; by = m; is = refl }) in
      record { A = m.ends.A; B = m.ends.B; holds = h; is_true = true_on next a b n unit m.ends.A m.ends.B s (told_by st a b n unit s m) h }

  pub true_here : (st next : State) (a b n : ℕ) (unit : Measure) → next ≡ made src st (measure a b unit n) →
      IfOk (measured src st a b unit n) (λ s. TrueHere src next a b n unit s)
  unfolding after
  true_here st next a b n unit e = by (measured src st a b unit n) refl e
    where
      by : (r : Result Span Fault) → measured src st a b unit n ≡ r → next ≡ or_same st (with_span st n r) → IfOk r (λ s. TrueHere src next a b n unit s)
      by (Ok s) f g = subst (λ (x : State). TrueHere src x a b n unit s) (sym g) (true_put st a b n unit s f)
      by (Err x) f g = tt

  -- ── the law ──

  pub run_keeps : (start : State) (calls : List Call) → RunKeeps src start calls (run src start calls)
  run_keeps start calls =
      let k = run_slots src law start calls in
      record {
        stays = λ a b n unit A B s m h. true_on (run src start calls) a b n unit A B s (fact_in start calls a b n unit A B s m) h;
        there = run_there src law start calls;
        mark_slots_stay = k.marks;
        span_slots_stay = k.spans;
        marks_past_cap = k.marks_past;
        spans_past_cap = k.spans_past;
      }

  pub leads_true : (st : State) (a n c : ℕ) → LeadsTrue src st a n c (carried src st a n c)
  leads_true st a n c start calls b unit A B s m h on = leads_on st a b n c unit A B s (fact_in start calls a b n unit A B s m) h on

  -- the same of a run that goes on from where an earlier one ended
  pub keeps_on : (now end : State) (calls : List Call) → end ≡ run src now calls → KeepsOn src now calls end
  keeps_on now end calls f start earlier e =
      let whole : run src start (earlier ++ calls) ≡ end = run_append src start earlier calls ∙ ap (λ (x : State). run src x calls) e ∙ sym f in
      subst (RunKeeps src start (earlier ++ calls)) whole (run_keeps start (earlier ++ calls))

  stay_true : SpansStayTrue src
  stay_true = record {
    until = λ start before later next a b n unit e u. true_until (run src start before) next later a b n unit e u;
    accepts = accepts_on;
    refuses = measure_refused src;
    leaves = leaves_on;
    farther = λ start start' calls calls' a b n a' e n' unit A B E s t m m' h.
        farther_on unit A B E s t (fact_in start calls a b n unit A B s m) (fact_in start' calls' a' e n' unit A E t m') h;
    keeps = run_keeps;
    there = λ marks spans calls. run_there src law (new_board marks spans) calls (new_there src marks spans);
  }

pub spans_stay_true : SpansAlwaysStayTrue
spans_stay_true src law = stay_true src law
