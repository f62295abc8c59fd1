use Rattle.std.proofs.Common.{◌≡◌, ℕ, true, false, ℤ, pos, ◌+ℤ◌, Some, Ok, sym, ap, ◌∙◌, subst, arith, w64, to_z, of_z}
use Rattle.std.proofs.lemmas.Int.{ints}
use Rattle.zone.specs.Zones.{Zone}
use Rattle.calendar.specs.Calendars.{Calendar}
use Rattle.timebase.specs.declared.span.Span.{Span}
use Rattle.local_times.specs.declared.local_time.LocalTime.{LocalTime}
use Rattle.local_times.specs.Locals.{Known, Shows, arriving, micros_of, met_at}
use Rattle.span_law.specs.Stepping.{day_on}
use Rattle.span_law.specs.Carrying.{natural, carry_answer, no_date_parts}
use Rattle.span_law.proofs.Carries.{carried_none, carried_some}
use Rattle.span_law.proofs.Answered.{carry_known}
use Rattle.moves.proofs.Answers.{After}
use Rattle.moves.proofs.setting.Setting.carry.Goals as goal

known_at : (f : Zone) (i j : ℤ) → j ≡ i → Known f j → Known f i
known_at f i j e k = subst (Known f) e k

-- a time alone
timed : (f : Zone) (k : Calendar) (i j t : ℤ) (s : Span) → j ≡ i → t ≡ s.time → no_date_parts s ≡ true → Known f i → arriving f (j +ℤ t) ≡ carry_answer f k i s
timed f k i j t s ej et n h = ap (λ (x : ℤ). arriving f (x +ℤ t)) ej ∙ ap (λ (x : ℤ). arriving f (i +ℤ x)) et ∙ sym (carried_none f k i s n) ∙ carry_known f k i s h

-- the day is met, and the time added
met : (f : Zone) (k : Calendar) (i m n t : ℤ) (s : Span) (l r : LocalTime) → Shows f i l → no_date_parts s ≡ false → After k l s (Some r) → Ok m ≡ met_at f (pos r.day) r.clock r.micros → n ≡ m → t ≡ s.time → arriving f (n +ℤ t) ≡ carry_answer f k i s
met f k i m n t s l r h d (a, b, e) w en et =
    ap (λ (x : ℤ). arriving f (x +ℤ t)) en ∙ ap (λ (x : ℤ). arriving f (m +ℤ x)) et
    ∙ sym (carried_some f k i s (pos r.day) m d (ap (λ (x : ℕ). day_on k x s) (sym (ap natural h.day_is)) ∙ a)
    (ap (λ (x : ℕ). met_at f (pos r.day) x (micros_of i)) (sym (b ∙ h.clock_is)) ∙ ap (met_at f (pos r.day) r.clock) (sym (e ∙ h.micros_is)) ∙ sym w))
    ∙ carry_known f k i s h.known

pub returns-then-has_no_date_parts : goal.returns-then-has_no_date_parts
returns-then-has_no_date_parts g c =
    let f = (g.Z.ZoneSource.zones c.args.self.now.zone.source.now).value c.args.self.now.zone.number in
    let k = (g.C.CalendarSource.calendars c.args.self.now.calendar.source.now).calendar c.args.self.now.calendar.number in
    let s = c.args.span.now in
    let i = c.args.instant in
    let ei : to_z w64 (of_z w64 i) ≡ i = omega (arith, ints) in
    let et : to_z w64 (of_z w64 s.time) ≡ s.time = omega (arith, ints) in
    let h = rw c.in_ok-start.ensures.0 at c.in_ok-start.start.shows in
    c.arrive_after.ensures
    ∙ timed f k i (to_z w64 (of_z w64 i)) (to_z w64 (of_z w64 s.time)) s ei et (sym c.has_no_date_parts.ensures ∙ c.if-has_no_date_parts.true) (known_at f i c.in_ok-start.start.instant (c.in_ok-start.ensures.1 ∙ ei) h.known)

pub returns : goal.returns
returns g c =
    let f = (g.Z.ZoneSource.zones c.args.self.now.zone.source.now).value c.args.self.now.zone.number in
    let k = (g.C.CalendarSource.calendars c.args.self.now.calendar.source.now).calendar c.args.self.now.calendar.number in
    let s = c.args.span.now in
    let i = c.args.instant in
    let l = c.in_ok-start.start.local in
    let r = c.in_ok-local.local in
    let ei : to_z w64 (of_z w64 i) ≡ i = omega (arith, ints) in
    let et : to_z w64 (of_z w64 s.time) ≡ s.time = omega (arith, ints) in
    let em : to_z w64 (of_z w64 c.in_ok-met.met) ≡ c.in_ok-met.met = omega (arith, ints) in
    let h = rw c.in_ok-start.ensures.0 at c.in_ok-start.start.shows in
    let hi : Shows f i l = subst (λ (x : ℤ). Shows f x l) (c.in_ok-start.ensures.1 ∙ ei) h in
    let a : After k l s (Some r) = subst (After k l s) c.in_ok-local.ensures.ok_part c.local_after.ensures in
    c.arrive_after-2.ensures
    ∙ met f k i c.in_ok-met.met (to_z w64 (of_z w64 c.in_ok-met.met)) (to_z w64 (of_z w64 s.time)) s l r hi (sym c.has_no_date_parts.ensures ∙ c.if-has_no_date_parts.false) a c.in_ok-met.ensures.value em et
