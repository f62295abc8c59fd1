-- How long the text of a mark can be, and what writing it answers.
use Rattle.std.proofs.Common.{◌≡◌, ℕ, ◌%◌, ◌≤◌, false, eqb, ltb, List, length, ℤ, nat_abs, Ok, Result, ap, arith, length-append}
use Rattle.std.proofs.lemmas.Bool.{le-ltb, cond_both}
use Rattle.timebase.specs.declared.fault.Fault.{Fault}
use Rattle.writing.specs.Placing.{Placed}
use Rattle.writing.proofs.FractionDigits.{point_short}
use Rattle.writing.proofs.Placings.{placed_start}
use Rattle.mark_writing.specs.declared.stamp.Stamp.{Stamp}
use Rattle.mark_writing.specs.Canonical.{date_text, clock_text, seconds_text, offset_text, zone_text, is_iso8601, calendar_text, mark_text, write_answer, write_memory}

date_short : (s : Stamp) → length (date_text s) ≤ 10
unfolding date_text
date_short s = omega arith

clock_short : (s : Stamp) → length (clock_text s) ≤ 15
unfolding clock_text
clock_short s = simp length-append (omega (arith, point_short s.micros))

seconds_short : (n : ℕ) → length (seconds_text n) ≤ 3
unfolding seconds_text
seconds_short n = cond_both (eqb n 0) _ _ (λ (z : List ℕ). length z ≤ 3) (λ _. omega arith) (λ _. omega arith)

offset_short : (z : ℤ) → length (offset_text z) ≤ 9
unfolding offset_text
offset_short z = simp length-append (omega (arith, seconds_short (nat_abs z % 60)))

zone_short : (name : List ℕ) → length name ≤ 32 → length (zone_text name) ≤ 34
unfolding zone_text
zone_short name h = simp length-append (omega arith)

calendar_short : (name : List ℕ) → length name ≤ 16 → length (calendar_text name) ≤ 23
unfolding calendar_text
calendar_short name h =
    cond_both (is_iso8601 name) _ _ (λ (z : List ℕ). length z ≤ 23) (λ _. omega arith) (λ _. simp length-append (omega arith))

pub mark_short : (s : Stamp) → length (mark_text s) ≤ 92
unfolding mark_text
mark_short s =
    simp length-append
    (omega (arith, date_short s, clock_short s, offset_short s.offset, zone_short s.zone.now s.zone_short, calendar_short s.calendar.now s.calendar_short))

pub written : (s : Stamp) {before after : List ℕ} {r : ℕ} → 96 ≤ length before → Placed before 0 (mark_text s) after r
    → record { answer : ◌≡◌ {A = Result ℕ Fault} (Ok r) (write_answer s before); short : r ≤ 92; memory : after ≡ write_memory s before }
written s {before} {after} {r} room p =
    let enough : ltb (length before) 96 ≡ false = le-ltb (length before) 96 room in
    let few = mark_short s in
    let all = placed_start p (omega arith) in
    record { answer = rw enough (ap Ok all.0); short = omega (arith, all.0); memory = rw enough all.1 }
