-- A mark is there exactly if its test says so, and what a text says is there.
use Rattle.std.proofs.Common.{◌≡◌, ℕ, true, false, not, ◌&&◌, List, ℤ, Some, None, Ok, Option, MatchOption, Result, MatchResult, is_some, refl, sym, ap, ◌∙◌, subst}
use Rattle.std.proofs.lemmas.Bool.{and_parts, and_from, not-true, not_from_false, eqb-true, eq-eqb, both_ways, false_from_ne_true}
use Rattle.timebase.specs.declared.fault.Fault.{Fault}
use Rattle.timebase.specs.Instants.{is_instant}
use Rattle.zone.specs.Zones.{Zone, Zones, is_blank}
use Rattle.calendar.specs.Calendars.{Calendars}
use Rattle.local_times.specs.Locals.{second_of, Known}
use Rattle.local_times.proofs.Locals.{instant_bounds}
use Rattle.mark_text.specs.declared.mark.Mark.{Mark}
use Rattle.mark_text.specs.Marks.{IsThere, Lowest, number_of, is_at, is_lowest, is_known, mark_there}
use Rattle.mark_text.specs.Meanings.{Says}
use Rattle.mark_text.specs.Reading.{read_answer}
use Rattle.mark_text.specs.Refusals.{Refused}
use Rattle.mark_text.proofs.Judging.{judged}
use Rattle.mark_text.proofs.Lookups.{lowest_found, number_own}
use Rattle.mark_text.proofs.Trips.{in_range}

-- ── the parts of the test ──

at_tells : (i : ℕ) (o : Option ℕ) → is_at i o ≡ true → o ≡ Some i
at_tells i (Some k) e = ap Some (eqb-true k i e)
at_tells i None e = absurd (both_ways (is_at i None) refl e)

lowest_tells : (name : ℕ → List ℕ) (c i : ℕ) → is_lowest name c i ≡ true → Lowest name c (name i) i
lowest_tells name c i e = number_own name (name i) c i (at_tells i (number_of name c (name i)) e)

lowest_test : (name : ℕ → List ℕ) (c i : ℕ) → Lowest name c (name i) i → is_lowest name c i ≡ true
lowest_test name c i l = ap (is_at i) (lowest_found name (name i) c i l) ∙ eq-eqb i i refl

known_tells : (zone : Zone) (i : ℤ) → is_known zone i ≡ true → Known zone i
known_tells zone i e =
    let p = and_parts (is_instant i) (not (is_blank (zone (second_of i)))) e in
    let b = instant_bounds i p.0 in
    record { low = b.0; high = b.1; sure = not-true (is_blank (zone (second_of i))) p.1 }

known_test : (zone : Zone) (i : ℤ) → Known zone i → is_known zone i ≡ true
known_test zone i k = and_from (is_instant i) (not (is_blank (zone (second_of i)))) (in_range i k.low k.high) (not_from_false (is_blank (zone (second_of i))) k.sure)

-- ── the test ──

pub there_is : (zs : Zones) (cs : Calendars) (m : Mark) → mark_there zs cs m ≡ true → IsThere zs cs m
unfolding mark_there
there_is zs cs m e =
    let z = is_lowest zs.name zs.count m.zone in
    let k = is_lowest cs.name cs.count m.calendar in
    let p = and_parts (is_known (zs.value m.zone) m.instant) (z && k) e in
    let q = and_parts z k p.1 in
    record { zone = lowest_tells zs.name zs.count m.zone q.0; calendar = lowest_tells cs.name cs.count m.calendar q.1; known = known_tells (zs.value m.zone) m.instant p.0 }

pub is_there : (zs : Zones) (cs : Calendars) (m : Mark) → IsThere zs cs m → mark_there zs cs m ≡ true
unfolding mark_there
is_there zs cs m t =
    let z = is_lowest zs.name zs.count m.zone in
    let k = is_lowest cs.name cs.count m.calendar in
    and_from (is_known (zs.value m.zone) m.instant) (z && k) (known_test (zs.value m.zone) m.instant t.known)
    (and_from z k (lowest_test zs.name zs.count m.zone t.zone) (lowest_test cs.name cs.count m.calendar t.calendar))

pub not_there : (zs : Zones) (cs : Calendars) (m : Mark) → (IsThere zs cs m → ⊥) → mark_there zs cs m ≡ false
not_there zs cs m h = false_from_ne_true (mark_there zs cs m) (λ e. h (there_is zs cs m e))

-- what is found of a mark exactly if it is there
pub found_there : {A : Type 0} (zs : Zones) (cs : Calendars) (m : Mark) (P : A → Type 0) (o : Option A) → MatchOption o (IsThere zs cs m → ⊥) (λ a. IsThere zs cs m × P a) → is_some o ≡ mark_there zs cs m
found_there zs cs m P (Some a) h = sym (is_there zs cs m h.0)
found_there zs cs m P None h = sym (not_there zs cs m h)

-- ── what a text says ──

pub read_there : (zs : Zones) (cs : Calendars) (t : List ℕ) (m : Mark) → read_answer zs cs t ≡ Ok m → IsThere zs cs m
read_there zs cs t m e = let says : Says zs cs t m = subst (λ (r : Result Mark Fault). MatchResult r (Says zs cs t) (Refused zs cs t)) e (judged zs cs t) in says.there
