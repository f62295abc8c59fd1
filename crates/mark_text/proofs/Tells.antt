-- What the answers of the steps tell, accepted or refused.
use Rattle.std.proofs.Common.{◌≡◌, ◌≢◌, ℕ, zero, suc, ◌+◌, ◌*◌, ◌≤◌, Bool, true, false, cond, eqb, ltb, leb, ◌&&◌, List, ◌++◌, ℤ, pos, ◌+ℤ◌, ◌-ℤ◌, ◌*ℤ◌, Some, None, Ok, Err, Option, Result, MatchResult, MatchOption, sym, refl, ap, ◌∙◌, arith}
use lib.Signed.{le_z}
use Rattle.std.proofs.lemmas.Int.{ints}
use Rattle.std.proofs.lemmas.Bool.{ltb-true, ltb-false, eqb-true, leb-true, and_parts, and_from, le-leb, both_ways}
use Rattle.std.specs.Prelude.{ok_or}
use Rattle.timebase.specs.Instants.{is_instant}
use Rattle.timebase.specs.declared.fault.Fault.{Fault}
use Rattle.timebase.specs.declared.fault.Fault.TheVariants.{NoSuchField, CriticalTag, InstantOut, Blank as NoOffset, OffsetDenied}
use Rattle.years.specs.Days.{HasDate}
use Rattle.iso8601.specs.Gregorian.{gregorian_years}
use Rattle.calendar.specs.Singles.{day_number}
use Rattle.zone.specs.declared.value.Value.{Value}
use Rattle.zone.specs.declared.value.Value.TheVariants.{Offset, Blank}
use Rattle.zone.specs.Zones.{Zone, is_blank, offset}
use Rattle.local_times.specs.Chains.{◌>>=◌}
use Rattle.local_times.specs.Locals.{count_of, second_of, Known, offset_at}
use Rattle.local_times.specs.Meeting.{is, offset_known}
use Rattle.local_times.proofs.Locals.{instant_bounds}
use Rattle.local_times.proofs.Results.{err_ok}
use Rattle.mark_form.specs.declared.draft.Draft.{Draft}
use Rattle.mark_form.specs.declared.draft.Said.{Said}
use Rattle.mark_form.specs.declared.layout.Tags.{Tags}
use Rattle.mark_trip.specs.RoundTrip.{said_seconds}
use Rattle.mark_text.specs.declared.fields.Fields.{Fields}
use Rattle.mark_text.specs.Fields.{date_of, wrong_date, day_said, clock_said, shift_said, offset_said, fields_said, shift_or_utc, instant_said}
use Rattle.mark_text.specs.Marks.{Lowest, number_of}
use Rattle.mark_text.specs.Meanings.{clock_offset, InstantSaid, Agreed}
use Rattle.mark_text.specs.Ranges.{Ranged, AllFit, FirstWrong, date_numbers, clock_numbers, offset_numbers, numbers_of}
use Rattle.mark_text.specs.Reading.{tags_said, agreed}
use Rattle.mark_text.specs.Refusals.{NoneBears, IsInstant}
use Rattle.mark_text.proofs.Dates.{has_date, date_fits, date_there, numbered}
use Rattle.mark_text.proofs.Lookups.{number_told}
use Rattle.mark_text.proofs.Ranges.{all_append, wrong_first, wrong_after}
use Rattle.mark_text.proofs.Trips.{same_is, in_range}

-- what was answered first, and then
pub record Then {A B : Type 0} (r : Result A Fault) (k : A → Result B Fault) (b : B) : Type 0 where
  pub value : A
  pub was : r ≡ Ok value
  pub next : k value ≡ Ok b

pub then_ok : {A B : Type 0} (r : Result A Fault) (k : A → Result B Fault) (b : B) → (r >>= k) ≡ Ok b → Then r k b
then_ok (Ok a) k b e = record { value = a; was = refl; next = e }
then_ok (Err x) k b e = err_ok e

-- what is told of an answer, and then of what follows it: Q of what is accepted, and S of a refusal
pub next : {A B : Type 0} {P : A → Type 0} (Q : B → Type 0) (S : Fault → Type 0) (r : Result A Fault) (k : A → Result B Fault) →
    MatchResult r P S → ((a : A) → P a → MatchResult (k a) Q S) → MatchResult (r >>= k) Q S
next Q S (Ok a) k h f = f a h
next Q S (Err x) k h f = h

-- ── numbers ──

-- how a number that doesn't fit is told of
abbrev pub Wrongs : (Fault → Type 0) → List Ranged → Type 0
Wrongs S rs = (p : ℕ) → FirstWrong rs p → S (NoSuchField p)

below : (v most : ℕ) → ltb v (most + 1) ≡ true → v ≤ most
below v most e = let l = ltb-true v (most + 1) e in omega arith

past : (v most : ℕ) → ltb v (most + 1) ≡ false → (0 ≤ v) × (v ≤ most) → ⊥
past v most e q = let l = ltb-false v (most + 1) e in let m = q.1 in absurd (omega arith)

some : (n : ℕ) → eqb n 0 ≡ false → 1 ≤ n
some zero e = absurd (both_ways (eqb 0 0) e refl)
some (suc n) e = omega arith

-- what an accepted clock time tells
abbrev ClockTold : ℕ → ℕ → ℕ → ℕ → ℕ → Type 0
ClockTold at h m s n = AllFit (clock_numbers at h m s) × (n ≡ h * 3600 + m * 60 + s)

clock_told : (S : Fault → Type 0) (at h m s : ℕ) → Wrongs S (clock_numbers at h m s) → MatchResult (clock_said at h m s) (ClockTold at h m s) S
clock_told S at h m s wrong = by (ltb h 24) (ltb m 60) (ltb s 60) refl refl refl
  where
    by : (a b c : Bool) → ltb h 24 ≡ a → ltb m 60 ≡ b → ltb s 60 ≡ c →
        MatchResult (cond a (cond b (cond c (Ok (h * 3600 + m * 60 + s)) (Err (NoSuchField (at + 6)))) (Err (NoSuchField (at + 3)))) (Err (NoSuchField at)))
        (ClockTold at h m s) S
    by true true true f g k = (((omega arith, below h 23 f), ((omega arith, below m 59 g), ((omega arith, below s 59 k), tt))), refl)
    by true true false f g k =
        wrong (at + 6) (FirstWrong.later (omega arith, below h 23 f) (FirstWrong.later (omega arith, below m 59 g) (FirstWrong.here (past s 59 k))))
    by true false c f g k = wrong (at + 3) (FirstWrong.later (omega arith, below h 23 f) (FirstWrong.here (past m 59 g)))
    by false b c f g k = wrong at (FirstWrong.here (past h 23 f))

-- and an accepted date
abbrev DateTold : Draft → ℕ → Type 0
DateTold d n = HasDate gregorian_years n (date_of d) × AllFit (date_numbers d)

date_told : (S : Fault → Type 0) (d : Draft) → d.year ≤ 9999 → Wrongs S (date_numbers d) → MatchResult (day_said d) (DateTold d) S
date_told S d small wrong = by (day_number gregorian_years (date_of d)) refl
  where
    none : (n : ℕ) → day_number gregorian_years (date_of d) ≡ None → HasDate gregorian_years n (date_of d) → ⊥
    none n e h = let z : None ≡ Some n = sym e ∙ sym (numbered n (date_of d) h) in let o : ◌≡◌ {A = ℕ} 0 1 = cc in absurd (omega arith)

    place : (a b : Bool) → eqb d.year 0 ≡ a → (leb 1 d.month && leb d.month 12) ≡ b → day_number gregorian_years (date_of d) ≡ None → S (NoSuchField (cond a 0 (cond b 8 5)))
    place true b f g e = let y = eqb-true d.year 0 f in wrong 0 (FirstWrong.here (λ q. let l = q.0 in absurd (omega arith)))
    place false b f g e = let y : 1 ≤ d.year = some d.year f in month b y g
      where
        month : (b : Bool) → 1 ≤ d.year → (leb 1 d.month && leb d.month 12) ≡ b → S (NoSuchField (cond b 8 5))
        month true y g =
            let p = and_parts (leb 1 d.month) (leb d.month 12) g in
            let m : (1 ≤ d.month) × (d.month ≤ 12) = (leb-true 1 d.month p.0, leb-true d.month 12 p.1) in
            wrong 8 (FirstWrong.later (y, small) (FirstWrong.later m (FirstWrong.here
            (λ q. let a : AllFit (date_numbers d) = ((y, small), (m, (q, tt))) in let n = date_there d a in none n.0 e n.1))))
        month false y g = wrong 5 (FirstWrong.later (y, small) (FirstWrong.here
            (λ q. both_ways _ g (and_from (leb 1 d.month) (leb d.month 12) (le-leb 1 d.month q.0) (le-leb d.month 12 q.1)))))

    by : (o : Option ℕ) → day_number gregorian_years (date_of d) ≡ o →
        MatchResult (elim o as (λ _. Result ℕ Fault) [ Some k ↦ Ok k | None ↦ Err (NoSuchField (wrong_date d)) ]) (DateTold d) S
    by (Some n) e = let h = has_date n (date_of d) e in (h, date_fits n d h)
    by None e = place (eqb d.year 0) (leb 1 d.month && leb d.month 12) refl refl e

-- the offset of a text
abbrev pub said_shift : Option Said → Option ℤ
said_shift None = None
said_shift (Some said) = Some (said_seconds said)

-- and an accepted offset
abbrev OffsetTold : Option Said → Option ℤ → Type 0
OffsetTold o r = AllFit (offset_numbers o) × (r ≡ said_shift o)

offset_told : (S : Fault → Type 0) (o : Option Said) → Wrongs S (offset_numbers o) → MatchResult (offset_said o) (OffsetTold o) S
offset_told S None wrong = (tt, refl)
offset_told S (Some said) wrong =
    let at = said.sign + 1 in
    let h = said.hours in
    let m = said.minutes in
    let s = said.seconds in
    let P : ℤ → Type 0 = λ z. AllFit (clock_numbers at h m s) × (z ≡ said_seconds said) in
    next {P = P} (OffsetTold (Some said)) S (shift_said said) (λ z. Ok (Some z))
    (next P S (clock_said at h m s) (λ _. Ok (said_seconds said)) (clock_told S at h m s wrong) (λ n h. (h.0, refl))) (λ z h. (h.0, ap Some h.1))

pub record FieldsTold (d : Draft) (f : Fields) : Type 0 where
  pub fit : AllFit (numbers_of d)
  pub date : HasDate gregorian_years f.day (date_of d)
  pub clock : f.clock ≡ d.hour * 3600 + d.minute * 60 + d.second
  pub micros : f.micros ≡ d.micros
  pub offset : f.offset ≡ said_shift d.offset

pub fields_told : (S : Fault → Type 0) (d : Draft) → d.year ≤ 9999 → Wrongs S (numbers_of d) → MatchResult (fields_said d) (FieldsTold d) S
fields_told S d small wrong =
    let c = clock_numbers 11 d.hour d.minute d.second in
    let o = offset_numbers d.offset in
    let k = clock_said 11 d.hour d.minute d.second in
    next (FieldsTold d) S (day_said d) _ (date_told S d small (λ p w. wrong p (wrong_first (date_numbers d) (c ++ o) w)))
    (λ n a. next (FieldsTold d) S k _ (clock_told S 11 d.hour d.minute d.second
    (λ p w. wrong p (wrong_after (date_numbers d) (c ++ o) a.1 (wrong_first c o w))))
    (λ _ b. next (FieldsTold d) S (offset_said d.offset) _ (offset_told S d.offset
    (λ p w. wrong p (wrong_after (date_numbers d) (c ++ o) a.1 (wrong_after c o b.0 w))))
    (λ r e. record { fit = all_append (date_numbers d) (c ++ o) a.1 (all_append c o b.0 e.0); date = a.0; clock = b.1; micros = refl; offset = e.1 })))

-- ── tags, names, and the offset at an instant ──

pub tags_told : (S : Fault → Type 0) (g : Tags) → ((b : ℕ) → g.refused ≡ Some b → S (CriticalTag b)) →
    MatchResult (tags_said g) (λ _. g.refused ≡ None) S
tags_told S g refused = by g.refused refl
  where
    by : (o : Option ℕ) → g.refused ≡ o →
        MatchResult (elim o as (λ _. Result (Unit {0}) Fault) [ None ↦ Ok tt | Some bracket ↦ Err (CriticalTag bracket) ]) (λ _. g.refused ≡ None) S
    by None e = e
    by (Some b) e = refused b e

pub name_told : (S : Fault → Type 0) (name : ℕ → List ℕ) (n : List ℕ) (count : ℕ) (x : Fault) → (NoneBears name count n → S x) →
    MatchResult (ok_or (number_of name count n) x) (Lowest name count n) S
name_told S name n count x none = by (number_of name count n) (number_told name n count)
  where
    by : (o : Option ℕ) → MatchOption o (NoneBears name count n) (Lowest name count n) → MatchResult (ok_or o x) (Lowest name count n) S
    by (Some i) l = l
    by None h = none h

-- and an offset that is known
abbrev pub OffsetKnown : Zone → ℤ → ℤ → Type 0
OffsetKnown zone i o = Known zone i × (o ≡ offset (zone (second_of i)))

pub offset_there : (S : Fault → Type 0) (zone : Zone) (i : ℤ) → ((IsInstant i → ⊥) → S InstantOut) →
    ((c k : ℕ) → IsInstant i → zone (second_of i) ≡ Blank c k → S (NoOffset c k)) →
    MatchResult (offset_at zone i) (OffsetKnown zone i) S
offset_there S zone i out blank = by (is_instant i) (zone (second_of i)) refl refl
  where
    by : (t : Bool) (v : Value) → is_instant i ≡ t → zone (second_of i) ≡ v →
        MatchResult (cond t (offset_known v) (Err InstantOut)) (OffsetKnown zone i) S
    by true (Offset o) e f = let b = instant_bounds i e in (record { low = b.0; high = b.1; sure = ap is_blank f }, sym (ap offset f))
    by true (Blank c k) e f = blank c k (instant_bounds i e) f
    by false v e f = out (λ q. both_ways (is_instant i) e (in_range i q.0 q.1))

pub is_tells : (a b : ℤ) → is a b ≡ true → a ≡ b
is_tells a b e = by (le_z a b) (le_z b a) refl refl e
  where
    by : (t u : Bool) → le_z a b ≡ t → le_z b a ≡ u → cond t u false ≡ true → a ≡ b
    by true true f g h = omega (arith, ints)
    by true false f g h = let z : ◌≡◌ {A = ℕ} 0 1 = cc in absurd (omega arith)
    by false u f g h = let z : ◌≡◌ {A = ℕ} 0 1 = cc in absurd (omega arith)

pub agreed_told : (S : Fault → Type 0) (zone : Zone) (i : ℤ) (p : Option Said) (o : ℤ) → o ≡ offset (zone (second_of i)) →
    ((said : Said) → p ≡ Some said → said_seconds said ≢ offset (zone (second_of i)) → S (OffsetDenied said.sign)) →
    MatchResult (agreed (said_shift p) o p) (λ _. Agreed zone i p) S
agreed_told S zone i None o e denied = tt
agreed_told S zone i (Some said) o e denied = by (is (said_seconds said) o) refl
  where
    by : (t : Bool) → is (said_seconds said) o ≡ t →
        MatchResult {T = Unit {0}} (cond t (Ok tt) (Err (OffsetDenied said.sign))) (λ _. Agreed zone i (Some said)) S
    by true f = is_tells (said_seconds said) o f ∙ e
    by false f = denied said refl (λ q. both_ways (is (said_seconds said) o) f (same_is (said_seconds said) o (q ∙ sym e)))

-- ── the instant ──

pub shift_is : (o : Option Said) → shift_or_utc (said_shift o) ≡ clock_offset o
shift_is None = refl
shift_is (Some said) = refl

-- the instant of fields by the words of the text
pub instant_is : (d : Draft) (f : Fields) →
    f.clock ≡ d.hour * 3600 + d.minute * 60 + d.second → f.micros ≡ d.micros → f.offset ≡ said_shift d.offset →
    instant_said f ≡ ((count_of (pos f.day) (d.hour * 3600 + d.minute * 60 + d.second) -ℤ clock_offset d.offset) *ℤ pos 1000000) +ℤ pos d.micros
instant_is d f clock micros offset = by f.clock f.micros (shift_or_utc f.offset) clock micros (ap shift_or_utc offset ∙ shift_is d.offset)
  where
    by : (k u : ℕ) (s : ℤ) → k ≡ d.hour * 3600 + d.minute * 60 + d.second → u ≡ d.micros → s ≡ clock_offset d.offset →
        ((count_of (pos f.day) k -ℤ s) *ℤ pos 1000000) +ℤ pos u ≡ ((count_of (pos f.day) (d.hour * 3600 + d.minute * 60 + d.second) -ℤ clock_offset d.offset) *ℤ pos 1000000) +ℤ pos d.micros
    by k u s e1 e2 e3 = rw (e1, e2, e3) refl

-- it is the one that the text says
pub instant_told : (d : Draft) (f : Fields) → FieldsTold d f → InstantSaid d (instant_said f)
instant_told d f t = record { number = f.day; date = t.date; is = instant_is d f t.clock t.micros t.offset }
