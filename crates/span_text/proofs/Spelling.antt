-- The canonical text of a span is a text of the grammar.
use Rattle.std.proofs.Common.{◌≡◌, ℕ, ◌/◌, ◌%◌, ◌^◌, ◌<◌, ◌≤◌, Bool, true, false, eqb, List, [], ◌∷◌, ◌++◌, nat_abs, decimal, sym, refl, ap, ◌∙◌, subst, inl, inr, append_assoc, append-nil, arith}
use native.Mathlib.Nat.{div-div-eq-div-mul}
use Rattle.std.proofs.lemmas.Bool.{cases_eq, and_parts, and_from, eqb-true, eq-eqb, both_ways}
use Rattle.timebase.specs.declared.span.Span.{Span}
use Rattle.timebase.specs.Spans.{is_minus, InLimits}
use Rattle.reading.specs.Digits.{Digits}
use Rattle.writing.specs.Fractions.{fraction_digits, point_text}
use Rattle.writing.proofs.FractionDigits.{point_none, point_some}
use Rattle.span_text.specs.declared.scan.Designator.{Designator}
use Rattle.span_text.specs.declared.scan.Designator.TheVariants.{Period, Time, Seconds}
use Rattle.span_text.specs.declared.scan.Fields.{Fields}
use Rattle.span_text.specs.Canonical.{part_text, seconds_text, clock_text, time_text, date_text, is_nought, sign_text, span_text}
use Rattle.span_text.specs.Grammar.{micros_of, Closes, Spelt, SpanText}
use Rattle.span_text.specs.Grammar.Closes.{years, months, weeks, days, hours, minutes, seconds}
use Rattle.span_text.specs.Grammar.Spelt.{plus, minus, part, time, fraction}
use Rattle.span_text.specs.Scanning.{rank_of, unsaid, put, put_seconds}
use Rattle.span_text.proofs.Pieces.{part_none, part_some, seconds_none, seconds_some, time_none, time_some, span_nought}
use Rattle.span_text.proofs.Numerals.{decimal_digits, decimal_value, fraction_some_digits, fraction_value}

-- ── the text, grouped to the right ──

seconds_right : (m : ℕ) → (m ≡ 0 → ⊥) → seconds_text m ≡ decimal (m / 1000000) ++ (point_text m ++ (83 ∷ []))
seconds_right m e = seconds_some m e ∙ simp append_assoc

span_right : (s : Span) → is_nought s ≡ false → span_text s ≡ sign_text (is_minus s) ++ (80 ∷ (date_text s ++ time_text (nat_abs s.time)))
unfolding span_text
span_right s e = rw e (simp append_assoc)

-- ── spelling it ──

respelt : {d : Designator} {p q : List ℕ} {f g : Fields} → p ≡ q → f ≡ g → Spelt d p f → Spelt d q g
respelt {d} {p} {q} {f} {g} x y h = subst (λ z. Spelt d z g) x (subst (Spelt d p) y h)

-- the text goes on by a part, or by nothing where that is nought
record Onward (d e : Designator) (l n : ℕ) (p : List ℕ) (f : Fields) : Type 0 where
  last : Designator
  spelt : Spelt last (p ++ part_text n (l ∷ [])) (put f e n)
  low : rank_of d ≤ rank_of last
  high : rank_of last ≤ rank_of e
  there : 0 < n → rank_of last ≡ rank_of e

rising : {d e : Designator} {l : ℕ} → Closes d e l → rank_of d < rank_of e
rising (years h) = h
rising (months h) = h
rising (weeks h) = h
rising (days h) = h
rising (hours h g) = g
rising (minutes h g) = g
rising (seconds h g) = g

part_on : {d e : Designator} {l : ℕ} {p : List ℕ} {f : Fields} → Spelt d p f → Closes d e l → (n : ℕ) → n < 10 ^ 9 → put f e 0 ≡ f → Onward d e l n p f
part_on {d} {e} {l} {p} {f} h c n small q = elim (cases_eq n 0) [
  | inl z ↦ record {
    last = d;
    spelt = respelt (sym (ap (λ (x : List ℕ). p ++ x) (part_none n (l ∷ []) z) ∙ append-nil p)) (sym q ∙ ap (put f e) (sym z)) h;
    low = omega arith;
    high = omega (arith, rising c);
    there = λ g. absurd (omega arith);
  }
  | inr z ↦ record {
    last = e;
    spelt = respelt (ap (λ (x : List ℕ). p ++ x) (sym (part_some n (l ∷ []) z))) (ap (put f e) (decimal_value n small)) (part h c (decimal n) (decimal_digits n small));
    low = omega (arith, rising c);
    high = omega arith;
    there = λ g. refl;
  }
]

abbrev F : Bool → ℕ → ℕ → ℕ → ℕ → ℕ → ℕ → ℕ → ℕ → Fields
F b y m w d h i s u = record { minus = b; years = y; months = m; weeks = w; days = d; hours = h; minutes = i; seconds = s; micros = u }

nought_if : (n q k : ℕ) → (0 < n → q ≡ k) → q < k → n ≡ 0
nought_if n q k h l = elim (cases_eq n 0) [ inl e ↦ e | inr e ↦ absurd (omega (arith, h (omega arith))) ]

record Dated (s : Span) (b : Bool) (p : List ℕ) : Type 0 where
  last : Designator
  spelt : Spelt last (p ++ date_text s) (F b (nat_abs s.years) (nat_abs s.months) (nat_abs s.weeks) (nat_abs s.days) 0 0 0 0)
  high : rank_of last ≤ 4
  none : rank_of last ≡ 0 → (nat_abs s.years ≡ 0) × (nat_abs s.months ≡ 0) × (nat_abs s.weeks ≡ 0) × (nat_abs s.days ≡ 0)

dated : (s : Span) (b : Bool) (p : List ℕ) → InLimits s → Spelt Period p (unsaid b) → Dated s b p
dated s b p l h =
    let o1 = part_on h (years (omega arith)) (nat_abs s.years) (omega (arith, l.years)) refl in
    let o2 = part_on o1.spelt (months (omega (arith, o1.high))) (nat_abs s.months) (omega (arith, l.months)) refl in
    let o3 = part_on o2.spelt (weeks (omega (arith, o2.high))) (nat_abs s.weeks) (omega (arith, l.weeks)) refl in
    let o4 = part_on o3.spelt (days (omega (arith, o3.high))) (nat_abs s.days) (omega (arith, l.days)) refl in
    record {
      last = o4.last;
      spelt = respelt (simp append_assoc) refl o4.spelt;
      high = o4.high;
      none = λ z. (
        nought_if (nat_abs s.years) (rank_of o1.last) 1 o1.there (omega (arith, o2.low, o3.low, o4.low)),
        nought_if (nat_abs s.months) (rank_of o2.last) 2 o2.there (omega (arith, o3.low, o4.low)),
        nought_if (nat_abs s.weeks) (rank_of o3.last) 3 o3.there (omega (arith, o4.low)),
        nought_if (nat_abs s.days) (rank_of o4.last) 4 o4.there (omega arith),
      );
    }

-- the seconds of so many microseconds past the minute, or nothing where they are nought
record Sounded (d : Designator) (m : ℕ) (p : List ℕ) (f : Fields) : Type 0 where
  last : Designator
  spelt : Spelt last (p ++ seconds_text m) (put_seconds f (m / 1000000) (m % 1000000))
  low : rank_of d ≤ rank_of last
  there : 0 < m → rank_of last ≡ 8

seconds_whole : {d : Designator} {p : List ℕ} {f : Fields} (m : ℕ) → Spelt d p f → 5 ≤ rank_of d → rank_of d < 8 → f.micros ≡ 0 → m < 60000000 → (m ≡ 0 → ⊥) → m % 1000000 ≡ 0 → Sounded d m p f
seconds_whole {d} {p} {f} m h lo hi none small some z =
    let t : decimal (m / 1000000) ++ (83 ∷ []) ≡ seconds_text m = sym (seconds_right m some ∙ ap (λ (x : List ℕ). decimal (m / 1000000) ++ (x ++ (83 ∷ []))) (point_none m z)) in
    record {
      last = Seconds;
      spelt = respelt (ap (λ (x : List ℕ). p ++ x) t) (ap (λ n. put_seconds f n f.micros) (decimal_value (m / 1000000) (omega arith)) ∙ ap (put_seconds f (m / 1000000)) (none ∙ sym z))
          (part h (seconds lo hi) (decimal (m / 1000000)) (decimal_digits (m / 1000000) (omega arith)));
      low = omega arith;
      there = λ _. refl;
    }

seconds_part : {d : Designator} {p : List ℕ} {f : Fields} (m : ℕ) → Spelt d p f → 5 ≤ rank_of d → rank_of d < 8 → m < 60000000 → (m ≡ 0 → ⊥) → (m % 1000000 ≡ 0 → ⊥) → Sounded d m p f
seconds_part {d} {p} {f} m h lo hi small some n =
    let few : m % 1000000 < 10 ^ 6 = omega arith in
    let t : decimal (m / 1000000) ++ (46 ∷ (fraction_digits 6 (m % 1000000) ++ (83 ∷ []))) ≡ seconds_text m =
    sym (seconds_right m some ∙ ap (λ (x : List ℕ). decimal (m / 1000000) ++ (x ++ (83 ∷ []))) (point_some m n)) in
    record {
      last = Seconds;
      spelt = respelt (ap (λ (x : List ℕ). p ++ x) t) (ap (λ x. put_seconds f x (micros_of (fraction_digits 6 (m % 1000000)))) (decimal_value (m / 1000000) (omega arith)) ∙ ap (put_seconds f (m / 1000000)) (fraction_value (m % 1000000) few))
          (fraction h lo hi (decimal (m / 1000000)) (fraction_digits 6 (m % 1000000)) (decimal_digits (m / 1000000) (omega arith)) (fraction_some_digits (m % 1000000) few n));
      low = omega arith;
      there = λ _. refl;
    }

seconds_none_on : {d : Designator} {p : List ℕ} {f : Fields} (m : ℕ) → Spelt d p f → rank_of d < 8 → f.seconds ≡ 0 → f.micros ≡ 0 → m ≡ 0 → Sounded d m p f
seconds_none_on {d} {p} {f} m h hi no_seconds no_micros z =
    let a : f.seconds ≡ m / 1000000 = no_seconds ∙ omega arith in
    let b : f.micros ≡ m % 1000000 = no_micros ∙ omega arith in
    record {
      last = d;
      spelt = respelt (sym (ap (λ (x : List ℕ). p ++ x) (seconds_none m z) ∙ append-nil p)) (ap (λ n. put_seconds f n f.micros) a ∙ ap (put_seconds f (m / 1000000)) b) h;
      low = omega arith;
      there = λ g. absurd (omega arith);
    }

seconds_on : {d : Designator} {p : List ℕ} {f : Fields} (m : ℕ) → Spelt d p f → 5 ≤ rank_of d → rank_of d < 8 → f.seconds ≡ 0 → f.micros ≡ 0 → m < 60000000 → Sounded d m p f
seconds_on m h lo hi no_seconds no_micros small = elim (cases_eq m 0) [
  | inl z ↦ seconds_none_on m h hi no_seconds no_micros z
  | inr some ↦ elim (cases_eq (m % 1000000) 0) [ inl z ↦ seconds_whole m h lo hi no_micros small some z | inr n ↦ seconds_part m h lo hi small some n ]
]

-- the fields of a span
abbrev pub fields_of : Bool → Span → Fields
fields_of b s = F b (nat_abs s.years) (nat_abs s.months) (nat_abs s.weeks) (nat_abs s.days)
    (nat_abs s.time / 3600000000) (nat_abs s.time / 60000000 % 60) (nat_abs s.time % 60000000 / 1000000) (nat_abs s.time % 60000000 % 1000000)

record Timed (s : Span) (b : Bool) (p : List ℕ) : Type 0 where
  last : Designator
  spelt : Spelt last (p ++ time_text (nat_abs s.time)) (fields_of b s)
  late : 5 < rank_of last

-- some part of a time that isn't nought isn't nought
some_part : (t : ℕ) → (t ≡ 0 → ⊥) → t / 3600000000 ≡ 0 → t / 60000000 % 60 ≡ 0 → t % 60000000 ≡ 0 → ⊥
some_part t n a b c =
    let y : t / 60000000 / 60 ≡ t / 3600000000 = div-div-eq-div-mul t 60000000 60 in
    let q : t / 60000000 ≡ 0 = omega arith in
    omega arith

late_rank : (t a b c : ℕ) → (t ≡ 0 → ⊥) → 5 ≤ a → a ≤ b → b ≤ c
    → (0 < t / 3600000000 → a ≡ 6) → (0 < t / 60000000 % 60 → b ≡ 7) → (0 < t % 60000000 → c ≡ 8) → 5 < c
late_rank t a b c n lo p q x y z = elim (cases_eq c 5) [
  | inr e ↦ omega arith
  | inl e ↦ absurd (some_part t n (nought_if (t / 3600000000) a 6 x (omega arith)) (nought_if (t / 60000000 % 60) b 7 y (omega arith)) (nought_if (t % 60000000) c 8 z (omega arith)))
]

timed : (s : Span) (b : Bool) (d : Designator) (p : List ℕ) → InLimits s
    → Spelt d p (F b (nat_abs s.years) (nat_abs s.months) (nat_abs s.weeks) (nat_abs s.days) 0 0 0 0) → rank_of d ≤ 4 → (nat_abs s.time ≡ 0 → ⊥) → Timed s b p
timed s b d p l h low n =
    let t = nat_abs s.time in
    let o0 = time h (omega arith) in
    let o1 = part_on o0 (hours (omega arith) (omega arith)) (t / 3600000000) (omega (arith, l.time)) refl in
    let o2 = part_on o1.spelt (minutes o1.low (omega (arith, o1.high))) (t / 60000000 % 60) (omega arith) refl in
    let o3 = seconds_on (t % 60000000) o2.spelt (omega (arith, o1.low, o2.low)) (omega (arith, o2.high)) refl refl (omega arith) in
    let x : (((p ++ (84 ∷ [])) ++ part_text (t / 3600000000) (72 ∷ [])) ++ part_text (t / 60000000 % 60) (77 ∷ [])) ++ seconds_text (t % 60000000) ≡ p ++ clock_text t = simp append_assoc in
    record {
      last = o3.last;
      spelt = respelt {d = o3.last} (x ∙ ap (λ (z : List ℕ). p ++ z) (sym (time_some t n))) refl o3.spelt;
      late = late_rank t (rank_of o1.last) (rank_of o2.last) (rank_of o3.last) n o1.low o2.low o3.low o1.there o2.there o3.there;
    }

-- ── the whole ──

apart : (c d : Designator) → (rank_of c ≡ rank_of d → ⊥) → c ≡ d → ⊥
apart c d n e = n (ap rank_of e)

full : {t : List ℕ} {f : Fields} (d : Designator) → Spelt d t f → (rank_of d ≡ 0 → ⊥) → (rank_of d ≡ 5 → ⊥) → SpanText t f
full d h p q = record { last = d; spelt = h; any = apart d Period p; timed = apart d Time q }

opening : (b : Bool) → Spelt Period (sign_text b ++ (80 ∷ [])) (unsaid b)
opening true = minus
opening false = plus

text_is : (s : Span) → is_nought s ≡ false → ((sign_text (is_minus s) ++ (80 ∷ [])) ++ date_text s) ++ time_text (nat_abs s.time) ≡ span_text s
text_is s n =
    let x : ((sign_text (is_minus s) ++ (80 ∷ [])) ++ date_text s) ++ time_text (nat_abs s.time) ≡ sign_text (is_minus s) ++ (80 ∷ (date_text s ++ time_text (nat_abs s.time))) = simp append_assoc in
    x ∙ sym (span_right s n)

all_nought : (s : Span) → nat_abs s.years ≡ 0 → nat_abs s.months ≡ 0 → nat_abs s.weeks ≡ 0 → nat_abs s.days ≡ 0 → nat_abs s.time ≡ 0 → is_nought s ≡ true
all_nought s y m w d t =
    and_from _ _ (eq-eqb _ 0 y) (and_from _ _ (eq-eqb _ 0 m) (and_from _ _ (eq-eqb _ 0 w) (and_from _ _ (eq-eqb _ 0 d) (eq-eqb _ 0 t))))

pub some_spelling : (s : Span) → InLimits s → is_nought s ≡ false → SpanText (span_text s) (fields_of (is_minus s) s)
some_spelling s l n =
    let p = sign_text (is_minus s) ++ (80 ∷ []) in
    let d = dated s (is_minus s) p l (opening (is_minus s)) in
    elim (cases_eq (nat_abs s.time) 0) [
      | inl e ↦ full d.last
          (respelt (sym (append-nil (p ++ date_text s)) ∙ (ap (λ (z : List ℕ). (p ++ date_text s) ++ z) (sym (time_none (nat_abs s.time) e)) ∙ text_is s n))
          (ap (λ t. F (is_minus s) (nat_abs s.years) (nat_abs s.months) (nat_abs s.weeks) (nat_abs s.days) (t / 3600000000) (t / 60000000 % 60) (t % 60000000 / 1000000) (t % 60000000 % 1000000)) (sym e))
          d.spelt)
          (λ z. let o = d.none z in both_ways (is_nought s) n (all_nought s o.0 o.1 o.2 o.3 e)) (λ z. omega (arith, d.high))
      | inr e ↦
          let o = timed s (is_minus s) d.last (p ++ date_text s) l d.spelt d.high e in
          full o.last (respelt (text_is s n) refl o.spelt) (λ z. omega (arith, o.late)) (λ z. omega (arith, o.late))
    ]

nought_fields : (s : Span) → is_nought s ≡ true → unsaid false ≡ fields_of false s
nought_fields s n =
    let a = and_parts (eqb (nat_abs s.years) 0) _ n in
    let b = and_parts (eqb (nat_abs s.months) 0) _ a.1 in
    let c = and_parts (eqb (nat_abs s.weeks) 0) _ b.1 in
    let d = and_parts (eqb (nat_abs s.days) 0) (eqb (nat_abs s.time) 0) c.1 in
    ap (λ z. F false z 0 0 0 0 0 0 0) (sym (eqb-true (nat_abs s.years) 0 a.0))
    ∙ (ap (λ z. F false (nat_abs s.years) z 0 0 0 0 0 0) (sym (eqb-true (nat_abs s.months) 0 b.0))
    ∙ (ap (λ z. F false (nat_abs s.years) (nat_abs s.months) z 0 0 0 0 0) (sym (eqb-true (nat_abs s.weeks) 0 c.0))
    ∙ (ap (λ z. F false (nat_abs s.years) (nat_abs s.months) (nat_abs s.weeks) z 0 0 0 0) (sym (eqb-true (nat_abs s.days) 0 d.0))
    ∙ ap (λ t. F false (nat_abs s.years) (nat_abs s.months) (nat_abs s.weeks) (nat_abs s.days) (t / 3600000000) (t / 60000000 % 60) (t % 60000000 / 1000000) (t % 60000000 % 1000000)) (sym (eqb-true (nat_abs s.time) 0 d.1)))))

pub nought_spelling : (s : Span) → is_nought s ≡ true → SpanText (span_text s) (fields_of false s)
nought_spelling s n =
    let digit : Digits 9 (48 ∷ []) = record { all = (omega arith, omega arith, tt); some = omega arith; few = omega arith } in
    full Seconds (respelt (sym (span_nought s n)) (nought_fields s n) (part (time plus (omega arith)) (seconds (omega arith) (omega arith)) (48 ∷ []) digit)) (λ z. omega arith) (λ z. omega arith)
