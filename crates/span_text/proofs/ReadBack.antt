-- Reading the canonical text of a span gives the span.
use Rattle.std.proofs.Common.{◌≡◌, ℕ, zero, suc, ◌+◌, ◌*◌, ◌/◌, ◌%◌, ◌≤◌, Bool, true, false, eqb, ℤ, pos, negsuc, nat_abs, ◌≤ℤ◌, Ok, Err, sym, refl, ap, ◌∙◌, inl, inr, arith}
use native.Mathlib.Nat.{div-div-eq-div-mul}
use Rattle.std.proofs.lemmas.Int.{ints}
use Rattle.std.proofs.lemmas.Bool.{cases_Bool, and_parts, eqb-true}
use Rattle.timebase.specs.declared.fault.Fault.TheVariants.{Unreadable}
use Rattle.timebase.specs.declared.span.Span.{Span}
use Rattle.timebase.specs.Spans.{time_limit, InLimits, NoneBelow, NoneAbove, Enterable, is_minus}
use Rattle.timebase.proofs.Enterables.{none_below, below}
use Rattle.span_text.specs.Canonical.{is_nought, span_text}
use Rattle.span_text.specs.Grammar.{SpanText}
use Rattle.span_text.specs.Spans.{time_of, signed, span_of, limited_span, read_span, WithinLimits}
use Rattle.span_text.proofs.Complete.{complete}
use Rattle.span_text.proofs.Signs.{limited_within}
use Rattle.span_text.proofs.Spelling.{fields_of, some_spelling, nought_spelling}

-- a sign and a magnitude make the part again
plus_part : (z : ℤ) → pos 0 ≤ℤ z → signed false (nat_abs z) ≡ z
plus_part (pos n) h = refl
plus_part (negsuc n) h = absurd h.le

minus_part : (z : ℤ) → z ≤ℤ pos 0 → signed true (nat_abs z) ≡ z
minus_part (pos zero) h = refl
minus_part (pos (suc n)) h = absurd (let k : pos (suc n) ≤ℤ pos 0 = h in omega (arith, ints))
minus_part (negsuc n) h = refl

-- the time of its hours, minutes, seconds and fraction
time_again : (t : ℕ) → t / 3600000000 * 3600000000 + t / 60000000 % 60 * 60000000 + t % 60000000 / 1000000 * 1000000 + t % 60000000 % 1000000 ≡ t
time_again t = let y : t / 60000000 / 60 ≡ t / 3600000000 = div-div-eq-div-mul t 60000000 60 in omega arith

-- the parts of a span, made again from a sign and their magnitudes
record SignedParts (b : Bool) (s : Span) : Type 0 where
  years : signed b (nat_abs s.years) ≡ s.years
  months : signed b (nat_abs s.months) ≡ s.months
  weeks : signed b (nat_abs s.weeks) ≡ s.weeks
  days : signed b (nat_abs s.days) ≡ s.days
  time : signed b (nat_abs s.time) ≡ s.time

same_span : (a b c d e : ℤ) (s : Span) → a ≡ s.years → b ≡ s.months → c ≡ s.weeks → d ≡ s.days → e ≡ s.time
    → record { years = a; months = b; weeks = c; days = d; time = e } ≡ s
same_span a b c d e s p q r u v =
    ap (λ z. record { years = z; months = b; weeks = c; days = d; time = e }) p
    ∙ (ap (λ z. record { years = s.years; months = z; weeks = c; days = d; time = e }) q
    ∙ (ap (λ z. record { years = s.years; months = s.months; weeks = z; days = d; time = e }) r
    ∙ (ap (λ z. record { years = s.years; months = s.months; weeks = s.weeks; days = z; time = e }) u
    ∙ ap (λ z. record { years = s.years; months = s.months; weeks = s.weeks; days = s.days; time = z }) v)))

span_again : (b : Bool) (s : Span) → SignedParts b s → span_of (fields_of b s) ≡ s
span_again b s p = same_span _ _ _ _ _ s p.years p.months p.weeks p.days (ap (signed b) (time_again (nat_abs s.time)) ∙ p.time)

within_again : (b : Bool) (s : Span) → InLimits s → WithinLimits (fields_of b s)
within_again b s l =
    let k : time_of (fields_of b s) ≤ time_limit = omega (arith, time_again (nat_abs s.time), l.time) in
    record { years = l.years; months = l.months; weeks = l.weeks; days = l.days; time = k }

limited_again : (b : Bool) (s : Span) → InLimits s → SignedParts b s → limited_span (fields_of b s) ≡ Ok s
limited_again b s l p = sym (limited_within (fields_of b s) (within_again b s l)) ∙ ap Ok (span_again b s p)

read_again : (b : Bool) (s : Span) → InLimits s → SignedParts b s → SpanText (span_text s) (fields_of b s) → read_span (span_text s) ≡ Ok s
read_again b s l p t =
    ap (λ r. elim r [ Ok f ↦ limited_span f | Err m ↦ Err (Unreadable m.at) ]) (complete (span_text s) (fields_of b s) t) ∙ limited_again b s l p

plus_parts : (s : Span) → NoneBelow s → SignedParts false s
plus_parts s n = record {
  years = plus_part s.years n.years;
  months = plus_part s.months n.months;
  weeks = plus_part s.weeks n.weeks;
  days = plus_part s.days n.days;
  time = plus_part s.time n.time;
}

minus_parts : (s : Span) → NoneAbove s → SignedParts true s
minus_parts s n = record {
  years = minus_part s.years n.years;
  months = minus_part s.months n.months;
  weeks = minus_part s.weeks n.weeks;
  days = minus_part s.days n.days;
  time = minus_part s.time n.time;
}

-- a span whose parts share a sign has that of its parts
signed_parts : (b : Bool) (s : Span) → is_minus s ≡ b → Enterable s → SignedParts b s
signed_parts false s m e = plus_parts s (none_below s m)
signed_parts true s m e = minus_parts s (below s e m)

nought_below : (z : ℤ) → eqb (nat_abs z) 0 ≡ true → pos 0 ≤ℤ z
nought_below z h = let k : nat_abs z ≡ 0 = eqb-true (nat_abs z) 0 h in omega (arith, ints)

noughts_below : (s : Span) → is_nought s ≡ true → NoneBelow s
noughts_below s n =
    let a = and_parts (eqb (nat_abs s.years) 0) _ n in
    let b = and_parts (eqb (nat_abs s.months) 0) _ a.1 in
    let c = and_parts (eqb (nat_abs s.weeks) 0) _ b.1 in
    let d = and_parts (eqb (nat_abs s.days) 0) (eqb (nat_abs s.time) 0) c.1 in
    record {
      years = nought_below s.years a.0;
      months = nought_below s.months b.0;
      weeks = nought_below s.weeks c.0;
      days = nought_below s.days d.0;
      time = nought_below s.time d.1;
    }

pub round_trip : (s : Span) → Enterable s → read_span (span_text s) ≡ Ok s
round_trip s e = elim (cases_Bool (is_nought s)) [
  | inl n ↦ read_again false s e.limits (plus_parts s (noughts_below s n)) (nought_spelling s n)
  | inr n ↦ read_again (is_minus s) s e.limits (signed_parts (is_minus s) s refl e) (some_spelling s e.limits n)
]
