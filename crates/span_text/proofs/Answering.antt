-- The reader's answers, by the grammar.
use Rattle.std.proofs.Common.{◌≡◌, ℕ, zero, suc, ◌≤◌, Bool, true, false, cond, ltb, ◌⊎◌, List, pos, nat_abs, ◌≤ℤ◌, Some, None, Ok, Err, Result, sym, refl, ◌∙◌, subst, inl, inr, arith}
use Rattle.std.proofs.lemmas.Int.{ints}
use Rattle.std.proofs.lemmas.Bool.{ltb-true, ltb-false}
use Rattle.timebase.specs.declared.fault.Fault.{Fault}
use Rattle.timebase.specs.declared.fault.Fault.TheVariants.{Unreadable, PastLimit}
use Rattle.timebase.specs.declared.span.Part.TheVariants.{Years, Months, Weeks, Days, Time}
use Rattle.timebase.specs.declared.span.Span.{Span}
use Rattle.timebase.specs.Spans.{part_limit, time_limit, NoneBelow, NoneAbove, Enterable}
use Rattle.reading.specs.declared.Misread.{Misread}
use Rattle.reading.specs.Places.{Answers}
use Rattle.reading.proofs.Machines.{answers}
use Rattle.span_text.specs.declared.scan.Fields.{Fields}
use Rattle.span_text.specs.Scanning.{start, stepped, ended, read_fields}
use Rattle.span_text.specs.Grammar.{SpanText}
use Rattle.span_text.specs.Spans.{time_of, signed, span_of, limited_span, read_span, WithinLimits, Answered}
use Rattle.span_text.specs.Spans.Answered.{reads, unreadable, past}
use Rattle.span_text.proofs.Live.{live}
use Rattle.span_text.proofs.Sound.{sound}
use Rattle.span_text.proofs.Complete.{complete}

-- ── signs and limits ──

signed_size : (minus : Bool) (n : ℕ) → nat_abs (signed minus n) ≡ n
signed_size false n = refl
signed_size true zero = refl
signed_size true (suc n) = refl

not_below : (n : ℕ) → pos 0 ≤ℤ signed false n
not_below n = omega (arith, ints)

not_above : (n : ℕ) → signed true n ≤ℤ pos 0
not_above n = omega (arith, ints)

one_sign : (f : Fields) (minus : Bool) → f.minus ≡ minus → NoneBelow (span_of f) ⊎ NoneAbove (span_of f)
one_sign f false e = inl (record {
  years = subst (λ m. pos 0 ≤ℤ signed m f.years) (sym e) (not_below f.years);
  months = subst (λ m. pos 0 ≤ℤ signed m f.months) (sym e) (not_below f.months);
  weeks = subst (λ m. pos 0 ≤ℤ signed m f.weeks) (sym e) (not_below f.weeks);
  days = subst (λ m. pos 0 ≤ℤ signed m f.days) (sym e) (not_below f.days);
  time = subst (λ m. pos 0 ≤ℤ signed m (time_of f)) (sym e) (not_below (time_of f));
})
one_sign f true e = inr (record {
  years = subst (λ m. signed m f.years ≤ℤ pos 0) (sym e) (not_above f.years);
  months = subst (λ m. signed m f.months ≤ℤ pos 0) (sym e) (not_above f.months);
  weeks = subst (λ m. signed m f.weeks ≤ℤ pos 0) (sym e) (not_above f.weeks);
  days = subst (λ m. signed m f.days ≤ℤ pos 0) (sym e) (not_above f.days);
  time = subst (λ m. signed m (time_of f) ≤ℤ pos 0) (sym e) (not_above (time_of f));
})

sized : (minus : Bool) (n limit : ℕ) → n ≤ limit → nat_abs (signed minus n) ≤ limit
sized minus n limit h = rw (signed_size minus n) h

enterable : (f : Fields) → WithinLimits f → Enterable (span_of f)
enterable f w = record {
  signs = one_sign f f.minus refl;
  limits = record {
    years = sized f.minus f.years part_limit w.years;
    months = sized f.minus f.months part_limit w.months;
    weeks = sized f.minus f.weeks part_limit w.weeks;
    days = sized f.minus f.days part_limit w.days;
    time = sized f.minus (time_of f) time_limit w.time;
  };
}

-- ── the answer ──

module _ (t : List ℕ) (f : Fields) (text : SpanText t f) where
  by_tests : (y m w d x : Bool)
      → ltb part_limit f.years ≡ y → ltb part_limit f.months ≡ m → ltb part_limit f.weeks ≡ w → ltb part_limit f.days ≡ d
      → ltb time_limit (time_of f) ≡ x
      → Answered t (elim (cond y (Some Years) (cond m (Some Months) (cond w (Some Weeks) (cond d (Some Days) (cond x (Some Time) None))))) [ Some part ↦ Err (PastLimit part) | None ↦ Ok (span_of f) ])
  by_tests true m w d x a b c e g = past {part = Years} text (ltb-true part_limit f.years a)
  by_tests false true w d x a b c e g = past {part = Months} text (ltb-false part_limit f.years a, ltb-true part_limit f.months b)
  by_tests false false true d x a b c e g = past {part = Weeks} text (ltb-false part_limit f.years a, ltb-false part_limit f.months b, ltb-true part_limit f.weeks c)
  by_tests false false false true x a b c e g =
      past {part = Days} text (ltb-false part_limit f.years a, ltb-false part_limit f.months b, ltb-false part_limit f.weeks c, ltb-true part_limit f.days e)
  by_tests false false false false true a b c e g =
      past {part = Time} text (ltb-false part_limit f.years a, ltb-false part_limit f.months b, ltb-false part_limit f.weeks c, ltb-false part_limit f.days e, ltb-true time_limit (time_of f) g)
  by_tests false false false false false a b c e g =
      let w : WithinLimits f = record {
        years = ltb-false part_limit f.years a;
        months = ltb-false part_limit f.months b;
        weeks = ltb-false part_limit f.weeks c;
        days = ltb-false part_limit f.days e;
        time = ltb-false time_limit (time_of f) g;
      } in
      reads text w (enterable f w)

  limits_answered : Answered t (limited_span f)
  limits_answered = by_tests _ _ _ _ _ refl refl refl refl refl

fields_answered : (t : List ℕ) (r : Result Fields Misread) → Answers SpanText t r → Answered t (elim r [ Ok f ↦ limited_span f | Err m ↦ Err (Unreadable m.at) ])
fields_answered t (Ok f) a = limits_answered t f a
fields_answered t (Err m) a = unreadable a

pub answered : (t : List ℕ) → Answered t (read_span t)
answered t = fields_answered t (read_fields t) (answers stepped ended SpanText live start sound complete t)

-- a text says one thing
pub one : (t : List ℕ) (f g : Fields) → SpanText t f → SpanText t g → f ≡ g
one t f g a b = let e : Ok f ≡ Ok g = sym (complete t f a) ∙ complete t g b in cc

pub lawful : (t : List ℕ) (r : Result Span Fault) → r ≡ read_span t
    → record { value : r ≡ read_span t; grammar : Answered t r; one : (f g : Fields) → SpanText t f → SpanText t g → f ≡ g }
lawful t r e = record { value = e; grammar = subst (Answered t) (sym e) (answered t); one = one t }
