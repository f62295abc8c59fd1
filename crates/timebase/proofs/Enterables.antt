-- A span has no wrong part exactly where a text can enter it.
use Rattle.std.proofs.Common.{◌≡◌, ℕ, ◌+◌, ◌<◌, ◌≤◌, get_or, drop, ◌∙◌, Bool, true, false, cond, ltb, ℤ, pos, nat_abs, ◌≤ℤ◌, Some, None, Option, sym, refl, inl, inr, arith, MatchOption}
use lib.Signed.{lt_z}
use Rattle.std.proofs.lemmas.Int.{ints}
use Rattle.std.proofs.lemmas.List.{at_drop_more}
use Rattle.std.specs.List.{find}
use Rattle.std.proofs.lemmas.Bool.{cases_Bool, or_parts, or_from, le-ltb, ltb-false, both_ways}
use Rattle.timebase.specs.declared.span.Part.{Part}
use Rattle.timebase.specs.declared.span.Part.TheVariants.{Years, Months, Weeks, Days, Time}
use Rattle.timebase.specs.declared.span.Span.{Span}
use Rattle.timebase.specs.Spans.{part_limit, time_limit, NoneBelow, NoneAbove, Enterable, is_minus, is_wrong, all_parts, limit_of, part_of, wrong_part}

-- a part within its limit, with the sign of the span
right : (minus : Bool) (limit : ℕ) (part : ℤ) → nat_abs part ≤ limit → (minus ≡ true → part ≤ℤ pos 0) → is_wrong minus limit part ≡ false
right true limit part small below = or_from _ _ (le-ltb limit (nat_abs part) small) (let h = below refl in grind (arith, ints))
right false limit part small below = or_from _ _ (le-ltb limit (nat_abs part) small) refl

limit_kept : (minus : Bool) (limit : ℕ) (part : ℤ) → is_wrong minus limit part ≡ false → nat_abs part ≤ limit
limit_kept minus limit part h = ltb-false limit (nat_abs part) (or_parts _ _ h).0

not_above : (minus : Bool) (limit : ℕ) (part : ℤ) → minus ≡ true → is_wrong minus limit part ≡ false → part ≤ℤ pos 0
not_above true limit part e h = let k : lt_z (pos 0) part ≡ false = (or_parts (ltb limit (nat_abs part)) (lt_z (pos 0) part) h).1 in grind (arith, ints)
not_above false limit part e h = absurd (both_ways false refl e)

not_below : (part : ℤ) → lt_z part (pos 0) ≡ false → pos 0 ≤ℤ part
not_below part h = grind (arith, ints)

pub none_below : (s : Span) → is_minus s ≡ false → NoneBelow s
none_below s h =
    let a = or_parts (lt_z s.years (pos 0)) _ h in
    let b = or_parts (lt_z s.months (pos 0)) _ a.1 in
    let c = or_parts (lt_z s.weeks (pos 0)) _ b.1 in
    let d = or_parts (lt_z s.days (pos 0)) _ c.1 in
    record { years = not_below _ a.0; months = not_below _ b.0; weeks = not_below _ c.0; days = not_below _ d.0; time = not_below _ d.1 }

not_minus : (part : ℤ) → pos 0 ≤ℤ part → lt_z part (pos 0) ≡ false
not_minus part h = grind (arith, ints)

plus : (s : Span) → NoneBelow s → is_minus s ≡ false
plus s p =
    or_from _ _ (not_minus s.years p.years) (or_from _ _ (not_minus s.months p.months) (or_from _ _ (not_minus s.weeks p.weeks)
    (or_from _ _ (not_minus s.days p.days) (not_minus s.time p.time))))

-- every part that the test asks after is right
pub record AllRight (s : Span) : Type 0 where
  pub years : is_wrong (is_minus s) part_limit s.years ≡ false
  pub months : is_wrong (is_minus s) part_limit s.months ≡ false
  pub weeks : is_wrong (is_minus s) part_limit s.weeks ≡ false
  pub days : is_wrong (is_minus s) part_limit s.days ≡ false
  pub time : is_wrong (is_minus s) time_limit s.time ≡ false

pub entered : (s : Span) → AllRight s → Enterable s
entered s a = record {
  signs = elim (cases_Bool (is_minus s)) [
    | inl m ↦ inr (record {
      years = not_above _ part_limit _ m a.years;
      months = not_above _ part_limit _ m a.months;
      weeks = not_above _ part_limit _ m a.weeks;
      days = not_above _ part_limit _ m a.days;
      time = not_above _ time_limit _ m a.time;
    })
    | inr m ↦ inl (none_below s m)
  ];
  limits = record {
    years = limit_kept (is_minus s) _ s.years a.years;
    months = limit_kept (is_minus s) _ s.months a.months;
    weeks = limit_kept (is_minus s) _ s.weeks a.weeks;
    days = limit_kept (is_minus s) _ s.days a.days;
    time = limit_kept (is_minus s) _ s.time a.time;
  };
}

-- where some part is below nought, none is above
pub below : (s : Span) → Enterable s → is_minus s ≡ true → NoneAbove s
below s e m = elim e.signs [ inl p ↦ absurd (both_ways (is_minus s) (plus s p) m) | inr n ↦ n ]

pub all_right : (s : Span) → Enterable s → AllRight s
all_right s e = record {
  years = right (is_minus s) _ _ e.limits.years (λ m. (below s e m).years);
  months = right (is_minus s) _ _ e.limits.months (λ m. (below s e m).months);
  weeks = right (is_minus s) _ _ e.limits.weeks (λ m. (below s e m).weeks);
  days = right (is_minus s) _ _ e.limits.days (λ m. (below s e m).days);
  time = right (is_minus s) _ _ e.limits.time (λ m. (below s e m).time);
}

pub enterable_right : (s : Span) → Enterable s → wrong_part s ≡ None
enterable_right s e = let a = all_right s e in simp (a.years, a.months, a.weeks, a.days, a.time)

wrong : (s : Span) (part : Part) → wrong_part s ≡ Some part → Enterable s → ⊥
wrong s part h e = let n = enterable_right s e in let z : ◌≡◌ {A = ℕ} 0 1 = cc in omega arith

-- the tests one after another
module _ (s : Span) where
  first_of : (y m w d t : Bool)
      → is_wrong (is_minus s) part_limit s.years ≡ y → is_wrong (is_minus s) part_limit s.months ≡ m → is_wrong (is_minus s) part_limit s.weeks ≡ w
      → is_wrong (is_minus s) part_limit s.days ≡ d → is_wrong (is_minus s) time_limit s.time ≡ t
      → cond y (Some Years) (cond m (Some Months) (cond w (Some Weeks) (cond d (Some Days) (cond t (Some Time) None)))) ≡ None → AllRight s
  first_of false false false false false a b c d e h = record { years = a; months = b; weeks = c; days = d; time = e }
  first_of true m w d t _ _ _ _ _ h = let z : ◌≡◌ {A = ℕ} 0 1 = cc in absurd (omega arith)
  first_of false true w d t _ _ _ _ _ h = let z : ◌≡◌ {A = ℕ} 0 1 = cc in absurd (omega arith)
  first_of false false true d t _ _ _ _ _ h = let z : ◌≡◌ {A = ℕ} 0 1 = cc in absurd (omega arith)
  first_of false false false true t _ _ _ _ _ h = let z : ◌≡◌ {A = ℕ} 0 1 = cc in absurd (omega arith)
  first_of false false false false true _ _ _ _ _ h = let z : ◌≡◌ {A = ℕ} 0 1 = cc in absurd (omega arith)

pub right_enterable : (s : Span) → wrong_part s ≡ None → Enterable s
right_enterable s h = entered s (first_of s _ _ _ _ _ refl refl refl refl refl h)

pub wrong_law : (s : Span) (r : Option Part) → r ≡ wrong_part s → record { value : r ≡ wrong_part s; law : MatchOption r (Enterable s) (λ _. Enterable s → ⊥) }
wrong_law s (Some part) h = record { value = h; law = wrong s part (sym h) }
wrong_law s None h = record { value = h; law = right_enterable s (sym h) }

-- ── the parts one after another ──

abbrev pub is_wrong_part : Span → Part → Bool
is_wrong_part s p = is_wrong (is_minus s) (limit_of p) (part_of s p)

module _ (s : Span) (i : ℕ) (more : i < 5) where
  abbrev pub part : Part
  part = get_or all_parts i Years

  pub wrong_here : is_wrong_part s part ≡ true → find (is_wrong_part s) (drop i all_parts) ≡ Some part
  wrong_here e = at_drop_more (find (is_wrong_part s)) all_parts i Years more ∙ rw e refl

  pub right_here : is_wrong_part s part ≡ false → find (is_wrong_part s) (drop i all_parts) ≡ find (is_wrong_part s) (drop (i + 1) all_parts)
  right_here e = at_drop_more (find (is_wrong_part s)) all_parts i Years more ∙ rw e refl
