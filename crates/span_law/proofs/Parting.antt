-- The date parts from one day to another, by each unit.
use Rattle.std.proofs.Common.{◌≡◌, ℕ, ◌+◌, ◌/◌, ◌%◌, ◌<◌, ◌≤◌, true, ◌⊎◌, ℤ, pos, ◌+ℤ◌, ◌-ℤ◌, ◌*ℤ◌, nat_abs, Some, refl, ap, ◌∙◌, subst, inl, inr, ⊎_elim, arith}
use Rattle.std.proofs.lemmas.Int.{ints}
use Rattle.std.proofs.lemmas.Bool.{cases_eq, cases_lt}
use Rattle.span_law.specs.declared.unit.Unit.{Unit as Measure}
use Rattle.span_law.specs.declared.unit.Unit.TheVariants.{Year, Month, Week, Day, Hour}
use Rattle.calendar.specs.Calendars.{Calendar, CalendarLaws, last_day}
use Rattle.span_law.specs.declared.way.Way.{Way}
use Rattle.span_law.specs.declared.way.Way.TheVariants.{Onward as onward, Back as back}
use Rattle.span_law.specs.Measuring.{fits_before, years_apart, months_apart, days_left, Parts, parts_after, gap, parts_by, span_of}
use Rattle.span_law.specs.Stepping.{signed, year_on, in_days, day_on}
use Rattle.span_law.specs.Standing.{Leads}
use Rattle.span_law.proofs.Splits.{Cuts, years_fit, years_start, cuts, in_days_is, lands, lands_plain, years_more, months_more, left_more, left_is}

-- a part of p is the first that differs, and is smaller there
abbrev pub Fewer : Parts → Parts → Type 0
Fewer p q =
    (p.years < q.years) ⊎
    ((p.years ≡ q.years) ×
    ((p.months < q.months) ⊎
    ((p.months ≡ q.months) ×
    ((p.weeks < q.weeks) ⊎
    ((p.weeks ≡ q.weeks) × (p.days < q.days))))))

-- how many parts there are in all
abbrev pub total : Parts → ℕ
total p = p.years + p.months + p.weeks + p.days

-- what the date parts keep
pub record Parted (c : Calendar) (way : Way) (d x : ℕ) (p : Parts) : Type 0 where
  pub none : d ≡ x → total p ≡ 0
  pub some : ¬ (d ≡ x) → 1 ≤ total p
  pub lands : (time : ℤ) → day_on c d (span_of way p time) ≡ Some (pos x)

-- the units that count dates
abbrev pub Dated : Measure → Type 0
Dated Year = Unit {0}
Dated Month = Unit {0}
Dated Week = Unit {0}
Dated Day = Unit {0}
Dated Hour = ⊥

pub signed_none : (way : Way) → signed way 0 ≡ pos 0
signed_none onward = refl
signed_none back = refl

week_to : (way : Way) (d x : ℕ) → Leads way d x → pos d +ℤ ((pos 7 *ℤ signed way (nat_abs (pos x -ℤ pos d) / 7)) +ℤ signed way (nat_abs (pos x -ℤ pos d) % 7)) ≡ pos x
week_to onward d x l = omega (arith, ints)
week_to back d x l = omega (arith, ints)

day_to : (way : Way) (d x : ℕ) → Leads way d x → pos d +ℤ ((pos 7 *ℤ signed way 0) +ℤ signed way (nat_abs (pos x -ℤ pos d))) ≡ pos x
day_to onward d x l = omega (arith, ints)
day_to back d x l = omega (arith, ints)

module _ (c : Calendar) (laws : CalendarLaws c) where
  after_parted : (way : Way) (d x : ℕ) → 1 ≤ d → d ≤ last_day → 1 ≤ x → x ≤ last_day → Leads way d x → (years : ℕ) →
      fits_before c way d x (year_on c (c.date d) (signed way years)) ≡ true → Parted c way d x (parts_after c way d x years)
  after_parted way d x d1 d2 x1 x2 l years f =
      let k = cuts c laws way d x d1 d2 x1 x2 l years f in
      let e = left_is c laws way d x years (months_apart c way d x years) k in
      record {
        none = λ s. let z = k.none s in let w = k.start z in omega (arith, ints);
        some = λ s.
            ⊎_elim (λ (z : years + months_apart c way d x years ≡ 0). let w = k.start z in omega (arith, ints))
            (λ (z : years + months_apart c way d x years ≡ 0 → ⊥). omega arith)
            (cases_eq (years + months_apart c way d x years) 0);
        lands = lands c laws way d x years (months_apart c way d x years) x1 x2 k;
      }

  pub parted : (way : Way) (d x : ℕ) → 1 ≤ d → d ≤ last_day → 1 ≤ x → x ≤ last_day → Leads way d x → (unit : Measure) → Dated unit → Parted c way d x (parts_by c way d x unit)
  parted way d x d1 d2 x1 x2 l Year u = after_parted way d x d1 d2 x1 x2 l (years_apart c way d x) (years_fit c laws way d x d1 d2 x1 x2 l)
  parted way d x d1 d2 x1 x2 l Month u = after_parted way d x d1 d2 x1 x2 l 0 (years_start c laws way d x d1 d2 x1 x2 l)
  parted way d x d1 d2 x1 x2 l Week u =
      record {
        none = λ s. omega (arith, ints);
        some = λ s. omega (arith, ints);
        lands = λ time.
            lands_plain c laws d d1 d2 (span_of way (parts_by c way d x Week) time) (signed_none way) (signed_none way)
            ∙ ap in_days (week_to way d x l) ∙ in_days_is c laws (pos x) (omega (arith, ints)) (omega (arith, ints));
      }
  parted way d x d1 d2 x1 x2 l Day u =
      record {
        none = λ s. omega (arith, ints);
        some = λ s. omega (arith, ints);
        lands = λ time.
            lands_plain c laws d d1 d2 (span_of way (parts_by c way d x Day) time) (signed_none way) (signed_none way)
            ∙ ap in_days (day_to way d x l) ∙ in_days_is c laws (pos x) (omega (arith, ints)) (omega (arith, ints));
      }
  parted way d x d1 d2 x1 x2 l Hour u = absurd u

  same_after : (way : Way) (d x y : ℕ) → 1 ≤ d → d ≤ last_day → 1 ≤ x → x ≤ last_day → 1 ≤ y → y ≤ last_day → Leads way d x → Leads way d y → Leads way x y → ¬ (x ≡ y) → (years : ℕ) →
      fits_before c way d x (year_on c (c.date d) (signed way years)) ≡ true → fits_before c way d y (year_on c (c.date d) (signed way years)) ≡ true →
      Fewer (parts_after c way d x years) (parts_after c way d y years)
  same_after way d x y d1 d2 x1 x2 y1 y2 lx ly l n years f g =
      let k = cuts c laws way d x d1 d2 x1 x2 lx years f in
      let j = cuts c laws way d y d1 d2 y1 y2 ly years g in
      let m = months_more c laws way d x y d1 d2 x1 x2 y1 y2 l years f in
      inr (
        refl,
        ⊎_elim (λ (s : months_apart c way d x years < months_apart c way d y years). inl s)
            (λ (s : months_apart c way d y years ≤ months_apart c way d x years).
            let e : months_apart c way d x years ≡ months_apart c way d y years = omega arith in
            inr (
              e,
              inr (
                refl,
                subst (λ (z : ℕ). Cuts c laws way d y years z → days_left c way d x years (months_apart c way d x years) < days_left c way d y years z) e
                    (λ w. left_more c laws way d x y years (months_apart c way d x years) k w l n) j,
              ),
            ))
            (cases_lt (months_apart c way d x years) (months_apart c way d y years)),
      )

  after_fewer : (way : Way) (d x y : ℕ) → 1 ≤ d → d ≤ last_day → 1 ≤ x → x ≤ last_day → 1 ≤ y → y ≤ last_day → Leads way d x → Leads way d y → Leads way x y → ¬ (x ≡ y) → (years more : ℕ) → years ≤ more →
      fits_before c way d x (year_on c (c.date d) (signed way years)) ≡ true → fits_before c way d y (year_on c (c.date d) (signed way more)) ≡ true →
      Fewer (parts_after c way d x years) (parts_after c way d y more)
  after_fewer way d x y d1 d2 x1 x2 y1 y2 lx ly l n years more h f g =
      ⊎_elim (λ (s : years < more). inl s)
      (λ (s : more ≤ years).
      let e : years ≡ more = omega arith in
      subst (λ (z : ℕ). fits_before c way d y (year_on c (c.date d) (signed way z)) ≡ true → Fewer (parts_after c way d x years) (parts_after c way d y z)) e
      (λ w. same_after way d x y d1 d2 x1 x2 y1 y2 lx ly l n years f w) g)
      (cases_lt years more)

  week_fewer : (way : Way) (d x y : ℕ) → Leads way d x → Leads way x y → ¬ (x ≡ y) → Fewer (parts_by c way d x Week) (parts_by c way d y Week)
  week_fewer way d x y lx l n =
      let g : gap c way d x < gap c way d y = gaps way lx l in
      inr (
        refl,
        inr (
          refl,
          ⊎_elim (λ (s : gap c way d x / 7 < gap c way d y / 7). inl s)
              (λ (s : gap c way d y / 7 ≤ gap c way d x / 7). let e : gap c way d x / 7 ≡ gap c way d y / 7 = omega arith in inr (e, omega arith))
              (cases_lt (gap c way d x / 7) (gap c way d y / 7)),
        ),
      )
    where
      gaps : (w : Way) → Leads w d x → Leads w x y → nat_abs (pos x -ℤ pos d) < nat_abs (pos y -ℤ pos d)
      gaps onward h k = omega (arith, ints)
      gaps back h k = omega (arith, ints)

  day_fewer : (way : Way) (d x y : ℕ) → Leads way d x → Leads way x y → ¬ (x ≡ y) → Fewer (parts_by c way d x Day) (parts_by c way d y Day)
  day_fewer onward d x y lx l n = inr (refl, inr (refl, inr (refl, omega (arith, ints))))
  day_fewer back d x y lx l n = inr (refl, inr (refl, inr (refl, omega (arith, ints))))

  -- a farther day has more
  pub fewer : (way : Way) (d x y : ℕ) → 1 ≤ d → d ≤ last_day → 1 ≤ x → x ≤ last_day → 1 ≤ y → y ≤ last_day → Leads way d x → Leads way d y → Leads way x y → ¬ (x ≡ y) →
      (unit : Measure) → Dated unit → Fewer (parts_by c way d x unit) (parts_by c way d y unit)
  fewer way d x y d1 d2 x1 x2 y1 y2 lx ly l n Year u =
      after_fewer way d x y d1 d2 x1 x2 y1 y2 lx ly l n (years_apart c way d x) (years_apart c way d y) (years_more c laws way d x y d1 d2 x1 x2 y1 y2 lx l)
      (years_fit c laws way d x d1 d2 x1 x2 lx) (years_fit c laws way d y d1 d2 y1 y2 ly)
  fewer way d x y d1 d2 x1 x2 y1 y2 lx ly l n Month u =
      same_after way d x y d1 d2 x1 x2 y1 y2 lx ly l n 0 (years_start c laws way d x d1 d2 x1 x2 lx) (years_start c laws way d y d1 d2 y1 y2 ly)
  fewer way d x y d1 d2 x1 x2 y1 y2 lx ly l n Week u = week_fewer way d x y lx l n
  fewer way d x y d1 d2 x1 x2 y1 y2 lx ly l n Day u = day_fewer way d x y lx l n
  fewer way d x y d1 d2 x1 x2 y1 y2 lx ly l n Hour u = absurd u
