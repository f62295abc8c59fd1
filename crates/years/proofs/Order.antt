-- Dates in order, and the days that they stand for, are ordered alike.
use Rattle.std.proofs.Common.{◌≡◌, ℕ, zero, suc, ◌+◌, ◌<◌, ◌≤◌, ltb, ◌⊎◌, pos, ◌+ℤ◌, sym, refl, ◌∙◌, subst, inl, inr, ⊎_elim, not-suc-le-zero, arith}
use Rattle.std.proofs.lemmas.Int.{ints, by_lt_z}
use Rattle.std.proofs.lemmas.Bool.{cond_both, ltb-true, ltb-false, cases_order, cases_lt}
use Rattle.years.specs.declared.date.Date.{Date}
use Rattle.years.specs.Dates.{Shape, Valid, Filled, next, day_on, month_on, year_on, after, Before}

pub before_trans : (a b c : Date) → Before a b → Before b c → Before a c
before_trans a b c (inl p) (inl q) = inl (omega (arith, ints))
before_trans a b c (inl p) (inr q) = inl (omega (arith, ints))
before_trans a b c (inr p) (inl q) = inl (omega (arith, ints))
before_trans a b c (inr (p, inl u)) (inr (q, inl v)) = inr (p ∙ q, inl (omega arith))
before_trans a b c (inr (p, inl u)) (inr (q, inr v)) = inr (p ∙ q, inl (omega arith))
before_trans a b c (inr (p, inr u)) (inr (q, inl v)) = inr (p ∙ q, inl (omega arith))
before_trans a b c (inr (p, inr u)) (inr (q, inr v)) = inr (p ∙ q, inr (omega arith, omega arith))

pub before_irrefl : (a : Date) → Before a a → ⊥
before_irrefl a h = omega (arith, ints)

-- a statement of the next date, from what it is in each case
pub by_next : (s : Shape) (d : Date) (P : Date → Type 0) → (d.day < s.size d.year d.month → P (day_on d)) →
    (s.size d.year d.month ≤ d.day → d.month < s.months d.year → P (month_on d)) →
    (s.size d.year d.month ≤ d.day → s.months d.year ≤ d.month → P (year_on d)) → P (next s d)
by_next s d P f g h =
    cond_both (ltb d.day (s.size d.year d.month)) _ _ P (λ e. f (ltb-true _ _ e))
    (λ e. cond_both (ltb d.month (s.months d.year)) _ _ P (λ t. g (ltb-false _ _ e) (ltb-true _ _ t)) (λ t. h (ltb-false _ _ e) (ltb-false _ _ t)))

pub next_later : (s : Shape) (d : Date) → Before d (next s d)
next_later s d =
    by_next s d (Before d) (λ h. inr (refl, inr (refl, omega arith))) (λ h k. inr (refl, inl (omega arith))) (λ h k. inl (omega (arith, ints)))

pub next_valid : (s : Shape) (d : Date) → Filled s → Valid s d → Valid s (next s d)
next_valid s d f v =
    by_next s d (Valid s)
    (λ h. record { month_low = v.month_low; month_high = v.month_high; day_low = omega arith; day_high = omega arith })
    (λ h k. record { month_low = omega arith; month_high = omega arith; day_low = omega arith; day_high = f.some_day d.year (d.month + 1) (omega arith) (omega arith) })
    (λ h k. record { month_low = omega arith; month_high = f.some_month (d.year +ℤ pos 1); day_low = omega arith; day_high = f.some_day (d.year +ℤ pos 1) 1 (omega arith) (f.some_month (d.year +ℤ pos 1)) })

pub after_valid : (s : Shape) (d : Date) → Filled s → Valid s d → (k : ℕ) → Valid s (after s d k)
unfolding after
after_valid s d f v zero = v
after_valid s d f v (suc k) = next_valid s (after s d k) f (after_valid s d f v k)

-- no valid date stands between a date and the next
pub next_nearest : (s : Shape) (d e : Date) → Valid s e → Before e (next s d) → (Before d e → ⊥)
next_nearest s d e v =
    by_next s d (λ x. Before e x → Before d e → ⊥)
    (λ h p q. omega (arith, ints))
    (λ h k p q. closer p q h)
    (λ h k p q. closer_year p q h k)
  where
    closer : Before e (month_on d) → Before d e → s.size d.year d.month ≤ d.day → ⊥
    closer p (inl q) h = omega (arith, ints)
    closer p (inr (q, inl r)) h = omega (arith, ints)
    closer p (inr (q, inr (r, t))) h = let sz : s.size d.year d.month ≡ s.size e.year e.month = cc in omega arith

    closer_year : Before e (year_on d) → Before d e → s.size d.year d.month ≤ d.day → s.months d.year ≤ d.month → ⊥
    closer_year p (inl q) h k = omega (arith, ints)
    closer_year p (inr (q, inl r)) h k = let ms : s.months d.year ≡ s.months e.year = cc in omega arith
    closer_year p (inr (q, inr (r, t))) h k = let sz : s.size d.year d.month ≡ s.size e.year e.month = cc in omega arith

-- a later day has a later date
pub rises : (s : Shape) (d : Date) (i j : ℕ) → i < j → Before (after s d i) (after s d j)
unfolding after
rises s d i zero h = absurd (not-suc-le-zero h)
rises s d i (suc j) h =
    ⊎_elim (λ l. before_trans (after s d i) (after s d j) (next s (after s d j)) (rises s d i j l) (next_later s (after s d j)))
    (λ l. let e : i ≡ j = omega arith in subst (λ (k : ℕ). Before (after s d k) (next s (after s d j))) (sym e) (next_later s (after s d j)))
    (cases_lt i j)

-- and a later date is a later day's
pub later : (s : Shape) (d : Date) (i j : ℕ) → Before (after s d i) (after s d j) → i < j
later s d i j h =
    ⊎_elim (λ e. absurd (before_irrefl (after s d j) (subst (λ (k : ℕ). Before (after s d k) (after s d j)) e h)))
    (⊎_elim (λ l. l) (λ l. absurd (before_irrefl (after s d i) (before_trans (after s d i) (after s d j) (after s d i) h (rises s d j i l)))))
    (cases_order i j)

-- the order is total
pub compare_dates : (a b : Date) → (a ≡ b) ⊎ (Before a b ⊎ Before b a)
compare_dates a b =
    by_lt_z a.year b.year (λ l. inr (inl (inl l)))
    (λ l. by_lt_z b.year a.year (λ r. inr (inr (inl r)))
    (λ r. let y : a.year ≡ b.year = omega (arith, ints) in
    ⊎_elim
    (λ m. ⊎_elim (λ e. inl (same y m e)) (⊎_elim (λ e. inr (inl (inr (y, inr (m, e))))) (λ e. inr (inr (inr (sym y, inr (sym m, e)))))) (cases_order a.day b.day))
    (⊎_elim (λ m. inr (inl (inr (y, inl m)))) (λ m. inr (inr (inr (sym y, inl m)))))
    (cases_order a.month b.month)))
  where
    same : a.year ≡ b.year → a.month ≡ b.month → a.day ≡ b.day → a ≡ b
    same y m e = λ i. record { year = y i; month = m i; day = e i }

-- a valid date between two days' dates is the date of a day between them
pub between : (s : Shape) (d e : Date) → Valid s e → (j : ℕ) → (Before e d → ⊥) → (Before (after s d j) e → ⊥) → (k : ℕ) × (k ≤ j) × (after s d k ≡ e)
unfolding after
between s d e v zero low high = ⊎_elim (λ p. (0, omega arith, p)) (⊎_elim (λ p. absurd (high p)) (λ p. absurd (low p))) (compare_dates d e)
between s d e v (suc j) low high =
    ⊎_elim (λ p. (suc j, omega arith, p))
    (⊎_elim (λ p. absurd (high p))
    (λ p. let r = between s d e v j low (next_nearest s (after s d j) e v p) in (r.0, omega arith, r.2)))
    (compare_dates (next s (after s d j)) e)
