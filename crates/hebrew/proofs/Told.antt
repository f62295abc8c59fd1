-- What the code finds of a year is the year.
use Rattle.std.proofs.Common.{◌≡◌, ℕ, ◌+◌, ◌-◌, ◌<◌, ◌≤◌, Bool, true, false, replicate, pos, refl, sym, ap, ◌∙◌, arith}
use Rattle.years.specs.declared.rule.Year.{Year}
use Rattle.years.specs.Rules.{listed, year_of}
use Rattle.hebrew.specs.Calendar.{elapsed, molad_day, postponed, new_year, corrected, year_start, leap, length_of_year, months_of, month_length, lengths, hebrew_start, hebrew_years}
use Rattle.hebrew.specs.Tishri.{days_right}

alike : (a b c x y z : ℕ) → a ≡ x → b ≡ y → c ≡ z → corrected a b c ≡ corrected x y z
alike a b c x y z p q r = ap (λ k. corrected k b c) p ∙ (ap (λ k. corrected x k c) q ∙ ap (λ k. corrected x y k) r)

-- the starts of two years in a row, from four moladot
pub starts : (y a b c d : ℕ) → 1 ≤ y → a ≡ postponed (molad_day (elapsed (y - 1))) → b ≡ postponed (molad_day (elapsed y)) →
    c ≡ postponed (molad_day (elapsed (y + 1))) → d ≡ postponed (molad_day (elapsed (y + 2))) →
    (corrected a b c ≡ year_start y) × (corrected b c d ≡ year_start (y + 1))
unfolding year_start new_year
starts y a b c d low ea eb ec ed =
    let back : y ≡ y + 1 - 1 = omega arith in
    let on : y + 2 ≡ y + 1 + 1 = omega arith in
    let eb' = eb ∙ ap (λ k. postponed (molad_day (elapsed k))) back in
    let ed' = ed ∙ ap (λ k. postponed (molad_day (elapsed k))) on in
    (alike a b c _ _ _ ea eb ec, alike b c d _ _ _ eb' ec ed')

lengths_right : (b : Bool) (n : ℕ) → lengths b n ≡ listed (month_length b n) 1 (months_of b) (replicate (14 - months_of b) 0)
lengths_right true n = refl
lengths_right false n = refl

pub year_right : (y : ℕ) (b : Bool) (n : ℕ) (r : Year) → 3761 ≤ y → y < 13761 → b ≡ leap y → n ≡ length_of_year y →
    r.start ≡ hebrew_start (pos y) → r.days ≡ n → r.months ≡ months_of b → r.lengths ≡ lengths b n → r ≡ year_of hebrew_years (pos y)
year_right y b n r low high eb en s d m l =
    let days = d ∙ (en ∙ sym (days_right y low high)) in
    let months = m ∙ ap months_of eb in
    let sizes = l ∙ (ap (λ x. lengths x n) eb ∙ (ap (lengths (leap y)) en ∙ lengths_right (leap y) (length_of_year y))) in
    λ i. record { start = s i; days = days i; months = months i; lengths = sizes i }
