-- Gregorian dates of day numbers: their numbers are small, and a date has one day number.
use Rattle.std.proofs.Common.{◌≡◌, ℕ, ◌≤◌, pos, ◌+ℤ◌, nat_abs, ◌≤ℤ◌, ◌<ℤ◌, Some, refl, arith}
use Rattle.std.proofs.lemmas.Int.{ints}
use Rattle.years.specs.declared.date.Date.{Date}
use Rattle.years.specs.Dates.{Valid, number}
use Rattle.years.specs.Days.{InRange, HasDate}
use Rattle.years.proofs.Numbers.{there, found, start_rises, number_high}
use Rattle.iso8601.specs.Gregorian.{gregorian, gregorian_years}
use Rattle.iso8601.specs.Twins.{gregorian_laws}
use Rattle.calendar.specs.Singles.{day_number}
use Rattle.calendar.specs.SingleLaws.{day_is, dated}
use Rattle.mark_form.specs.declared.draft.Draft.{Draft}
use Rattle.mark_text.specs.Fields.{date_of}
use Rattle.mark_text.specs.Ranges.{AllFit, date_numbers}

pub record Small (d : Date) : Type 0 where
  pub low : pos 1 ≤ℤ d.year
  pub high : d.year ≤ℤ pos 9999
  pub month : d.month ≤ 12
  pub day : d.day ≤ 31

pub small : (n : ℕ) (d : Date) → HasDate gregorian_years n d → Small d
small n d h =
    let t = there gregorian_years gregorian_laws.fitting d n h.0 h.1 in
    let s = gregorian_laws.fitting.short d.year d.month in
    record { low = t.low; high = omega (arith, ints, t.high); month = t.valid.month_high; day = omega (arith, s, t.valid.day_high) }

pub numbered : (n : ℕ) (d : Date) → HasDate gregorian_years n d → Some n ≡ day_number gregorian_years d
numbered n d h = day_is gregorian_years gregorian_laws d (Some n) h

pub has_date : (n : ℕ) (d : Date) → day_number gregorian_years d ≡ Some n → HasDate gregorian_years n d
has_date n d e = let p = dated gregorian_years gregorian_laws d n e in (p.0, found gregorian_years gregorian_laws.fitting d n p.0 p.1)

-- the numbers of a day's date fit
pub date_fits : (n : ℕ) (d : Draft) → HasDate gregorian_years n (date_of d) → AllFit (date_numbers d)
date_fits n d h =
    let t = there gregorian_years gregorian_laws.fitting (date_of d) n h.0 h.1 in
    ((omega (arith, ints, t.low), omega (arith, ints, t.high)), ((t.valid.month_low, t.valid.month_high), ((t.valid.day_low, t.valid.day_high), tt)))

-- and a date whose numbers fit is that of a day
pub date_there : (d : Draft) → AllFit (date_numbers d) → (n : ℕ) × HasDate gregorian_years n (date_of d)
date_there d (y, (m, (k, _))) =
    let f = gregorian_laws.fitting in
    let v : Valid gregorian (date_of d) = record { month_low = m.0; month_high = m.1; day_low = k.0; day_high = k.1 } in
    let low : pos 1 ≤ℤ pos d.year = omega (arith, ints, y.0) in
    let high : pos d.year <ℤ pos 10000 = omega (arith, ints, y.1) in
    let z = number gregorian gregorian_years.start (date_of d) in
    let starts = start_rises gregorian_years f.adds (pos 1) (pos d.year) (omega (arith, ints)) low (omega (arith, ints, high)) in
    let ends = start_rises gregorian_years f.adds (pos d.year +ℤ pos 1) (pos 10000) (omega (arith, ints, low)) (omega (arith, ints, high)) (omega (arith, ints)) in
    let within = number_high gregorian_years f.adds (date_of d) v low high in
    let first : gregorian_years.start (pos 1) ≡ pos 1 = refl in
    let past : gregorian_years.start (pos 10000) ≡ pos 3652060 = refl in
    let n = nat_abs z in
    let is : z ≡ pos n = omega (arith, ints) in
    let r : InRange n = record { low = omega (arith, ints); high = omega (arith, ints) } in
    (n, (r, found gregorian_years f (date_of d) n r (record { valid = v; low = low; high = high; is = is })))
