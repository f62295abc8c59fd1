-- A guess at a day's year.
use Rattle.std.proofs.Common.{ℕ, ◌-◌, ℤ, pos, ◌+ℤ◌, ◌-ℤ◌, ◌≤ℤ◌, ◌<ℤ◌, arith}
use Rattle.std.proofs.lemmas.Int.{ints}
use Rattle.years.specs.Dates.{Years, after}
use Rattle.years.specs.Days.{Fitting, InRange, Near}
use Rattle.years.proofs.Numbers.{there_is, number_high}

-- where a number is beside every year that the day could lie in, it is a guess at the day's year
pub near_by : (ys : Years) → Fitting ys → (n : ℕ) (g : ℤ) → InRange n →
    ((y : ℤ) → ys.first ≤ℤ y → y <ℤ ys.past → ys.start y ≤ℤ pos n → pos n <ℤ ys.start (y +ℤ pos 1) → ((y -ℤ pos 1) ≤ℤ g) × (g ≤ℤ (y +ℤ pos 1))) →
    Near ys n g
near_by ys f n g r beside =
    let d = after ys.shape ys.origin (n - 1) in
    let t = there_is ys f n r in
    let is = t.is in
    let starts : ys.start d.year ≤ℤ pos n = omega (arith, ints) in
    let high = number_high ys f.adds d t.valid t.low t.high in
    let ends : pos n <ℤ ys.start (d.year +ℤ pos 1) = omega (arith, ints) in
    let b = beside d.year t.low t.high starts ends in
    record { year = d.year; low = t.low; high = t.high; starts = starts; ends = ends; not_before = b.0; not_after = b.1 }
