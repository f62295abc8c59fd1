use Rattle.std.proofs.Common.{◌≡◌, ◌-◌, refl, arith}
use Rattle.std.proofs.lemmas.Int.{ints}
use Rattle.hebrew.specs.Calendar.{length_of_year}
use Rattle.hebrew.proofs.Told.{year_right}
use Rattle.hebrew.proofs.year_of.Goals as goal

pub returns : goal.returns
returns c =
    let this = c.starts_of-start.ensures.this in
    let next = c.starts_of-start.ensures.next in
    let fits = c.starts_of-start.ensures.fits in
    let days : c.starts_of-start.result.1 - c.starts_of-start.result.0 ≡ length_of_year c.args.year = omega arith in
    year_right c.args.year c.is_leap-leap_year.result _ _ c.requires.0 c.requires.1 c.is_leap-leap_year.ensures days (omega (arith, ints)) refl
    c.months_of.ensures c.lengths_of.ensures
