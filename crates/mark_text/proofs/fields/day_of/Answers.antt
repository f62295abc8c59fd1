use Rattle.std.proofs.Common.{◌≡◌, ℤ, pos, ap, ◌∙◌, arith, w32, to_z}
use Rattle.std.proofs.lemmas.Int.{ints}
use Rattle.iso8601.specs.Gregorian.{gregorian_years}
use Rattle.iso8601.specs.Twins.{gregorian_laws}
use Rattle.calendar.specs.Singles.{day_number}
use Rattle.calendar.specs.SingleLaws.{day_is}
use Rattle.mark_text.proofs.fields.day_of.Goals as goal

pub returns-clause-value : goal.returns-clause-value
returns-clause-value c =
    let d = c.args.draft.now in
    let e : to_z w32 d.year ≡ pos d.year = omega (arith, ints) in
    day_is gregorian_years gregorian_laws _ c.day_of_date.result c.day_of_date.ensures ∙ ap (λ (y : ℤ). day_number gregorian_years (record { year = y; month = d.month; day = d.day })) e
