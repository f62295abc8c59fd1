use Rattle.std.proofs.Common.{◌≡◌, true, ◌+ℤ◌, IfSome, Option, sym, ◌∙◌, subst, arith, w32, to_z, of_z}
use Rattle.std.proofs.lemmas.Int.{ints}
use Rattle.calendar.specs.Calendars.{within}
use Rattle.span_law.specs.Standing.{Stands}
use Rattle.span_law.specs.declared.year_month.YearMonth.{YearMonth}
use Rattle.span_law.proofs.Steps.{within_low, within_high}
use Rattle.calendar_steps.proofs.Strides.{year_past, year_out, year_in, twin_stands}
use Rattle.calendar_steps.proofs.calendar_at.CalendarAt.year_on.Goals as goal

pub returns-in_err-year : goal.returns-in_err-year
returns-in_err-year g c =
    let k = (g.C.CalendarSource.calendars c.args.self.now.source.now).calendar c.args.self.now.number in
    let laws = (g.met.C.CalendarSource.lawful c.args.self.now.source.now).each c.args.self.now.number c.args.self.now.there in
    let y = to_z w32 (of_z w32 c.args.from.year) +ℤ to_z w32 (of_z w32 c.args.years) in
    record {
      is = c.from_residual.ensures ∙ year_past k laws c.args.from c.args.years y (omega (arith, ints)) c.in_err-year.ensures;
      stands = subst (λ (o : Option YearMonth). IfSome o (λ p. Stands k p.year p.month)) (sym c.from_residual.ensures) tt;
    }

pub returns-then-not-has_year : goal.returns-then-not-has_year
returns-then-not-has_year g c =
    let k = (g.C.CalendarSource.calendars c.args.self.now.source.now).calendar c.args.self.now.number in
    let y = to_z w32 (of_z w32 c.in_ok-year.year) in
    let e : y ≡ c.args.from.year +ℤ c.args.years = omega (arith, ints, c.in_ok-year.ensures.1) in
    record { is = year_out k c.args.from c.args.years y e (sym c.has_year.ensures ∙ c.if-not-has_year.true); stands = tt }

pub returns : goal.returns
returns g c =
    let k = (g.C.CalendarSource.calendars c.args.self.now.source.now).calendar c.args.self.now.number in
    let laws = (g.met.C.CalendarSource.lawful c.args.self.now.source.now).each c.args.self.now.number c.args.self.now.there in
    let y = to_z w32 (of_z w32 c.in_ok-year.year) in
    let e : y ≡ c.args.from.year +ℤ c.args.years = omega (arith, ints, c.in_ok-year.ensures.1) in
    let t : within k.first k.last y ≡ true = sym c.has_year.ensures ∙ c.if-not-has_year.false in
    let l = within_low k.first k.last y t in
    let h = within_high k.first k.last y t in
    record {
      is = year_in k c.args.from c.args.years y c.twin_of-month.result e l h c.twin_of-month.ensures;
      stands = twin_stands k laws c.args.from y c.twin_of-month.result c.requires l h c.twin_of-month.ensures;
    }
