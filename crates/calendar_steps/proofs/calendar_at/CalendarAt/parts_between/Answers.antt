use Rattle.std.proofs.Common.{◌≡◌, ℕ, true, pos, sym, ap, ◌∙◌, subst, arith}
use Rattle.span_law.specs.declared.unit.Unit.{Unit as Measure}
use Rattle.span_law.specs.Measuring.{fits_before, parts_by, span_of}
use Rattle.span_law.specs.Stepping.{signed, year_on}
use Rattle.span_law.proofs.Splits.{years_start, years_fit}
use Rattle.calendar_steps.proofs.Plain.{between_them, weeks_span}
use Rattle.calendar_steps.proofs.calendar_at.CalendarAt.parts_between.Goals as goal

pub after_years-requires : goal.after_years-requires
after_years-requires g c =
    let k = (g.C.CalendarSource.calendars c.args.self.now.source.now).calendar c.args.self.now.number in
    let laws = (g.met.C.CalendarSource.lawful c.args.self.now.source.now).each c.args.self.now.number c.args.self.now.there in
    let f = c.with_date-from.ensures in
    let t = c.with_date-to.ensures in
    let b = between_them k c.args.way c.args.start c.args.end c.with_date-from.result c.with_date-to.result f.same t.same f.is t.is c.requires.leads in
    record {
      between = b;
      years = omega arith;
      fits = years_start k laws c.args.way c.with_date-from.result.number c.with_date-to.result.number b.start.first b.start.last b.end.first b.end.last b.leads;
    }

pub after_years-requires-in-Year : goal.after_years-requires-in-Year
after_years-requires-in-Year g c =
    let k = (g.C.CalendarSource.calendars c.args.self.now.source.now).calendar c.args.self.now.number in
    let laws = (g.met.C.CalendarSource.lawful c.args.self.now.source.now).each c.args.self.now.number c.args.self.now.there in
    let f = c.with_date-from-in-Year.ensures in
    let t = c.with_date-to-in-Year.ensures in
    let d = c.with_date-from-in-Year.result.number in
    let x = c.with_date-to-in-Year.result.number in
    let b = between_them k c.args.way c.args.start c.args.end c.with_date-from-in-Year.result c.with_date-to-in-Year.result f.same t.same f.is t.is c.requires.leads in
    record {
      between = b;
      years = c.whole_years-years.ensures.few;
      fits = subst (λ (n : ℕ). fits_before k c.args.way d x (year_on k (k.date d) (signed c.args.way n)) ≡ true) (sym c.whole_years-years.ensures.is)
          (years_fit k laws c.args.way d x b.start.first b.start.last b.end.first b.end.last b.leads);
    }

pub returns-in-Week : goal.returns-in-Week
returns-in-Week g c =
    let k = (g.C.CalendarSource.calendars c.args.self.now.source.now).calendar c.args.self.now.number in
    c.weeks_between.ensures ∙ weeks_span k c.args.way c.args.start c.args.end c.requires.leads
    ∙ ap (λ (u : Measure). span_of c.args.way (parts_by k c.args.way c.args.start c.args.end u) (pos 0)) (sym c.in-Week.is)
