use Rattle.std.proofs.Common.{◌≡◌, ◌-◌, true, false, ℤ, ◌-ℤ◌, nat_abs, sym, ap, ◌∙◌, subst, arith, w32, to_z, of_z}
use Rattle.std.proofs.lemmas.Int.{ints}
use Rattle.span_law.specs.Measuring.{date_not_past, years_apart}
use Rattle.span_law.proofs.Steps.{month_at}
use Rattle.calendar_steps.proofs.Wholes.{years_fit_at, years_short_at, few_years}
use Rattle.calendar_steps.proofs.calendar_at.CalendarAt.whole_years.Goals as goal

pub overflow_sub-result : goal.overflow_sub-result
overflow_sub-result g c =
    let k = (g.C.CalendarSource.calendars c.args.self.now.source.now).calendar c.args.self.now.number in
    let ef : to_z w32 (of_z w32 c.args.from.date.year) ≡ c.args.from.date.year = omega (arith, ints) in
    let et : to_z w32 (of_z w32 c.args.to.date.year) ≡ c.args.to.date.year = omega (arith, ints) in
    let laws = (g.met.C.CalendarSource.lawful c.args.self.now.source.now).each c.args.self.now.number c.args.self.now.there in
    let b = c.requires in
    (years_short_at k laws c.args.way c.args.from.number c.args.to.number b.start.first b.start.last b.end.first b.end.last b.leads c.args.from.date c.args.to.date c.abs_diff-years.result c.twin_of.result b.start.is b.end.is
    (c.abs_diff-years.ensures ∙ ap (λ (z : ℤ). nat_abs (z -ℤ to_z w32 (of_z w32 c.args.to.date.year))) ef ∙ ap (λ (z : ℤ). nat_abs (c.args.from.date.year -ℤ z)) et)
    (c.twin_of.ensures ∙ ap (k.twin c.args.from.date.year c.args.from.date.month) et)
    (subst (λ (z : ℤ). date_not_past c.args.way (month_at z c.twin_of.result) c.args.from.date.day c.args.to.date ≡ false) et (sym c.if-fits_uncut.ensures))).0

pub returns-then-fits_uncut : goal.returns-then-fits_uncut
returns-then-fits_uncut g c =
    let k = (g.C.CalendarSource.calendars c.args.self.now.source.now).calendar c.args.self.now.number in
    let ef : to_z w32 (of_z w32 c.args.from.date.year) ≡ c.args.from.date.year = omega (arith, ints) in
    let et : to_z w32 (of_z w32 c.args.to.date.year) ≡ c.args.to.date.year = omega (arith, ints) in
    let laws = (g.met.C.CalendarSource.lawful c.args.self.now.source.now).each c.args.self.now.number c.args.self.now.there in
    let b = c.requires in
    let h : c.abs_diff-years.result ≡ years_apart k c.args.way c.args.from.number c.args.to.number =
    years_fit_at k laws c.args.way c.args.from.number c.args.to.number b.start.first b.start.last b.end.first b.end.last b.leads c.args.from.date c.args.to.date c.abs_diff-years.result c.twin_of.result b.start.is b.end.is
    (c.abs_diff-years.ensures ∙ ap (λ (z : ℤ). nat_abs (z -ℤ to_z w32 (of_z w32 c.args.to.date.year))) ef ∙ ap (λ (z : ℤ). nat_abs (c.args.from.date.year -ℤ z)) et)
    (c.twin_of.ensures ∙ ap (k.twin c.args.from.date.year c.args.from.date.month) et)
    (subst (λ (z : ℤ). date_not_past c.args.way (month_at z c.twin_of.result) c.args.from.date.day c.args.to.date ≡ true) et (sym c.if-fits_uncut.ensures)) in
    record { is = h; few = few_years k c.args.way c.args.from.number c.args.to.number c.abs_diff-years.result h }

pub returns-else-fits_uncut : goal.returns-else-fits_uncut
returns-else-fits_uncut g c =
    let k = (g.C.CalendarSource.calendars c.args.self.now.source.now).calendar c.args.self.now.number in
    let ef : to_z w32 (of_z w32 c.args.from.date.year) ≡ c.args.from.date.year = omega (arith, ints) in
    let et : to_z w32 (of_z w32 c.args.to.date.year) ≡ c.args.to.date.year = omega (arith, ints) in
    let laws = (g.met.C.CalendarSource.lawful c.args.self.now.source.now).each c.args.self.now.number c.args.self.now.there in
    let b = c.requires in
    let h : c.abs_diff-years.result - 1 ≡ years_apart k c.args.way c.args.from.number c.args.to.number =
    (years_short_at k laws c.args.way c.args.from.number c.args.to.number b.start.first b.start.last b.end.first b.end.last b.leads c.args.from.date c.args.to.date c.abs_diff-years.result c.twin_of.result b.start.is b.end.is
    (c.abs_diff-years.ensures ∙ ap (λ (z : ℤ). nat_abs (z -ℤ to_z w32 (of_z w32 c.args.to.date.year))) ef ∙ ap (λ (z : ℤ). nat_abs (c.args.from.date.year -ℤ z)) et)
    (c.twin_of.ensures ∙ ap (k.twin c.args.from.date.year c.args.from.date.month) et)
    (subst (λ (z : ℤ). date_not_past c.args.way (month_at z c.twin_of.result) c.args.from.date.day c.args.to.date ≡ false) et (sym c.if-fits_uncut.ensures))).1 in
    record { is = h; few = few_years k c.args.way c.args.from.number c.args.to.number (c.abs_diff-years.result - 1) h }
