use Rattle.std.proofs.Common.{◌≡◌, ◌-◌, ◌≤◌, true, false, Some, sym, ap, ◌∙◌, subst, arith, w32, to_z, of_z}
use Rattle.std.proofs.lemmas.Int.{ints}
use Rattle.span_law.specs.declared.year_month.YearMonth.{YearMonth}
use Rattle.span_law.specs.Measuring.{date_not_past, fits_before}
use Rattle.span_law.specs.Standing.{Stands}
use Rattle.calendar_steps.specs.Standing.{Ordered}
use Rattle.span_law.proofs.Order.{there}
use Rattle.calendar_steps.proofs.Plain.{year_is, month_is, test_is}
use Rattle.calendar_steps.proofs.Wholes.{fits_ordered, months_fit_at, months_short_at}
use Rattle.calendar_steps.proofs.calendar_at.CalendarAt.whole_months.Goals as goal

pub months_along-months-requires : goal.months_along-months-requires
months_along-months-requires g c =
    let k = (g.C.CalendarSource.calendars c.args.self.now.source.now).calendar c.args.self.now.number in
    let way = c.args.way in
    let d = c.args.from.number in
    let x = c.args.to.number in
    let p = c.in-Some.start in
    let ew : to_z w32 (of_z w32 c.with_way.result) ≡ c.with_way.result = omega (arith, ints) in
    let et : to_z w32 (of_z w32 c.args.to.date.year) ≡ c.args.to.date.year = omega (arith, ints) in
    let laws = (g.met.C.CalendarSource.lawful c.args.self.now.source.now).each c.args.self.now.number c.args.self.now.there in
    let b = c.requires.between in
    let e = year_is k way d x c.args.years p c.args.from.date (to_z w32 (of_z w32 c.with_way.result)) b.start.is (ew ∙ c.with_way.ensures) c.in-Some.ensures.is in
    let h : date_not_past way p (k.date d).day (k.date x) ≡ true = ap (fits_before k way d x) (sym e) ∙ c.requires.fits in
    let v = there k laws x b.end.first b.end.last in
    let q = month_is k way d x c.args.years c.args.to.date (to_z w32 (of_z w32 c.args.to.date.year)) b.end.is et in
    record {
      from = c.in-Some.ensures.stands;
      to = subst (λ (z : YearMonth). Stands k z.year z.month) (sym q) v.stands;
      order = subst (Ordered way p) (sym q) (fits_ordered k laws way p (k.date d).day (k.date x) c.in-Some.ensures.stands (there k laws d b.start.first b.start.last).few v h);
    }

pub overflow_sub-result : goal.overflow_sub-result
overflow_sub-result g c =
    let k = (g.C.CalendarSource.calendars c.args.self.now.source.now).calendar c.args.self.now.number in
    let way = c.args.way in
    let d = c.args.from.number in
    let x = c.args.to.number in
    let p = c.in-Some.start in
    let ew : to_z w32 (of_z w32 c.with_way.result) ≡ c.with_way.result = omega (arith, ints) in
    let et : to_z w32 (of_z w32 c.args.to.date.year) ≡ c.args.to.date.year = omega (arith, ints) in
    let laws = (g.met.C.CalendarSource.lawful c.args.self.now.source.now).each c.args.self.now.number c.args.self.now.there in
    let b = c.requires.between in
    let e = year_is k way d x c.args.years p c.args.from.date (to_z w32 (of_z w32 c.with_way.result)) b.start.is (ew ∙ c.with_way.ensures) c.in-Some.ensures.is in
    let h : date_not_past way p (k.date d).day (k.date x) ≡ true = ap (fits_before k way d x) (sym e) ∙ c.requires.fits in
    let n = c.months_along-months.result in
    let m = c.months_along-months.ensures.is ∙ ap Some (month_is k way d x c.args.years c.args.to.date (to_z w32 (of_z w32 c.args.to.date.year)) b.end.is et) in
    let t = test_is k way d x c.args.years false c.args.from.date c.args.to.date (to_z w32 (of_z w32 c.args.to.date.year)) b.start.is b.end.is et c.if-fits_uncut.ensures in
    (months_short_at k laws way d x b.start.first b.start.last b.end.first b.end.last b.leads c.args.years p e n m h t).0

pub returns-then-fits_uncut : goal.returns-then-fits_uncut
returns-then-fits_uncut g c =
    let k = (g.C.CalendarSource.calendars c.args.self.now.source.now).calendar c.args.self.now.number in
    let way = c.args.way in
    let d = c.args.from.number in
    let x = c.args.to.number in
    let p = c.in-Some.start in
    let ew : to_z w32 (of_z w32 c.with_way.result) ≡ c.with_way.result = omega (arith, ints) in
    let et : to_z w32 (of_z w32 c.args.to.date.year) ≡ c.args.to.date.year = omega (arith, ints) in
    let laws = (g.met.C.CalendarSource.lawful c.args.self.now.source.now).each c.args.self.now.number c.args.self.now.there in
    let b = c.requires.between in
    let e = year_is k way d x c.args.years p c.args.from.date (to_z w32 (of_z w32 c.with_way.result)) b.start.is (ew ∙ c.with_way.ensures) c.in-Some.ensures.is in
    let h : date_not_past way p (k.date d).day (k.date x) ≡ true = ap (fits_before k way d x) (sym e) ∙ c.requires.fits in
    let n = c.months_along-months.result in
    let m = c.months_along-months.ensures.is ∙ ap Some (month_is k way d x c.args.years c.args.to.date (to_z w32 (of_z w32 c.args.to.date.year)) b.end.is et) in
    let t = test_is k way d x c.args.years true c.args.from.date c.args.to.date (to_z w32 (of_z w32 c.args.to.date.year)) b.start.is b.end.is et c.if-fits_uncut.ensures in
    record { is = months_fit_at k laws way d x b.start.first b.start.last b.end.first b.end.last b.leads c.args.years p e n m t; few = c.months_along-months.ensures.few }

pub returns-else-fits_uncut : goal.returns-else-fits_uncut
returns-else-fits_uncut g c =
    let few : c.months_along-months.result - 1 ≤ 300000000 = omega (arith, c.months_along-months.ensures.few) in
    let k = (g.C.CalendarSource.calendars c.args.self.now.source.now).calendar c.args.self.now.number in
    let way = c.args.way in
    let d = c.args.from.number in
    let x = c.args.to.number in
    let p = c.in-Some.start in
    let ew : to_z w32 (of_z w32 c.with_way.result) ≡ c.with_way.result = omega (arith, ints) in
    let et : to_z w32 (of_z w32 c.args.to.date.year) ≡ c.args.to.date.year = omega (arith, ints) in
    let laws = (g.met.C.CalendarSource.lawful c.args.self.now.source.now).each c.args.self.now.number c.args.self.now.there in
    let b = c.requires.between in
    let e = year_is k way d x c.args.years p c.args.from.date (to_z w32 (of_z w32 c.with_way.result)) b.start.is (ew ∙ c.with_way.ensures) c.in-Some.ensures.is in
    let h : date_not_past way p (k.date d).day (k.date x) ≡ true = ap (fits_before k way d x) (sym e) ∙ c.requires.fits in
    let n = c.months_along-months.result in
    let m = c.months_along-months.ensures.is ∙ ap Some (month_is k way d x c.args.years c.args.to.date (to_z w32 (of_z w32 c.args.to.date.year)) b.end.is et) in
    let t = test_is k way d x c.args.years false c.args.from.date c.args.to.date (to_z w32 (of_z w32 c.args.to.date.year)) b.start.is b.end.is et c.if-fits_uncut.ensures in
    record { is = (months_short_at k laws way d x b.start.first b.start.last b.end.first b.end.last b.leads c.args.years p e n m h t).1; few = few }
