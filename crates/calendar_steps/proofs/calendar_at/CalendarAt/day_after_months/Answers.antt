use Rattle.std.proofs.Common.{◌≡◌, ℕ, ◌≤◌, IfSome, None, Option, sym, ap, ◌∙◌, subst, arith, w32, to_z, of_z}
use Rattle.std.proofs.lemmas.Int.{ints}
use Rattle.calendar_steps.proofs.Dating.{day_asked, numbered_inside, no_year, no_month, a_month}
use Rattle.calendar_steps.proofs.calendar_at.CalendarAt.day_after_months.Goals as goal

pub returns-in_err-twin : goal.returns-in_err-twin
returns-in_err-twin g c =
    let k = (g.C.CalendarSource.calendars c.args.self.now.source.now).calendar c.args.self.now.number in
    let r : c.from_residual.result ≡ None = c.from_residual.ensures in
    record { inside = subst (λ (o : Option ℕ). IfSome o (λ n. n ≤ 3652059)) (sym r) tt; is = r ∙ no_year k c.args.from.number c.args.years c.args.months c.args.from.date c.requires.is _ (omega (arith, ints)) c.in_err-twin.ensures.is }

pub returns-in_err-month : goal.returns-in_err-month
returns-in_err-month g c =
    let k = (g.C.CalendarSource.calendars c.args.self.now.source.now).calendar c.args.self.now.number in
    let r : c.from_residual-in_err-month.result ≡ None = c.from_residual-in_err-month.ensures in
    record {
      inside = subst (λ (o : Option ℕ). IfSome o (λ n. n ≤ 3652059)) (sym r) tt;
      is = r
          ∙ no_month k c.args.from.number c.args.years c.args.months c.args.from.date c.requires.is (to_z w32 (of_z w32 c.args.years)) (to_z w32 (of_z w32 c.args.months)) c.in_ok-twin.twin
          (omega (arith, ints)) (omega (arith, ints)) c.in_ok-twin.ensures.is c.in_err-month.ensures.is;
    }

pub returns : goal.returns
returns g c =
    let s = g.C.CalendarSource.calendars c.args.self.now.source.now in
    let k = s.calendar c.args.self.now.number in
    let laws = (g.met.C.CalendarSource.lawful c.args.self.now.source.now).each c.args.self.now.number c.args.self.now.there in
    let n = c.day.ensures ∙ day_asked s c.args.self.now.number c.cut_date-date.result c.args.self.now.there in
    record {
      inside = numbered_inside k laws c.cut_date-date.result c.day.result n;
      is = n ∙ ap k.number c.cut_date-date.ensures
          ∙ a_month k c.args.from.number c.args.years c.args.months c.args.from.date c.requires.is (to_z w32 (of_z w32 c.args.years)) (to_z w32 (of_z w32 c.args.months)) c.in_ok-twin.twin c.in_ok-month.month
          (omega (arith, ints)) (omega (arith, ints)) c.in_ok-twin.ensures.is c.in_ok-month.ensures.is;
    }
