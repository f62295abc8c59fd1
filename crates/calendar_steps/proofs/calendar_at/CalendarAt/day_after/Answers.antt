use Rattle.std.proofs.Common.{◌≡◌, ℕ, true, pos, ◌+ℤ◌, ◌*ℤ◌, Some, None, option_map, sym, ap, ◌∙◌, subst, arith, w32, w64, to_z, of_z}
use Rattle.std.proofs.lemmas.Int.{ints}
use Rattle.span_law.specs.Stepping.{month_day_on}
use Rattle.calendar_steps.specs.Days.{is_day}
use Rattle.calendar_steps.proofs.Dating.{no_day, a_day, day_there}
use Rattle.calendar_steps.proofs.calendar_at.CalendarAt.day_after.Goals as goal

pub returns-in_err-number : goal.returns-in_err-number
returns-in_err-number g c =
    let k = (g.C.CalendarSource.calendars c.args.self.now.source.now).calendar c.args.self.now.number in
    let s = c.args.span.now in
    let i : is_day c.args.day ≡ true = sym c.is_day.ensures ∙ c.if-not-is_day.false in
    let y : to_z w32 (of_z w32 c.args.span.now.years) ≡ c.args.span.now.years = omega (arith, ints) in
    let m : to_z w32 (of_z w32 c.args.span.now.months) ≡ c.args.span.now.months = omega (arith, ints) in
    ap (option_map (λ (n : ℕ). pos n)) c.from_residual.ensures
    ∙ no_day k c.args.day s _ _ y m (subst (λ (d : ℕ). None ≡ month_day_on k d (to_z w32 (of_z w32 s.years)) (to_z w32 (of_z w32 s.months))) c.with_date-from.ensures.same c.in_err-number.ensures.is)
    ∙ day_there k c.args.day s i

pub returns : goal.returns
returns g c =
    let k = (g.C.CalendarSource.calendars c.args.self.now.source.now).calendar c.args.self.now.number in
    let s = c.args.span.now in
    let n = c.in_ok-number.number in
    let i : is_day c.args.day ≡ true = sym c.is_day.ensures ∙ c.if-not-is_day.false in
    let y : to_z w32 (of_z w32 c.args.span.now.years) ≡ c.args.span.now.years = omega (arith, ints) in
    let m : to_z w32 (of_z w32 c.args.span.now.months) ≡ c.args.span.now.months = omega (arith, ints) in
    let w : to_z w64 (of_z w64 (to_z w64 (of_z w64 c.from.result) +ℤ to_z w64 (of_z w64 c.days_in.result))) ≡ pos c.in_ok-number.number +ℤ ((pos 7 *ℤ c.args.span.now.weeks) +ℤ c.args.span.now.days) = omega (arith, ints) in
    c.in_days.ensures
    ∙ a_day k c.args.day s _ _ y m n _ (subst (λ (d : ℕ). Some n ≡ month_day_on k d (to_z w32 (of_z w32 s.years)) (to_z w32 (of_z w32 s.months))) c.with_date-from.ensures.same c.in_ok-number.ensures.is) w
    ∙ day_there k c.args.day s i
