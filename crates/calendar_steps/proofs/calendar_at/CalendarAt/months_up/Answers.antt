use Rattle.std.proofs.Common.{◌≡◌, ℕ, ◌+◌, ◌-◌, ◌≤◌, ap, ◌∙◌, arith, w32, to_z, of_z}
use Rattle.std.proofs.lemmas.Int.{ints}
use Rattle.span_law.specs.declared.way.Way.TheVariants.{Onward}
use Rattle.span_law.specs.Stepping.{months_on}
use Rattle.calendar_steps.proofs.Climbs.{climb_start, climb_on, climb_end, climb_few}
use Rattle.calendar_steps.proofs.calendar_at.CalendarAt.months_up.Goals as goal

pub loop-year-init : goal.loop-year-init
loop-year-init g c =
    let k = (g.C.CalendarSource.calendars c.args.self.now.source.now).calendar c.args.self.now.number in
    let laws = (g.met.C.CalendarSource.lawful c.args.self.now.source.now).each c.args.self.now.number c.args.self.now.there in
    climb_start k laws c.args.from c.args.to (to_z w32 (of_z w32 c.args.from.year)) (omega (arith, ints)) c.requires.order

pub overflow_add-count : goal.overflow_add-count
overflow_add-count g c =
    let k = (g.C.CalendarSource.calendars c.args.self.now.source.now).calendar c.args.self.now.number in
    let laws = (g.met.C.CalendarSource.lawful c.args.self.now.source.now).each c.args.self.now.number c.args.self.now.there in
    let h = climb_few k laws c.args.from c.args.to _ c.loop-year.count c.loop-year.invariant c.requires.from c.requires.to in
    let few = c.months_in.ensures.few.1 in
    let e = c.from-count.ensures in
    omega arith

pub loop-year-preserved : goal.loop-year-preserved
loop-year-preserved g c =
    let k = (g.C.CalendarSource.calendars c.args.self.now.source.now).calendar c.args.self.now.number in
    let laws = (g.met.C.CalendarSource.lawful c.args.self.now.source.now).each c.args.self.now.number c.args.self.now.there in
    climb_on k laws c.args.from c.args.to _ _ c.loop-year.count c.from-count.result c.loop-year.invariant (omega (arith, ints)) c.requires.from c.requires.to
    (c.from-count.ensures ∙ c.months_in.ensures.is) (omega (arith, ints))

pub overflow_add-result : goal.overflow_add-result
overflow_add-result g c =
    let k = (g.C.CalendarSource.calendars c.args.self.now.source.now).calendar c.args.self.now.number in
    let laws = (g.met.C.CalendarSource.lawful c.args.self.now.source.now).each c.args.self.now.number c.args.self.now.there in
    let h = climb_few k laws c.args.from c.args.to _ c.loop-year.count c.loop-year.invariant c.requires.from c.requires.to in
    let few = c.requires.to.few in
    let e = c.from.ensures in
    omega arith

pub overflow_sub-result : goal.overflow_sub-result
overflow_sub-result g c =
    let k = (g.C.CalendarSource.calendars c.args.self.now.source.now).calendar c.args.self.now.number in
    let laws = (g.met.C.CalendarSource.lawful c.args.self.now.source.now).each c.args.self.now.number c.args.self.now.there in
    let h = (climb_end k laws c.args.from c.args.to _ c.loop-year.count c.loop-year.invariant (omega (arith, ints)) c.requires.from c.requires.to c.requires.order).0 in
    let e = c.from.ensures in
    let f = c.from-2.ensures in
    omega arith

pub returns : goal.returns
returns g c =
    let k = (g.C.CalendarSource.calendars c.args.self.now.source.now).calendar c.args.self.now.number in
    let laws = (g.met.C.CalendarSource.lawful c.args.self.now.source.now).each c.args.self.now.number c.args.self.now.there in
    let few = climb_few k laws c.args.from c.args.to _ c.loop-year.count c.loop-year.invariant c.requires.from c.requires.to in
    let h = climb_end k laws c.args.from c.args.to _ c.loop-year.count c.loop-year.invariant (omega (arith, ints)) c.requires.from c.requires.to c.requires.order in
    let most = c.requires.to.few in
    let e : (c.loop-year.count + c.from.result) - c.from-2.result ≡ (c.loop-year.count + c.args.to.month) - c.args.from.month = cc in
    record { is = ap (λ (n : ℕ). months_on k Onward n c.args.from) e ∙ h.1; few = small _ c.loop-year.count c.args.to.month c.args.from.month few most e }
  where
    small : (r n m k : ℕ) → n ≤ 280000000 → m ≤ 14 → r ≡ (n + m) - k → r ≤ 300000000
    small r n m k h l e = omega arith
