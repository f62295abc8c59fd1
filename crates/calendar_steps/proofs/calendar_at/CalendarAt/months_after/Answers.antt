use Rattle.std.proofs.Common.{◌≡◌, ◌+◌, ℤ, sym, ◌∙◌, subst, arith, w32, to_z, of_z}
use Rattle.std.proofs.lemmas.Int.{ints}
use Rattle.calendar_steps.proofs.Strides.{Onto, onto_start, onto_here, onto_turn}
use Rattle.calendar_steps.proofs.calendar_at.CalendarAt.months_after.Goals as goal

pub loop-year-init : goal.loop-year-init
loop-year-init g c =
    let k = (g.C.CalendarSource.calendars c.args.self.now.source.now).calendar c.args.self.now.number in
    let laws = (g.met.C.CalendarSource.lawful c.args.self.now.source.now).each c.args.self.now.number c.args.self.now.there in
    let e : to_z w32 (of_z w32 c.args.from.year) ≡ c.args.from.year = omega (arith, ints) in
    subst (λ (y : ℤ). Onto k c.args.from c.args.months y (c.from.result + c.from-2.result)) (sym e)
    (onto_start k laws c.args.from.year c.args.from.month c.args.months c.requires (c.from.result + c.from-2.result) cc)

pub loop-year-preserved : goal.loop-year-preserved
loop-year-preserved g c =
    let k = (g.C.CalendarSource.calendars c.args.self.now.source.now).calendar c.args.self.now.number in
    let laws = (g.met.C.CalendarSource.lawful c.args.self.now.source.now).each c.args.self.now.number c.args.self.now.there in
    onto_turn k laws c.args.from c.args.months _ c.loop-year.left c.from-in_year.result (c.from-in_year.ensures ∙ c.months_in.ensures.is) _ c.loop-year.invariant (omega (arith, ints)) (omega arith) (omega (arith, ints))

pub returns-then-left-in_year : goal.returns-then-left-in_year
returns-then-left-in_year g c =
    let k = (g.C.CalendarSource.calendars c.args.self.now.source.now).calendar c.args.self.now.number in
    let laws = (g.met.C.CalendarSource.lawful c.args.self.now.source.now).each c.args.self.now.number c.args.self.now.there in
    let h = onto_here k laws c.args.from c.args.months _ c.loop-year.left c.from-in_year.result (c.from-in_year.ensures ∙ c.months_in.ensures.is) c.loop-year.invariant (omega (arith, ints)) c.if-left-in_year.true in
    record { is = h.0; stands = h.1 }

pub returns : goal.returns
returns g c =
    record { is = sym (c.loop-year.invariant.none (omega (arith, ints))); stands = tt }
