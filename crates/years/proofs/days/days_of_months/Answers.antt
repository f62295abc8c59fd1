use Rattle.std.proofs.Common.{◌≡◌, ℕ, ◌+◌, ◌-◌, ◌/◌, ◌<◌, ◌≤◌, Option, length, take, ◌∙◌, sym, arith, rules, tests, length-take}
use denote.Param.Members.{Mut}
use Rattle.std.specs.declared.iter.Map.{Map}
use Rattle.std.specs.Fn.{Called}
use Rattle.std.specs.Iterator.Adapters.{map_source, map_callee, map_steps}
use Rattle.std.specs.Iterator.Runs.{Run}
use Rattle.std.specs.List.{fold}
use Rattle.std.proofs.lemmas.Iterator.{YieldsList-from_slice, YieldsList-from_map}
use Rattle.std.proofs.lemmas.Iterator.Adapters.{YieldsAtMost, fits_from_length, at_most_from_yields_List}
use Rattle.std.proofs.lemmas.Iterator.Consumers.{sum_by_from_yields_List}
use Rattle.years.proofs.Within.{first_days_sum}
use Rattle.years.proofs.days.days_of_months.Goals as goal

at_most : {S A F : Type 0} {steps : S → Option A → S → Type 0} {s : Map S F} {g : Mut F (A × Unit {0}) ℕ} {f : F} (n top : ℕ) (p : Run (map_steps steps g)) → p.from ≡ s →
    YieldsAtMost steps (map_source s) n → map_callee s ≡ f → 0 < top → ((x : A) (r : ℕ) (q : F) → Called g f (x, tt) r q → (q ≡ f) × (r ≤ (top - 1) / n)) → fold (λ a x. a + x) 0 p.items < top
at_most {g = g} {f = f} n top p from few callee some each = fits_from_length g f n top few callee some each p p.seen from

pub sum-requires-clause-fits : goal.sum-requires-clause-fits
sum-requires-clause-fits c =
    let few : length (take c.args.months c.args.year.now.lengths) ≤ 14 = omega (arith, length-take c.args.months c.args.year.now.lengths) in
    fits_from_length _ _ 14 _ (at_most_from_yields_List (YieldsList-from_slice (take c.args.months c.args.year.now.lengths) cc) few) c.map.ensures.closure (omega arith) (λ x r q k. search (rules, tests))

pub returns-clause-is : goal.returns-clause-is
returns-clause-is c =
    sum_by_from_yields_List _ _ c.map.result _ c.sum.ensures.ran (YieldsList-from_map _ (λ x. x) (YieldsList-from_slice (take c.args.months c.args.year.now.lengths) cc) c.map.ensures.closure (λ x r q k. search (rules, tests)))
    ∙ sym (first_days_sum c.args.year.now c.args.months (search rules))

pub returns-clause-few : goal.returns-clause-few
returns-clause-few c =
    let few : length (take c.args.months c.args.year.now.lengths) ≤ 14 = omega (arith, length-take c.args.months c.args.year.now.lengths) in
    let run = c.sum.ensures.runs tt in
    let b = at_most 14 3571 run.0 run.1 (at_most_from_yields_List (YieldsList-from_slice (take c.args.months c.args.year.now.lengths) cc) few) c.map.ensures.closure (omega arith) (λ x r q k. search (rules, tests)) in
    omega (arith, b, run.3)
