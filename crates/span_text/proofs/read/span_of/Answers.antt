use Rattle.std.proofs.Common.{rules, ◌≡◌, ◌∙◌, to_z, of_z, w32, w64, arith}
use Rattle.timebase.specs.declared.span.Part.TheVariants.{Years, Months, Weeks, Days, Time}
use Rattle.timebase.specs.Spans.{part_limit, time_limit}
use Rattle.span_text.specs.Spans.{signed, time_of, WithinLimits}
use Rattle.span_text.proofs.Signs.{kept, unit, product, limited_within}
use Rattle.span_text.proofs.read.span_of.Goals.{then-fields, else-fields}
use Rattle.span_text.proofs.read.span_of.Goals as goal

pub returns : goal.returns
returns c =
    let f = c.args.fields in
    let sign : to_z w32 c.if-fields.sign-bits ≡ signed f.minus 1 = elim c.if-fields.branch [ then-fields w ↦ search rules | else-fields w ↦ search rules ] in
    let y = kept part_limit f.years Years c.in_ok-count_of.ensures in
    let m = kept part_limit f.months Months c.in_ok-count_of-2.ensures in
    let w = kept part_limit f.weeks Weeks c.in_ok-count_of-3.ensures in
    let d = kept part_limit f.days Days c.in_ok-count_of-4.ensures in
    let t = kept time_limit (time_of f) Time c.in_ok-time_of.ensures in
    let widened : c.from.result ≡ signed f.minus 1 = c.from.ensures ∙ sign in
    let wide : to_z w64 (of_z w64 c.from.result) ≡ signed f.minus 1 = rw widened (unit f.minus) in
    let all : WithinLimits f = record { years = y.few; months = m.few; weeks = w.few; days = d.few; time = t.few } in
    rw (product w32 f.minus _ sign y (omega arith), product w32 f.minus _ sign m (omega arith), product w32 f.minus _ sign w (omega arith), product w32 f.minus _ sign d (omega arith), product w64 f.minus _ wide t (omega arith)) (limited_within f all)
