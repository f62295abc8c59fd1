use Rattle.std.proofs.Common.{◌≡◌, true, false, get_or, refl, sym, ◌∙◌, arith, rules}
use Rattle.timebase.specs.declared.span.Part.TheVariants.{Years}
use Rattle.timebase.specs.Spans.{all_parts}
use Rattle.timebase.proofs.Enterables.{is_wrong_part, wrong_here, right_here, wrong_law}
use Rattle.timebase.proofs.span.Span.wrong_part.Goals as goal

pub returns-then-is_wrong : goal.returns-then-is_wrong
returns-then-is_wrong c =
    let s = c.args.self.now in
    let i = c.loop-part.part-index in
    let t : is_wrong_part s (get_or all_parts i Years) ≡ true = search rules in
    wrong_law s _ (sym (c.loop-part.invariant ∙ wrong_here s i (omega arith) t))

pub loop-part-preserved : goal.loop-part-preserved
loop-part-preserved c =
    let s = c.args.self.now in
    let i = c.loop-part.part-index in
    let t : is_wrong_part s (get_or all_parts i Years) ≡ false = search rules in
    c.loop-part.invariant ∙ right_here s i (omega arith) t

pub returns : goal.returns
returns c =
    let end : c.loop-part.part-index ≡ 5 = omega arith in
    wrong_law c.args.self.now _ (sym (c.loop-part.invariant ∙ rw end refl))
