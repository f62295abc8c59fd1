use Rattle.std.proofs.Common.{◌≡◌, None, Some, sym, ◌∙◌}
use Rattle.std.proofs.lemmas.Result.{err_from_is_err_and}
use Rattle.tzif.specs.Fields.{first_wrong}
use Rattle.tzif.proofs.Judging.{each_more, each_stop}
use Rattle.tzif.proofs.check.each.Goals as goal

pub returns-in_err-check : goal.returns-in_err-check
returns-in_err-check g c file fields told =
    let p = err_from_is_err_and c.from_residual.result c.from_residual.ensures.1 in
    let t = told c.loop-k.k c.check.result c.loop-k-test.true c.check.ensures in
    let wrong : Some c.in_err-check.field-0.0.at ≡ first_wrong file (fields c.loop-k.k) = rw c.in_err-check.was at t in
    rw (p.1, p.2) (sym (c.loop-k.invariant file fields told ∙ each_stop file fields c.args.count c.loop-k.k c.loop-k-test.true wrong))

pub loop-k-preserved : goal.loop-k-preserved
loop-k-preserved g c file fields told =
    let t = told c.loop-k.k c.check.result c.loop-k-test.true c.check.ensures in
    let right : None ≡ first_wrong file (fields c.loop-k.k) = rw c.in_ok-check.was at t in
    c.loop-k.invariant file fields told ∙ each_more file fields c.args.count c.loop-k.k c.loop-k-test.true right
