use Rattle.std.proofs.Common.{◌≡◌, length, min, take, ap, ◌∙◌, arith}
use Rattle.std.proofs.lemmas.List.{take_min}
use Rattle.script.proofs.run.script_of.Goals as goal

pub returns-clause-value : goal.returns-clause-value
returns-clause-value c =
    let e : c.min.result ≡ min 16384 (length c.args.input.now) = omega arith in
    ap (λ n. take n c.args.input.now) e ∙ take_min 16384 c.args.input.now
