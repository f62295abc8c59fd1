use Rattle.std.proofs.Common.{◌≡◌, Ok, Err, ap, ◌∙◌}
use Rattle.std.proofs.lemmas.Result.{err_from_is_err_and}
use Rattle.tzif.specs.File.{refused, checked}
use Rattle.tzif.proofs.Reading.{wrong_answer, long_answer, good_answer, judged, placed}
use Rattle.tzif.proofs.check.check.Goals as goal

pub returns-in_err-layout : goal.returns-in_err-layout
returns-in_err-layout c =
    let p = err_from_is_err_and c.from_residual.result c.from_residual.ensures.1 in
    let e : c.from_residual.result ≡ checked c.args.file.now = p.1 ∙ ap Err p.2 ∙ wrong_answer c.args.file.now c.in_err-layout.ensures.wrong in
    record { value = e; good = judged c.args.file.now _ e; place = placed c.args.file.now _ e }

pub returns-then-file-gt-FILE_LIMIT : goal.returns-then-file-gt-FILE_LIMIT
returns-then-file-gt-FILE_LIMIT c =
    let e : Err (refused 65536) ≡ checked c.args.file.now = long_answer c.args.file.now c.in_ok-layout.ensures.wrong c.if-file-gt-FILE_LIMIT.true in
    record { value = e; good = judged c.args.file.now _ e; place = placed c.args.file.now _ e }

pub returns : goal.returns
returns c =
    let e : Ok c.in_ok-layout.layout ≡ checked c.args.file.now =
    ap Ok c.in_ok-layout.ensures.value ∙ good_answer c.args.file.now c.in_ok-layout.ensures.wrong c.if-file-gt-FILE_LIMIT.false in
    record { value = e; good = judged c.args.file.now _ e; place = placed c.args.file.now _ e }
