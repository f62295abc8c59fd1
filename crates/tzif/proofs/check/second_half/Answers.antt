use Rattle.std.proofs.Common.{rules}
use Rattle.tzif.proofs.Judging.{halves}
use Rattle.tzif.proofs.check.second_half.Goals as goal

pub returns-in_err-counts : goal.returns-in_err-counts
returns-in_err-counts c = record { wrong = halves c.args.file.now c.args.header c.args.version (search rules); value = search rules }

pub returns-in_err-end : goal.returns-in_err-end
returns-in_err-end c = record { wrong = halves c.args.file.now c.args.header c.args.version (search rules); value = search rules }

pub returns-in_err-footer : goal.returns-in_err-footer
returns-in_err-footer c = record { wrong = halves c.args.file.now c.args.header c.args.version (search rules); value = search rules }

pub returns : goal.returns
returns c = record { wrong = halves c.args.file.now c.args.header c.args.version (search rules); value = search rules }
