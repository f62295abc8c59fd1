use Rattle.std.proofs.Common.{sym, arith, rules}
use Rattle.writing.specs.Placing.{Placed}
use Rattle.span_text.specs.Canonical.{span_text}
use Rattle.span_text.proofs.Endings.{written}
use Rattle.span_text.proofs.write.write_span.Goals as goal

pub returns : goal.returns
returns c =
    let placed : Placed c.args.out.now 0 (span_text c.args.span.now) _ c.put_span.new.writer.at = search rules in
    written c.args.span.now (sym c.in_default.ensures.value) (omega arith) placed
