use Rattle.std.proofs.Common.{◌≡◌, nat_abs, rules}
use Rattle.writing.proofs.Puttings.{puts_more}
use Rattle.span_text.proofs.write.put_date.Goals as goal

pub returns : goal.returns
returns c =
    let years : c.from.result ≡ nat_abs c.args.span.now.years = search rules in
    let months : c.from-2.result ≡ nat_abs c.args.span.now.months = search rules in
    let weeks : c.from-3.result ≡ nat_abs c.args.span.now.weeks = search rules in
    let days : c.from-4.result ≡ nat_abs c.args.span.now.days = search rules in
    let parts = puts_more (puts_more (puts_more c.put_part.ensures c.put_part-2.ensures) c.put_part-3.ensures) c.put_part-4.ensures in
    rw (years, months, weeks, days) at parts
