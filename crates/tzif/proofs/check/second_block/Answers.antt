use Rattle.std.proofs.Common.{◌+◌, ◌*◌, rules}
use Rattle.tzif.specs.File.{rising_at, index_at, type_at}
use Rattle.tzif.proofs.Judging.{first_append, or_none}
use Rattle.tzif.proofs.check.second_block.Goals as goal

pub returns-in_err-each-clause-wrong : goal.returns-in_err-each-clause-wrong
returns-in_err-each-clause-wrong c =
    let seconds = c.each.ensures c.args.file.now (rising_at c.args.file.now c.args.block) (λ k r h p. search rules) in
    search (rules, first_append, seconds)

pub returns-in_err-each-2-clause-wrong : goal.returns-in_err-each-2-clause-wrong
returns-in_err-each-2-clause-wrong c =
    let seconds = c.each.ensures c.args.file.now (rising_at c.args.file.now c.args.block) (λ k r h p. search rules) in
    let indexes = c.each-2.ensures c.args.file.now (index_at c.args.file.now (c.args.block + 8 * c.args.counts.times) c.args.counts.types) (λ k r h p. search (rules, or_none)) in
    search (rules, first_append, seconds, indexes)

pub returns-in_err-each-3-clause-wrong : goal.returns-in_err-each-3-clause-wrong
returns-in_err-each-3-clause-wrong c =
    let seconds = c.each.ensures c.args.file.now (rising_at c.args.file.now c.args.block) (λ k r h p. search rules) in
    let indexes = c.each-2.ensures c.args.file.now (index_at c.args.file.now (c.args.block + 8 * c.args.counts.times) c.args.counts.types) (λ k r h p. search (rules, or_none)) in
    let types = c.each-3.ensures c.args.file.now (type_at c.args.file.now (c.args.block + 9 * c.args.counts.times)) (λ k r h p. search rules) in
    search (rules, first_append, seconds, indexes, types)

pub returns-clause-wrong : goal.returns-clause-wrong
returns-clause-wrong c =
    let seconds = c.each.ensures c.args.file.now (rising_at c.args.file.now c.args.block) (λ k r h p. search rules) in
    let indexes = c.each-2.ensures c.args.file.now (index_at c.args.file.now (c.args.block + 8 * c.args.counts.times) c.args.counts.types) (λ k r h p. search (rules, or_none)) in
    let types = c.each-3.ensures c.args.file.now (type_at c.args.file.now (c.args.block + 9 * c.args.counts.times)) (λ k r h p. search rules) in
    search (rules, first_append, seconds, indexes, types)
