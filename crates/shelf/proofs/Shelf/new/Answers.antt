use Rattle.std.proofs.Common.{◌≡◌, length, replicate, take, None, ap, ◌∙◌, arith, rules, length-take}
use Rattle.shelf.proofs.Emptied.{emptied_new}
use Rattle.shelf.proofs.Shelf.new.Goals as goal

pub returns : goal.returns
returns g c =
    let xs = c.args.slots.now in
    let n = c.min-count.result in
    let count : length (take n xs) ≡ n = omega (arith, length-take n xs) in
    let filled : c.fill.new.self ≡ replicate n None = c.fill.ensures.after (λ y h. search rules) ∙ ap (λ m. replicate m None) count in
    let all = emptied_new g.row.CAP xs n c.fill.new.self (omega arith) filled in
    record { state = all.state; law = all.law; lent = search rules }
