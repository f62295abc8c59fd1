use Rattle.std.proofs.Common.{◌≡◌, ℤ, List, ℕ, ap, ◌∙◌, arith, w32, to_z, of_z}
use Rattle.std.proofs.lemmas.Int.{ints}
use Rattle.zone_rule.specs.Naming.{named_zone}
use Rattle.zone_rule.specs.Steps.{steps_tell}
use Rattle.zone_rule.specs.Telling.{told_by}
use Rattle.board_sources.proofs.zones.stepped.Goals as goal

pub returns : goal.returns
returns c =
    let e : to_z w32 (of_z w32 c.args.first) ≡ c.args.first = omega (arith, ints) in
    ap (λ (n : List ℕ). named_zone n (told_by c.new-2.result)) c.new.ensures
    ∙ ap (named_zone c.args.name.now) (c.new-2.ensures ∙ ap (λ (x : ℤ). steps_tell x c.args.changes.now) e)
