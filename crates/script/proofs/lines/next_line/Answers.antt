use Rattle.std.proofs.Common.{◌≡◌, ◌<◌, length, sym, refl, rules}
use Rattle.std.proofs.lemmas.Bool.{eqb-true}
use Rattle.script.proofs.Cuts.{nothing, cut_at, cut_all}
use Rattle.script.proofs.lines.next_line.Goals as goal

pub returns-then-is_empty : goal.returns-then-is_empty
returns-then-is_empty c = nothing c.args.text.now (eqb-true (length c.args.text.now) 0 (sym c.if-is_empty.ensures))

pub returns-in_default : goal.returns-in_default
returns-in_default c =
    let some : 0 < length c.args.text.now = search rules in
    let none : length c.split_at.result.1.now ≡ 0 = search rules in
    cut_all c.args.text.now _ _ c.line_length.result some c.line_length.ensures.value c.split_at.ensures.front c.split_at.ensures.back none

pub returns-in-len1-up : goal.returns-in-len1-up
returns-in-len1-up c =
    let some : 0 < length c.args.text.now = search rules in
    let more : 0 < length c.split_at.result.1.now = search rules in
    cut_at c.args.text.now _ _ c.line_length.result some c.line_length.ensures.value c.split_at.ensures.front c.split_at.result.1.now c.split_at.ensures.back more refl
