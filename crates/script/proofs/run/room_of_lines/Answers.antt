use Rattle.std.proofs.Common.{length, ap, ◌∙◌, arith}
use Rattle.script.specs.declared.lines.Lines.{Lines}
use Rattle.script.specs.Scripts.{lines_of, room_of}
use Rattle.script.proofs.Cuts.{few_lines}
use Rattle.script.proofs.Rooms.{adding_first, adding_on, adding_end}
use Rattle.script.proofs.run.room_of_lines.Goals as goal

pub overflow_add-room : goal.overflow_add-room
overflow_add-room c =
    let all = ap (λ (z : Lines). length (lines_of z.left.now)) c.into_iter-line-iterator.ensures.into_iter_gives in
    let g = adding_on c.in-Some.line.now _ c.line_room-room.result c.loop-line.invariant c.in-Some.ensures.steps c.line_room-room.ensures.value c.line_room-room.ensures.most in
    omega (arith, g.most, all, few_lines c.args.script.now, c.requires.small)

pub loop-line-init : goal.loop-line-init
loop-line-init c = adding_first c.args.slots _

pub loop-line-preserved : goal.loop-line-preserved
loop-line-preserved c =
    adding_on c.in-Some.line.now _ c.line_room-room.result c.loop-line.invariant c.in-Some.ensures.steps c.line_room-room.ensures.value c.line_room-room.ensures.most

pub returns : goal.returns
returns c =
    adding_end c.loop-line.invariant c.in-None.ensures.steps.0
    ∙ ap (λ (z : Lines). room_of c.args.slots (lines_of z.left.now)) c.into_iter-line-iterator.ensures.into_iter_gives
