use Rattle.std.proofs.Common.{◌<◌, ◌≤◌, length, subst}
use Rattle.planboard.specs.View.{view, sources}
use Rattle.planboard.proofs.Listed.{going_first, going_on, going_end}
use Rattle.planboard.proofs.board.Board.put_list.Goals as goal

pub loop-k-init : goal.loop-k-init
loop-k-init g c = going_first (sources g.Z.ZoneSource.zones g.C.CalendarSource.calendars c.args.self.now) (view c.args.self.now) c.args.writer.now

pub loop-k-preserved : goal.loop-k-preserved
loop-k-preserved g c =
    going_on (sources g.Z.ZoneSource.zones g.C.CalendarSource.calendars c.args.self.now) (view c.args.self.now) c.put_line.new.writer c.loop-k.invariant
    (subst (λ xs. c.loop-k.k < length xs) c.slots-slot-items.ensures.value c.loop-k-test.true) c.put_line.ensures

pub returns : goal.returns
returns g c =
    going_end (sources g.Z.ZoneSource.zones g.C.CalendarSource.calendars c.args.self.now) (view c.args.self.now) c.loop-k.invariant
    (subst (λ xs. length xs ≤ c.loop-k.k) c.slots-slot-items.ensures.value c.loop-k-test.false)
