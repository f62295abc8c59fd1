use Rattle.std.proofs.Common.{length, [], ◌∷◌}
use Rattle.board_law.specs.Runs.{Lawful}
use Rattle.board_law.proofs.Keeps.{run_one}
use Rattle.board_law.proofs.Law.{keeps_on, spans_stay_true}
use Rattle.planboard.specs.Coded.{call_of}
use Rattle.planboard.specs.View.{view, sources}
use Rattle.planboard.proofs.Answering.{answered_judged}
use Rattle.planboard.proofs.board.Board.call.Goals as goal

pub returns : goal.returns
returns g c =
    let src = sources g.Z.ZoneSource.zones g.C.CalendarSource.calendars c.args.self.now in
    let st = view c.args.self.now in
    let call = call_of (length c.args.out.now) c.args.call.now in
    let lawful : Lawful src = record { zones = g.met.Z.ZoneSource.lawful c.args.self.now.zones.now; calendars = g.met.C.CalendarSource.lawful c.args.self.now.calendars.now } in
    record {
      answer = c.make.ensures.answer;
      judged = answered_judged src st c.make.ensures.answer;
      there = c.make.ensures.there;
      means = c.make.ensures.means;
      state = c.make.ensures.state;
      same = c.make.ensures.same;
      keeps = keeps_on src lawful st (view c.make.new.self) (call ∷ []) (run_one src st call c.make.ensures.state);
      law = spans_stay_true src lawful;
    }
