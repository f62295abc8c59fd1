use Rattle.std.proofs.Common.{◌≡◌, subst}
use Rattle.zone.specs.Zones.{Zones}
use Rattle.calendar.specs.Calendars.{Calendars}
use Rattle.span_law.specs.Law.{SpansTrueOver}
use Rattle.board_sources.specs.Sources.{board_zones, board_calendars}
use Rattle.board_sources.proofs.law.own_spans_are_true.Goals as goal

over : (y z : Zones) (k l : Calendars) → y ≡ z → k ≡ l → SpansTrueOver y k → SpansTrueOver z l
over y z k l e f h = subst (SpansTrueOver z) f (subst (λ (x : Zones). SpansTrueOver x k) e h)

pub returns : goal.returns
returns c = over _ (board_zones c.args.one.now c.args.two.now) _ board_calendars c.zones.ensures c.calendars.ensures c.spans_are_true_over.ensures
