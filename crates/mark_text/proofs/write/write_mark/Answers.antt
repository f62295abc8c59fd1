use Rattle.std.proofs.Common.{Option, MatchOption, subst}
use Rattle.mark_writing.specs.declared.stamp.Stamp.{Stamp}
use Rattle.mark_writing.specs.Canonical.{mark_text}
use Rattle.mark_text.specs.Marks.{IsThere}
use Rattle.mark_text.specs.Shown.{ShownBy}
use Rattle.mark_text.proofs.Texts.{text_of}
use Rattle.mark_text.proofs.write.write_mark.Goals as goal

pub returns-clause-there : goal.returns-clause-there
returns-clause-there g c there =
    let zs = g.Z.ZoneSource.zones c.args.zones.now in
    let cs = g.C.CalendarSource.calendars c.args.calendars.now in
    let m = c.args.mark.now in
    let s = c.in_ok-stamp.stamp in
    let shown : ShownBy zs cs m s = (subst (λ (o : Option Stamp). MatchOption o (IsThere zs cs m → ⊥) (λ x. IsThere zs cs m × ShownBy zs cs m x)) c.in_ok-stamp.ensures.ok_part c.stamp_of.ensures).1 in
    record {
      text = mark_text s;
      of_mark = text_of zs cs m s (g.met.Z.ZoneSource.lawful c.args.zones.now) (g.met.C.CalendarSource.lawful c.args.calendars.now) there shown;
      answered = c.write_stamp.ensures.answer;
      holds = c.write_stamp.ensures.memory;
    }
