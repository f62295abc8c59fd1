-- What a stamp that shows a mark gives: the text of the mark.
use Rattle.std.proofs.Common.{refl, sym, ◌∙◌, subst}
use Rattle.names.specs.Names.{Runs}
use Rattle.zone.specs.Zones.{Zones, ZonesLaws}
use Rattle.calendar.specs.Calendars.{Calendars, CalendarsLaws}
use Rattle.mark_form.specs.Grammar.{ZoneText}
use Rattle.mark_writing.specs.declared.stamp.Stamp.{Stamp}
use Rattle.mark_writing.specs.Canonical.{mark_text}
use Rattle.mark_writing.proofs.Lengths.{mark_short}
use Rattle.mark_trip.proofs.Trip.{round_trip}
use Rattle.mark_text.specs.declared.mark.Mark.{Mark}
use Rattle.mark_text.specs.Marks.{IsThere}
use Rattle.mark_text.specs.Shown.{ShownBy, TextOf}
use Rattle.mark_text.proofs.Named.{zone_form, calendar_form}
use Rattle.mark_text.proofs.Trips.{reads_back, one_text}

pub text_of : (zs : Zones) (cs : Calendars) (m : Mark) (s : Stamp) → ZonesLaws zs → CalendarsLaws cs → IsThere zs cs m → ShownBy zs cs m s → TextOf zs cs m (mark_text s)
text_of zs cs m s zl cl there shown =
    let z : ZoneText s.zone.now = subst ZoneText (sym shown.zone) (zone_form (zs.name m.zone) (zl.named m.zone there.zone.there)).0 in
    let k : Runs s.calendar.now = subst Runs (sym shown.calendar) (calendar_form (cs.name m.calendar) (cl.named m.calendar there.calendar.there)).0 in
    record {
      short = mark_short s;
      canonical = record { stamp = s; shown = shown; is = refl };
      alone = λ u y. y.is ∙ one_text zs cs m y.stamp s y.shown shown;
      reads_back = reads_back zs cs m s there shown (round_trip s z k);
    }
