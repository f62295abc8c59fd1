-- What no call changes, call after call.
use Rattle.std.proofs.Common.{◌≡◌, refl, ap, ◌∙◌}
use Rattle.zone.specs.Zones.{Zones}
use Rattle.calendar.specs.Calendars.{Calendars}
use Rattle.planboard.specs.View.{sources, sources_of, Same}
use Rattle.planboard.specs.declared.board.Board.{Board}

module _ {Z C : Type 0} where
  pub same_first : (b : Board Z C) → Same b b
  same_first b = record { zones = refl; calendars = refl; marks = refl; spans = refl }

  pub same_on : {a b c : Board Z C} → Same a b → Same b c → Same a c
  same_on s t = record { zones = t.zones ∙ s.zones; calendars = t.calendars ∙ s.calendars; marks = t.marks ∙ s.marks; spans = t.spans ∙ s.spans }

  pub sources_stay : (zones : Z → Zones) (calendars : C → Calendars) {a b : Board Z C} → Same a b → sources zones calendars b ≡ sources zones calendars a
  sources_stay zones calendars {a} {b} s =
      ap (λ z. sources_of (zones z.now) (calendars b.calendars.now)) s.zones ∙ ap (λ k. sources_of (zones a.zones.now) (calendars k.now)) s.calendars
