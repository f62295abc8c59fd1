-- What a clause reads of a board.
use Rattle.std.specs.Prelude.{◌≡◌}
use Rattle.std.specs.Borrow.{GName}
use Rattle.calendar.specs.Calendars.{Calendars}
use Rattle.zone.specs.Zones.{Zones}
use Rattle.shelf.specs.Loans.{memory, lender}
use Rattle.board_law.specs.Boards.{Sources, State}
use Rattle.planboard.specs.declared.board.Board.{Board}

-- what its shelves hold
abbrev pub view : {Z C : Type 0} → Board Z C → State
view b = record { marks = memory b.marks; spans = memory b.spans }

abbrev pub sources_of : Zones → Calendars → Sources
sources_of zs cs = record { zones = zs; calendars = cs }

-- what its sources mean
abbrev pub sources : {Z C : Type 0} → (Z → Zones) → (C → Calendars) → Board Z C → Sources
sources zones calendars b = sources_of (zones b.zones.now) (calendars b.calendars.now)

-- whose memory it is
abbrev pub mark_lender : {Z C : Type 0} → Board Z C → GName
mark_lender b = lender b.marks

abbrev pub span_lender : {Z C : Type 0} → Board Z C → GName
span_lender b = lender b.spans

-- what no call changes: the sources, and whose memory it is
pub record Same {Z C : Type 0} (b b' : Board Z C) : Type 0 where
  pub zones : b'.zones ≡ b.zones
  pub calendars : b'.calendars ≡ b.calendars
  pub marks : mark_lender b' ≡ mark_lender b
  pub spans : span_lender b' ≡ span_lender b
