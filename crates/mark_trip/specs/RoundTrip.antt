-- What was written of a mark reads back.
use Rattle.std.specs.Prelude.{◌≡◌, ℕ, ◌+◌, ◌-◌, ◌*◌, ◌<◌, cond, List, take, drop, ℤ, pos, neg_ℤ, Some, None, Option}
use Rattle.names.specs.Names.{Runs}
use Rattle.mark_form.specs.declared.draft.Draft.{Draft}
use Rattle.mark_form.specs.declared.draft.Said.{Said}
use Rattle.mark_form.specs.declared.layout.Part.{Part}
use Rattle.mark_form.specs.Grammar.{ZoneText, DraftText}
use Rattle.mark_writing.specs.declared.stamp.Stamp.{Stamp}
use Rattle.mark_writing.specs.Canonical.{is_iso8601, mark_text}

-- the seconds of an offset that a text says
abbrev pub said_seconds : Said → ℤ
said_seconds said =
    cond said.minus (neg_ℤ (pos (said.hours * 3600 + said.minutes * 60 + said.seconds))) (pos (said.hours * 3600 + said.minutes * 60 + said.seconds))

-- the bytes of a part of a text
abbrev pub part_of : List ℕ → Part → List ℕ
part_of t part = take (part.to - part.from) (drop part.from t)

-- the bytes of a part that there may be
abbrev pub part_in : List ℕ → Option Part → Option (List ℕ)
part_in t None = None
part_in t (Some part) = Some (part_of t part)

-- the canonical text of a stamp is a mark text, and says what the stamp shows: each number, the offset in hours, minutes and seconds that
-- a day and an hour have, the zone's name and, unless it is `iso8601`, the calendar's; no tag of it is refused
pub record ReadsBack (s : Stamp) : Type 0 where
  pub draft : Draft
  pub text : DraftText (mark_text s) draft
  pub year : draft.year ≡ s.year
  pub month : draft.month ≡ s.month
  pub day : draft.day ≡ s.day
  pub hour : draft.hour ≡ s.hour
  pub minute : draft.minute ≡ s.minute
  pub second : draft.second ≡ s.second
  pub micros : draft.micros ≡ s.micros
  pub said : Said
  pub is_said : draft.offset ≡ Some said
  pub offset : said_seconds said ≡ s.offset
  pub hours : said.hours < 24
  pub minutes : said.minutes < 60
  pub seconds : said.seconds < 60
  pub zone : part_of (mark_text s) draft.name ≡ s.zone.now
  pub calendar : part_in (mark_text s) draft.tags.calendar ≡ cond (is_iso8601 s.calendar.now) None (Some s.calendar.now)
  pub unrefused : draft.tags.refused ≡ None

-- every stamp whose names are in form
abbrev pub RoundTrip : Type 0
RoundTrip = (s : Stamp) → ZoneText s.zone.now → Runs s.calendar.now → ReadsBack s
