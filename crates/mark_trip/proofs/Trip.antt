-- The canonical text of a mark reads back.
use Rattle.std.proofs.Common.{◌≡◌, ℕ, ◌+◌, ◌-◌, ◌/◌, ◌%◌, false, cond, List, [], ◌∷◌, ◌++◌, length, take, Some, None, codes, refl, ap, ◌∙◌, inl, inr, append_assoc, arith, length-append}
use Rattle.std.proofs.lemmas.Bool.{cases_Bool}
use Rattle.std.proofs.lemmas.List.{drop_at, take_at}
use Rattle.names.specs.Names.{Runs}
use Rattle.writing.specs.Fractions.{point_text}
use Rattle.mark_form.specs.declared.draft.Draft.{Draft}
use Rattle.mark_form.specs.declared.layout.Part.{Part}
use Rattle.mark_form.specs.declared.layout.Tags.{Tags}
use Rattle.mark_form.specs.Grammar.{ZoneText, DraftText}
use Rattle.mark_form.specs.TagLaws.{Bang, TagAt, TagList, tags_of}
use Rattle.mark_form.specs.Tags.{no_tags}
use Rattle.mark_writing.specs.declared.stamp.Stamp.{Stamp}
use Rattle.mark_writing.specs.Canonical.{two_text, date_text, clock_text, offset_text, zone_text, is_iso8601, calendar_text, mark_text}
use Rattle.mark_writing.proofs.Pieces.{calendar_none, calendar_some}
use Rattle.mark_trip.specs.RoundTrip.{part_of, part_in, RoundTrip}
use Rattle.mark_trip.proofs.Numerals.{two_number, four_number, fraction_fits}
use Rattle.mark_trip.proofs.Offsets.{offset_fits, said_of, said_back}

-- ── the parts of the text ──

-- `YYYY-MM-DDThh:mm:ss`
abbrev clock : Stamp → List ℕ
clock s =
    two_text (s.year / 100)
    ++ (two_text (s.year % 100)
    ++ (45 ∷ (two_text s.month ++ (45 ∷ (two_text s.day ++ (84 ∷ (two_text s.hour ++ (58 ∷ (two_text s.minute ++ (58 ∷ two_text s.second))))))))))

-- what follows the seconds
abbrev tail : Stamp → List ℕ
tail s = offset_text s.offset ++ (91 ∷ (s.zone.now ++ (93 ∷ calendar_text s.calendar.now)))

parts_joined : (p o z c : List ℕ) → ((p ++ o) ++ (91 ∷ (z ++ (93 ∷ [])))) ++ c ≡ p ++ (o ++ (91 ∷ (z ++ (93 ∷ c))))
parts_joined p o z c = simp append_assoc

text_is : (s : Stamp) → mark_text s ≡ clock s ++ (point_text s.micros ++ tail s)
unfolding mark_text date_text clock_text zone_text
text_is s =
    ap (λ (t : List ℕ). clock s ++ t) (parts_joined (point_text s.micros) (offset_text s.offset) s.zone.now (calendar_text s.calendar.now))

-- ── where they stand ──

abbrev calendar_part : ℕ → List ℕ → Part
calendar_part at calendar = record { from = at + 6; to = (at + 6) + length calendar }

-- the tag that names a calendar
abbrev calendar_tag : ℕ → List ℕ → TagAt
calendar_tag at calendar = record { bracket = at; critical = false; key = codes "u-ca"; value = calendar_part at calendar }

abbrev tag_list : ℕ → List ℕ → List TagAt
tag_list at calendar = cond (is_iso8601 calendar) [] (calendar_tag at calendar ∷ [])

abbrev tags_at : ℕ → List ℕ → Tags
tags_at at calendar = cond (is_iso8601 calendar) no_tags (record { refused = None; calendar = Some (calendar_part at calendar); critical = false })

tags_come : (at : ℕ) (calendar : List ℕ) → tags_at at calendar ≡ tags_of (tag_list at calendar)
tags_come at calendar = elim (cases_Bool (is_iso8601 calendar)) [ inl e ↦ rw e refl | inr e ↦ rw e refl ]

tags_fit : (at : ℕ) (calendar : List ℕ) → Runs calendar → TagList at (calendar_text calendar) (tag_list at calendar)
tags_fit at calendar v = elim (cases_Bool (is_iso8601 calendar)) [
  | inl e ↦ rw (calendar_none calendar e, e) TagList.none
  | inr e ↦ rw (calendar_some calendar e, e)
      (TagList.tag {at = at} {from = at + 6} {to = (at + 6) + length calendar} (codes "u-ca") Bang.plain (refl, (refl, (refl, (refl, tt)))) v (omega arith) refl
      TagList.none)
]

abbrev sign_at : Stamp → ℕ
sign_at s = 19 + length (point_text s.micros)

abbrev name_at : Stamp → ℕ
name_at s = sign_at s + (length (offset_text s.offset) + 1)

abbrev name_end : Stamp → ℕ
name_end s = name_at s + length s.zone.now

-- what the text says
abbrev draft_of : Stamp → Draft
draft_of s = record {
  year = s.year;
  month = s.month;
  day = s.day;
  hour = s.hour;
  minute = s.minute;
  second = s.second;
  micros = s.micros;
  offset = Some (said_of (sign_at s) s.offset);
  name = record { from = name_at s; to = name_end s };
  tags = tags_at (name_end s + 1) s.calendar.now;
}

text_fits : (s : Stamp) → ZoneText s.zone.now → Runs s.calendar.now → DraftText (mark_text s) (draft_of s)
text_fits s z v = record {
  clock = clock s;
  fraction = point_text s.micros;
  offset = offset_text s.offset;
  bang = [];
  critical = false;
  name = s.zone.now;
  tags = calendar_text s.calendar.now;
  is = text_is s;
  clock_text = record {
    year = two_text (s.year / 100) ++ two_text (s.year % 100);
    month = two_text s.month;
    day = two_text s.day;
    hour = two_text s.hour;
    minute = two_text s.minute;
    second = two_text s.second;
    is = refl;
    year_text = four_number s.year s.year_high;
    month_text = two_number s.month s.month_high;
    day_text = two_number s.day s.day_high;
    hour_text = two_number s.hour s.hour_high;
    minute_text = two_number s.minute s.minute_high;
    second_text = two_number s.second s.second_high;
  };
  fraction_text = fraction_fits s.micros s.micros_high;
  offset_text = offset_fits (sign_at s) s.offset s.offset_high;
  bang_text = Bang.plain;
  name_text = z;
  name_from = refl;
  name_to = refl;
  each = tag_list (name_end s + 1) s.calendar.now;
  tags_text = tags_fit (name_end s + 1) s.calendar.now v;
  tags_told = tags_come (name_end s + 1) s.calendar.now;
}

-- ── the names ──

-- a part of a text
part_there : (x y z : List ℕ) (i j : ℕ) → length x ≡ i → j ≡ i + length y → part_of (x ++ (y ++ z)) (record { from = i; to = j }) ≡ y
part_there x y z i j e f =
    let n : length y ≡ j - i = omega arith in
    ap (take (j - i)) (drop_at x (y ++ z) i e) ∙ take_at y z (j - i) n

zone_back : (s : Stamp) → part_of (mark_text s) (record { from = name_at s; to = name_end s }) ≡ s.zone.now
zone_back s =
    let x = clock s ++ (point_text s.micros ++ (offset_text s.offset ++ (91 ∷ []))) in
    let e : mark_text s ≡ x ++ (s.zone.now ++ (93 ∷ calendar_text s.calendar.now)) = text_is s ∙ simp append_assoc in
    let n : length x ≡ name_at s = simp length-append (omega arith) in
    ap (λ t. part_of t (record { from = name_at s; to = name_end s })) e
    ∙ part_there x s.zone.now (93 ∷ calendar_text s.calendar.now) (name_at s) (name_end s) n refl

calendar_back : (s : Stamp) → is_iso8601 s.calendar.now ≡ false → part_of (mark_text s) (calendar_part (name_end s + 1) s.calendar.now) ≡ s.calendar.now
calendar_back s f =
    let at = name_end s + 1 in
    let before = clock s ++ (point_text s.micros ++ (offset_text s.offset ++ (91 ∷ (s.zone.now ++ (93 ∷ []))))) in
    let x = before ++ codes "[u-ca=" in
    let rest : calendar_text s.calendar.now ≡ codes "[u-ca=" ++ (s.calendar.now ++ (93 ∷ [])) = calendar_some s.calendar.now f in
    let e : mark_text s ≡ x ++ (s.calendar.now ++ (93 ∷ [])) = text_is s ∙ rw rest (simp append_assoc) in
    let n : length x ≡ at + 6 = simp length-append (omega arith) in
    ap (λ t. part_of t (calendar_part at s.calendar.now)) e ∙ part_there x s.calendar.now (93 ∷ []) (at + 6) ((at + 6) + length s.calendar.now) n refl

calendar_in : (s : Stamp)
    → part_in (mark_text s) (tags_at (name_end s + 1) s.calendar.now).calendar ≡ cond (is_iso8601 s.calendar.now) None (Some s.calendar.now)
calendar_in s = elim (cases_Bool (is_iso8601 s.calendar.now)) [ inl e ↦ rw e refl | inr e ↦ rw e (ap Some (calendar_back s e)) ]

unrefused : (at : ℕ) (calendar : List ℕ) → (tags_at at calendar).refused ≡ None
unrefused at calendar = elim (cases_Bool (is_iso8601 calendar)) [ inl e ↦ rw e refl | inr e ↦ rw e refl ]

-- ── the whole ──

pub round_trip : RoundTrip
round_trip s z v =
    let h = s.offset_high in
    record {
      draft = draft_of s;
      text = text_fits s z v;
      year = refl;
      month = refl;
      day = refl;
      hour = refl;
      minute = refl;
      second = refl;
      micros = refl;
      said = said_of (sign_at s) s.offset;
      is_said = refl;
      offset = said_back (sign_at s) s.offset;
      hours = omega arith;
      minutes = omega arith;
      seconds = omega arith;
      zone = zone_back s;
      calendar = calendar_in s;
      unrefused = unrefused (name_end s + 1) s.calendar.now;
    }
