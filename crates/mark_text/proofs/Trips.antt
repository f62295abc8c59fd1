-- The canonical text of a mark that is there is one, and reading it gives the mark.
use Rattle.std.proofs.Common.{◌≡◌, ℕ, ◌+◌, ◌*◌, ◌-◌, ◌<◌, ◌≤◌, Bool, true, false, cond, List, ℤ, pos, ◌+ℤ◌, ◌-ℤ◌, ◌*ℤ◌, ◌≤ℤ◌, Some, None, Ok, Err, Option, Result, sym, refl, ap, ◌∙◌, arith}
use Rattle.std.proofs.lemmas.Int.{ints}
use Rattle.std.proofs.lemmas.Bool.{cond-true, lt-ltb, and_from}
use Rattle.std.proofs.lemmas.Slice.Eq.{bytes_eq-Decides}
use Rattle.std.specs.Prelude.{ok_or, codes}
use Rattle.timebase.specs.declared.fault.Fault.{Fault}
use Rattle.timebase.specs.declared.fault.Fault.TheVariants.{NoSuchField, CriticalTag, UnknownCalendar, OffsetDenied, InstantOut}
use Rattle.timebase.specs.Instants.{first_instant, last_instant, is_instant}
use lib.Signed.{le_z}
use Rattle.std.proofs.lemmas.Bool.Decides.{nat_tests}
use Rattle.timebase.specs.Splits.{floor_quotient}
use Rattle.years.specs.declared.date.Date.{Date}
use Rattle.iso8601.specs.Gregorian.{gregorian_years}
use Rattle.calendar.specs.Singles.{day_number}
use Rattle.years.specs.Dates.{after}
use Rattle.zone.specs.declared.value.Value.{Value}
use Rattle.zone.specs.declared.value.Value.TheVariants.{Offset, Blank}
use Rattle.zone.specs.Zones.{Zone, Zones, is_blank, offset}
use Rattle.calendar.specs.Calendars.{Calendars}
use Rattle.local_times.specs.Chains.{◌>>=◌}
use Rattle.local_times.specs.Meeting.{is, offset_known}
use Rattle.local_times.specs.Locals.{second_of, micros_of, local_second, local_day, clock_second, count_of, Known, offset_at}
use Rattle.local_times.proofs.Locals.{floor_day, floor_second}
use Rattle.mark_form.specs.declared.draft.Draft.{Draft}
use Rattle.mark_form.specs.declared.draft.Said.{Said}
use Rattle.mark_form.specs.declared.layout.Part.{Part}
use Rattle.mark_form.specs.declared.layout.Tags.{Tags}
use Rattle.mark_form.proofs.Answering.{draft_reads}
use Rattle.mark_writing.specs.declared.stamp.Stamp.{Stamp}
use Rattle.mark_writing.proofs.Lengths.{mark_short}
use Rattle.mark_writing.specs.Canonical.{is_iso8601, mark_text, date_text, clock_text}
use Rattle.mark_trip.specs.RoundTrip.{part_of, part_in, said_seconds, ReadsBack}
use Rattle.mark_text.specs.declared.fields.Fields.{Fields}
use Rattle.mark_text.specs.declared.mark.Mark.{Mark}
use Rattle.mark_text.specs.Fields.{date_of, wrong_date, day_said, clock_said, shift_said, offset_said, fields_said, instant_said}
use Rattle.mark_text.specs.Marks.{IsThere, Lowest, number_of}
use Rattle.mark_text.specs.Reading.{tags_said, zone_said, calendar_meant, calendar_place, calendar_said, agreed, read_answer}
use Rattle.mark_text.specs.Shown.{ShownBy}
use Rattle.mark_text.proofs.Answered.{answered}
use Rattle.mark_text.proofs.Dates.{numbered}
use Rattle.mark_text.proofs.Lookups.{lowest_found}

-- ── fields ──

pub day_by : (d : Draft) (n : ℕ) → Some n ≡ day_number gregorian_years (date_of d) → day_said d ≡ Ok n
day_by d n e = ap (λ (o : Option ℕ). elim o [ Some n ↦ Ok n | None ↦ Err (NoSuchField (wrong_date d)) ]) (sym e)

clock_by : (at h m s : ℕ) → h < 24 → m < 60 → s < 60 → clock_said at h m s ≡ Ok (h * 3600 + m * 60 + s)
clock_by at h m s a b c = rw (lt-ltb h 24 a, lt-ltb m 60 b, lt-ltb s 60 c) refl

pub shift_by : (said : Said) → said.hours < 24 → said.minutes < 60 → said.seconds < 60 → shift_said said ≡ Ok (said_seconds said)
shift_by said a b c = ap (λ (r : Result ℕ Fault). r >>= λ _. Ok (said_seconds said)) (clock_by (said.sign + 1) said.hours said.minutes said.seconds a b c)

-- a text whose fields are those of a day, a clock time and an offset
pub fields_by : (d : Draft) (n : ℕ) (o : Option ℤ) → day_said d ≡ Ok n → d.hour < 24 → d.minute < 60 → d.second < 60 → offset_said d.offset ≡ Ok o →
    fields_said d ≡ Ok (record { day = n; clock = d.hour * 3600 + d.minute * 60 + d.second; micros = d.micros; offset = o })
fields_by d n o e a b c f = rw (e, clock_by 11 d.hour d.minute d.second a b c, f) refl

-- what tags answer whose first refused one is known
pub tags_by : (g : Tags) (o : Option ℕ) → g.refused ≡ o → tags_said g ≡ elim o as (λ _. Result (Unit {0}) Fault) [ None ↦ Ok tt | Some bracket ↦ Err (CriticalTag bracket) ]
tags_by g o e = ap (λ (r : Option ℕ). elim r as (λ _. Result (Unit {0}) Fault) [ None ↦ Ok tt | Some bracket ↦ Err (CriticalTag bracket) ]) e

-- ── instants ──

-- the local time less the offset is the instant
back : (zone : Zone) (i : ℤ) (n k u : ℕ) (o : ℤ) → pos n ≡ local_day zone i → k ≡ clock_second zone i → u ≡ micros_of i → o ≡ offset (zone (second_of i)) →
    ((count_of (pos n) k -ℤ o) *ℤ pos 1000000) +ℤ pos u ≡ i
back zone i n k u o e1 e2 e3 e4 =
    by (floor_quotient (local_second zone i) 86400) (clock_second zone i) (second_of i) (micros_of i) (offset (zone (second_of i))) (floor_day (local_second zone i)).0 (floor_second i).0 e1 e2 e3 e4
  where
    by : (q : ℤ) (r : ℕ) (s : ℤ) (v : ℕ) (p : ℤ) → (q *ℤ pos 86400) +ℤ pos r ≡ s +ℤ p → (s *ℤ pos 1000000) +ℤ pos v ≡ i → pos n ≡ q +ℤ pos 719163 → k ≡ r → u ≡ v → o ≡ p →
        ((count_of (pos n) k -ℤ o) *ℤ pos 1000000) +ℤ pos u ≡ i
    by q r s v p f1 f2 g1 g2 g3 g4 = omega (arith, ints)

hour_low : (h m s k : ℕ) → h * 3600 + m * 60 + s ≡ k → k ≤ 86399 → h < 24
hour_low h m s k e l = omega arith

-- ── names ──

pub zone_by : (zs : Zones) (t : List ℕ) (p : Part) (z : ℕ) → Lowest zs.name zs.count (zs.name z) z → part_of t p ≡ zs.name z → zone_said zs t p ≡ Ok z
zone_by zs t p z l e = rw (e, lowest_found zs.name (zs.name z) zs.count z l) refl

pub calendar_by : (cs : Calendars) (t : List ℕ) (v : Option Part) (k : ℕ) → Lowest cs.name cs.count (cs.name k) k → calendar_meant t v ≡ cs.name k → calendar_said cs t v ≡ Ok k
calendar_by cs t v k l e = ap (λ (n : List ℕ). ok_or (number_of cs.name cs.count n) (UnknownCalendar (calendar_place t v))) e ∙ ap (λ (o : Option ℕ). ok_or o (UnknownCalendar (calendar_place t v))) (lowest_found cs.name (cs.name k) cs.count k l)

-- the calendar's name that the canonical text means
meant : (t : List ℕ) (v : Option Part) (n : List ℕ) (b : Bool) → is_iso8601 n ≡ b → part_in t v ≡ cond b None (Some n) → calendar_meant t v ≡ n
meant t None n true e f = sym ((bytes_eq-Decides n (codes "iso8601")).0 e)
meant t None n false e f = let z : ◌≡◌ {A = ℕ} 0 1 = cc in absurd (omega arith)
meant t (Some p) n true e f = let z : ◌≡◌ {A = ℕ} 0 1 = cc in absurd (omega arith)
meant t (Some p) n false e f = cc

-- ── the offset ──

pub same_is : (a b : ℤ) → a ≡ b → is a b ≡ true
same_is a b e = grind (arith, ints, nat_tests)

known_by : (v : Value) → is_blank v ≡ false → offset_known v ≡ Ok (offset v)
known_by (Offset o) e = refl
known_by (Blank c d) e = let z : ◌≡◌ {A = ℕ} 0 1 = cc in absurd (omega arith)

pub in_range : (i : ℤ) → first_instant ≤ℤ i → i ≤ℤ last_instant → is_instant i ≡ true
in_range i l h = and_from _ _ (low first_instant i l) (low i last_instant h)
  where
    low : (x y : ℤ) → x ≤ℤ y → le_z x y ≡ true
    low x y h = grind (arith, ints)

pub known_offset : (zone : Zone) (i : ℤ) → Known zone i → offset_at zone i ≡ Ok (offset (zone (second_of i)))
known_offset zone i k = cond-true (is_instant i) (offset_known (zone (second_of i))) (Err InstantOut) (in_range i k.low k.high) ∙ known_by (zone (second_of i)) k.sure

-- ── the trip ──

dates : (y y' m m' d d' : ℕ) → y ≡ y' → m ≡ m' → d ≡ d' → ◌≡◌ {A = Date} (record { year = pos y; month = m; day = d }) (record { year = pos y'; month = m'; day = d' })
dates y y' m m' d d' e f g = rw (e, f, g) refl

clocks : (h h' m m' s s' : ℕ) → h ≡ h' → m ≡ m' → s ≡ s' → h * 3600 + m * 60 + s ≡ h' * 3600 + m' * 60 + s'
clocks h h' m m' s s' e f g = omega arith

module _ (zs : Zones) (cs : Calendars) (m : Mark) (s : Stamp) (there : IsThere zs cs m) (shown : ShownBy zs cs m s) (reads : ReadsBack s) where
  abbrev f : Zone
  f = zs.value m.zone

  abbrev d : Draft
  d = reads.draft

  abbrev said : Fields
  said = record { day = shown.number; clock = d.hour * 3600 + d.minute * 60 + d.second; micros = d.micros; offset = Some (said_seconds reads.said) }

  date_same : date_of d ≡ record { year = pos s.year; month = s.month; day = s.day }
  date_same = dates d.year s.year d.month s.month d.day s.day reads.year reads.month reads.day

  clock_same : d.hour * 3600 + d.minute * 60 + d.second ≡ clock_second f m.instant
  clock_same = clocks d.hour s.hour d.minute s.minute d.second s.second reads.hour reads.minute reads.second ∙ shown.clock

  shift_same : offset_said d.offset ≡ Ok (Some (said_seconds reads.said))
  shift_same = ap offset_said reads.is_said ∙ ap (λ (r : Result ℤ Fault). r >>= λ z. Ok (Some z)) (shift_by reads.said reads.hours reads.minutes reads.seconds)

  fields_same : fields_said d ≡ Ok said
  fields_same =
      fields_by d shown.number (Some (said_seconds reads.said)) (day_by d shown.number (numbered shown.number _ shown.date ∙ ap (day_number gregorian_years) (sym date_same)))
      (hour_low d.hour d.minute d.second (clock_second f m.instant) clock_same (floor_day (local_second f m.instant)).1)
      (omega (arith, reads.minute, shown.minute)) (omega (arith, reads.second, shown.second)) shift_same

  instant_same : instant_said said ≡ m.instant
  instant_same = back f m.instant shown.number said.clock d.micros (said_seconds reads.said) shown.number_is clock_same (reads.micros ∙ shown.micros) (reads.offset ∙ shown.shift)

  pub reads_back : read_answer zs cs (mark_text s) ≡ Ok m
  reads_back =
      let o = offset (f (second_of m.instant)) in
      answered zs cs (mark_text s) d said m.zone m.calendar o (Ok tt) (draft_reads (mark_text s) d reads.text (omega (arith, mark_short s))) fields_same (tags_by d.tags None reads.unrefused)
      (zone_by zs (mark_text s) d.name m.zone there.zone (reads.zone ∙ shown.zone))
      (calendar_by cs (mark_text s) d.tags.calendar m.calendar there.calendar (meant (mark_text s) d.tags.calendar s.calendar.now (is_iso8601 s.calendar.now) refl reads.calendar ∙ shown.calendar))
      (ap (offset_at f) instant_same ∙ known_offset f m.instant there.known)
      (ap (agreed said.offset o) reads.is_said ∙ cond-true (is (said_seconds reads.said) o) (Ok tt) (Err (OffsetDenied reads.said.sign)) (same_is (said_seconds reads.said) o (reads.offset ∙ shown.shift)))
      ∙ ap (λ (i : ℤ). Ok (record { instant = i; zone = m.zone; calendar = m.calendar })) instant_same

-- ── one text ──

divided : (h k m n s r : ℕ) → m < 60 → n < 60 → s < 60 → r < 60 → h * 3600 + m * 60 + s ≡ k * 3600 + n * 60 + r → (h ≡ k) × (m ≡ n) × (s ≡ r)
divided h k m n s r a b c d e = (omega arith, omega arith, omega arith)

text_by : (s r : Stamp) → s.year ≡ r.year → s.month ≡ r.month → s.day ≡ r.day → s.hour ≡ r.hour → s.minute ≡ r.minute → s.second ≡ r.second → s.micros ≡ r.micros → s.offset ≡ r.offset → s.zone.now ≡ r.zone.now → s.calendar.now ≡ r.calendar.now → mark_text s ≡ mark_text r
unfolding mark_text date_text clock_text
text_by s r e1 e2 e3 e4 e5 e6 e7 e8 e9 e10 = rw (e1, e2, e3, e4, e5, e6, e7, e8, e9, e10) refl

pub one_text : (zs : Zones) (cs : Calendars) (m : Mark) (s r : Stamp) → ShownBy zs cs m s → ShownBy zs cs m r → mark_text s ≡ mark_text r
one_text zs cs m s r a b =
    let n : a.number ≡ b.number = same (a.number_is ∙ sym b.number_is) in
    let d = a.date.1 ∙ ap (λ (k : ℕ). after gregorian_years.shape gregorian_years.origin (k - 1)) n ∙ sym b.date.1 in
    let c = divided s.hour r.hour s.minute r.minute s.second r.second a.minute b.minute a.second b.second (a.clock ∙ sym b.clock) in
    text_by s r (same (ap (λ (x : Date). x.year) d)) (ap (λ (x : Date). x.month) d) (ap (λ (x : Date). x.day) d) c.0 c.1 c.2 (a.micros ∙ sym b.micros) (a.shift ∙ sym b.shift) (a.zone ∙ sym b.zone) (a.calendar ∙ sym b.calendar)
  where
    same : {x y : ℕ} → pos x ≡ pos y → x ≡ y
    same e = cc
