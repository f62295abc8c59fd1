-- A text is refused by what it is to be refused by.
use Rattle.std.proofs.Common.{◌≡◌, ◌≢◌, ℕ, ◌+◌, ◌<◌, ◌≤◌, false, List, ◌++◌, take, drop, min, ℤ, Some, None, Ok, Err, Option, Result, MatchResult, refl, sym, ap, ◌∙◌, subst, inl, inr, append_assoc, arith}
use Rattle.std.proofs.lemmas.Bool.{cases_lt, false_from_ne_true}
use Rattle.std.proofs.lemmas.List.{take-take, take-append-drop}
use Rattle.std.specs.Prelude.{ok_or}
use Rattle.timebase.specs.Instants.{is_instant}
use Rattle.timebase.specs.declared.fault.Fault.{Fault}
use Rattle.timebase.specs.declared.fault.Fault.TheVariants.{Unreadable, NoSuchField, UnknownZone, UnknownCalendar, InstantOut, Blank as NoOffset, OffsetDenied}
use Rattle.reading.specs.declared.Misread.{Misread}
use Rattle.reading.specs.Places.{Begins, Longest, RefusedWithin}
use Rattle.years.specs.Days.{HasDate}
use Rattle.iso8601.specs.Gregorian.{gregorian_years}
use Rattle.zone.specs.declared.value.Value.TheVariants.{Blank}
use Rattle.zone.specs.Zones.{Zone, Zones, offset}
use Rattle.calendar.specs.Calendars.{Calendars}
use Rattle.local_times.specs.Chains.{◌>>=◌}
use Rattle.local_times.specs.Meeting.{is}
use Rattle.local_times.specs.Locals.{second_of, offset_at}
use Rattle.local_times.proofs.Locals.{instant_bounds}
use Rattle.mark_form.specs.declared.draft.Draft.{Draft}
use Rattle.mark_form.specs.declared.draft.Said.{Said}
use Rattle.mark_form.specs.Drafts.{read_draft}
use Rattle.mark_form.specs.Grammar.{DraftText}
use Rattle.mark_form.proofs.Answering.{draft_lawful, draft_reads}
use Rattle.mark_trip.specs.RoundTrip.{part_of, said_seconds}
use Rattle.mark_text.specs.declared.fields.Fields.{Fields}
use Rattle.mark_text.specs.Fields.{date_of, fields_said, instant_said}
use Rattle.mark_text.specs.Ranges.{FirstWrong, date_numbers, clock_numbers, offset_numbers, numbers_of}
use Rattle.mark_text.specs.Reading.{or_unreadable, calendar_meant, calendar_place, agreed, read_answer}
use Rattle.mark_text.specs.Meanings.{Formed, Fitting, Tagged}
use Rattle.mark_text.specs.Refusals.{IsInstant, Zoned, Settled, Refused}
use Rattle.mark_text.proofs.Dates.{date_there}
use Rattle.mark_text.proofs.Judging.{after_offset, after_calendar, after_zone, after_tags, after_fields, after_form}
use Rattle.mark_text.proofs.Lookups.{none_bears, lowest_found}
use Rattle.mark_text.proofs.Parts.{year_small}
use Rattle.mark_text.proofs.Ranges.{all_parts, first_one, not_all}
use Rattle.mark_text.proofs.Tells.{FieldsTold, fields_told, said_shift, is_tells}
use Rattle.mark_text.proofs.Told.{fields_on, fields_ok, instant_ok}
use Rattle.mark_text.proofs.Trips.{tags_by, known_offset, in_range}

-- ── a text is refused at one place ──

module _ {V : Type 0} (Text : List ℕ → V → Type 0) where
  -- what begins so begins with less, too
  shorter : (t : List ℕ) (k m : ℕ) → k ≤ m → Begins Text (take m t) → Begins Text (take k t)
  shorter t k m h (w, (v, x)) =
      let e : take m t ++ w ≡ take k t ++ (drop k (take m t) ++ w) =
      ap (λ (z : List ℕ). z ++ w)
      (sym (take-append-drop k (take m t)) ∙ ap (λ (z : List ℕ). z ++ drop k (take m t)) (take-take k m t h)) ∙ append_assoc (take k t) (drop k (take m t)) w in
      (drop k (take m t) ++ w, (v, subst (λ (z : List ℕ). Text z v) e x))

  not_less : (t : List ℕ) (n m : ℕ) → Longest Text t n → Longest Text t m → n < m → ⊥
  not_less t n m a b l = a.no_further (omega (arith, b.within)) (shorter t (n + 1) m (omega arith) b.so_far)

  longest_one : (t : List ℕ) (n m : ℕ) → Longest Text t n → Longest Text t m → n ≡ m
  longest_one t n m a b = elim (cases_lt n m) [
    | inl l ↦ absurd (not_less t n m a b l)
    | inr g ↦ elim (cases_lt m n) [ inl l ↦ absurd (not_less t m n b a l) | inr h ↦ omega arith ]
  ]

  place_one : (limit : ℕ) (t : List ℕ) (p q : ℕ) → RefusedWithin Text limit t p → RefusedWithin Text limit t q → p ≡ q
  place_one limit t p q a b = a.at ∙ (ap (λ n. min n limit) (longest_one t a.most b.most a.longest b.longest) ∙ sym b.at)

-- ── numbers ──

fields_wrong : {p : ℕ} (d : Draft) → d.year ≤ 9999 → FirstWrong (numbers_of d) p → fields_said d ≡ Err (NoSuchField p)
fields_wrong {p} d small w = by (fields_said d) refl (fields_told (λ x. x ≡ NoSuchField p) d small (λ q v. ap NoSuchField (first_one v w)))
  where
    by : (r : Result Fields Fault) → fields_said d ≡ r → MatchResult r (FieldsTold d) (λ x. x ≡ NoSuchField p) → r ≡ Err (NoSuchField p)
    by (Ok f) e told = absurd (not_all w told.fit)
    by (Err x) e h = ap Err h

-- ── the offset at an instant ──

out_there : (zone : Zone) (i : ℤ) → (IsInstant i → ⊥) → offset_at zone i ≡ Err InstantOut
out_there zone i n = let e : is_instant i ≡ false = false_from_ne_true (is_instant i) (λ t. n (instant_bounds i t)) in rw e refl

blank_there : (zone : Zone) (i : ℤ) (c k : ℕ) → IsInstant i → zone (second_of i) ≡ Blank c k → offset_at zone i ≡ Err (NoOffset c k)
blank_there zone i c k r e = rw (in_range i r.0 r.1, e) refl

denied_there : (said : Said) (p : Option Said) (o : ℤ) → p ≡ Some said → said_seconds said ≢ o → agreed (said_shift p) o p ≡ Err (OffsetDenied said.sign)
denied_there said p o e n =
    let f : is (said_seconds said) o ≡ false = false_from_ne_true (is (said_seconds said) o) (λ t. n (is_tells (said_seconds said) o t)) in
    ap (λ (q : Option Said). agreed (said_shift q) o q) e ∙ rw f refl

-- ── step by step ──

-- a step whose answer is known
step : {A B : Type 0} {r q : Result A Fault} (k : A → Result B Fault) → r ≡ q → (r >>= k) ≡ (q >>= k)
step k e = ap (λ r. r >>= k) e

-- a number that is looked for, or a refusal
named : {o p : Option ℕ} (x : Fault) → o ≡ p → ok_or o x ≡ ok_or p x
named x e = ap (λ o. ok_or o x) e

module _ (zs : Zones) (cs : Calendars) (t : List ℕ) where
  formed_on : (d : Draft) → Formed t d → read_answer zs cs t ≡ after_form zs cs t d
  formed_on d x = step (after_form zs cs t) (ap or_unreadable (draft_reads t d x.text x.short))

  fitting_on : (d : Draft) (n : ℕ) → HasDate gregorian_years n (date_of d) → Fitting t d → read_answer zs cs t ≡ after_fields zs cs t d (fields_on d n)
  fitting_on d n h x = formed_on d x.formed ∙ step (after_fields zs cs t d) (fields_ok d n h x.fit)

  -- the day of a text whose numbers fit
  day_on : (d : Draft) → Fitting t d → (n : ℕ) × HasDate gregorian_years n (date_of d)
  day_on d x = date_there d (all_parts (date_numbers d) (clock_numbers 11 d.hour d.minute d.second ++ offset_numbers d.offset) x.fit).0

  tagged_on : (d : Draft) (n : ℕ) → HasDate gregorian_years n (date_of d) → Tagged t d → read_answer zs cs t ≡ after_tags zs cs t d (fields_on d n)
  tagged_on d n h x =
      fitting_on d n h x.fitting
      ∙ step (λ _. after_tags zs cs t d (fields_on d n)) (tags_by d.tags None x.unrefused)

  zoned_on : (d : Draft) (n z : ℕ) → HasDate gregorian_years n (date_of d) → Zoned zs t d z → read_answer zs cs t ≡ after_zone zs cs t d (fields_on d n) z
  zoned_on d n z h x =
      tagged_on d n h x.tagged
      ∙ step (after_zone zs cs t d (fields_on d n)) (named (UnknownZone d.name.from) (lowest_found zs.name (part_of t d.name) zs.count z x.bears))

  settled_on : (d : Draft) (z : ℕ) (i : ℤ) (x : Settled zs cs t d z i) → read_answer zs cs t ≡ after_calendar zs cs t d (fields_on d x.instant.number) z x.calendar
  settled_on d z i x =
      let f = fields_on d x.instant.number in
      zoned_on d x.instant.number z x.instant.date x.zoned
      ∙ step (after_calendar zs cs t d f z)
      (named (UnknownCalendar (calendar_place t d.tags.calendar)) (lowest_found cs.name (calendar_meant t d.tags.calendar) cs.count x.calendar x.bears))

  -- what is not in form
  form_on : (at : ℕ) → RefusedWithin DraftText 128 t at → read_answer zs cs t ≡ Err (Unreadable at)
  form_on at h = by (read_draft t) refl
    where
      by : (r : Result Draft Misread) → read_draft t ≡ r → (or_unreadable r >>= after_form zs cs t) ≡ Err (Unreadable at)
      by (Ok d) e = let a = (draft_lawful t (Ok d) (sym e)).law in absurd (h.no_text d a.0 a.1)
      by (Err m) e = ap (λ n. Err (Unreadable n)) (place_one DraftText 128 t m.at at (draft_lawful t (Err m) (sym e)).law h)

  at_instant : (d : Draft) (z : ℕ) (i : ℤ) (x : Settled zs cs t d z i) (r : Result ℤ Fault) → offset_at (zs.value z) i ≡ r →
      read_answer zs cs t ≡ (r >>= after_offset zs cs t d (fields_on d x.instant.number) z x.calendar)
  at_instant d z i x r e = settled_on d z i x ∙ step (after_offset zs cs t d (fields_on d x.instant.number) z x.calendar) (ap (offset_at (zs.value z)) (instant_ok d i x.instant) ∙ e)

  pub refused_read : (fault : Fault) → Refused zs cs t fault → read_answer zs cs t ≡ Err fault
  refused_read fault (Refused.form {at} h) = form_on at h
  refused_read fault (Refused.number {d} x w) = formed_on d x ∙ step (after_fields zs cs t d) (fields_wrong d (year_small t d x.text) w)
  refused_read fault (Refused.tag {d} {bracket} x e) =
      let n = day_on d x in
      fitting_on d n.0 n.1 x
      ∙ step (λ _. after_tags zs cs t d (fields_on d n.0)) (tags_by d.tags (Some bracket) e)
  refused_read fault (Refused.zone {d} x none) =
      let n = day_on d x.fitting in
      tagged_on d n.0 n.1 x
      ∙ step (after_zone zs cs t d (fields_on d n.0)) (named (UnknownZone d.name.from) (none_bears zs.name (part_of t d.name) zs.count none))
  refused_read fault (Refused.calendar {d} {z} x none) =
      let n = day_on d x.tagged.fitting in
      zoned_on d n.0 z n.1 x
      ∙ step (after_calendar zs cs t d (fields_on d n.0) z)
      (named (UnknownCalendar (calendar_place t d.tags.calendar)) (none_bears cs.name (calendar_meant t d.tags.calendar) cs.count none))
  refused_read fault (Refused.range {d} {z} {i} x n) = at_instant d z i x (Err InstantOut) (out_there (zs.value z) i n)
  refused_read fault (Refused.blank {d} {z} {cause} {depth} {i} x r e) = at_instant d z i x (Err (NoOffset cause depth)) (blank_there (zs.value z) i cause depth r e)
  refused_read fault (Refused.denied {d} {z} {i} {said} x k e n) =
      let o = offset (zs.value z (second_of i)) in
      let f = fields_on d x.instant.number in
      at_instant d z i x (Ok o) (known_offset (zs.value z) i k)
      ∙ step (λ _. Ok (record { instant = instant_said f; zone = z; calendar = x.calendar })) (denied_there said d.offset o e n)
