-- What reading a text answers is what the text says, or by what it is refused.
use Rattle.std.proofs.Common.{◌≡◌, ℕ, ℤ, List, Ok, Err, IfOk, IfErr, Option, Result, MatchResult, refl, sym, subst}
use Rattle.timebase.specs.declared.fault.Fault.{Fault}
use Rattle.timebase.specs.declared.fault.Fault.TheVariants.{UnknownZone, UnknownCalendar}
use Rattle.reading.specs.declared.Misread.{Misread}
use Rattle.zone.specs.Zones.{Zones}
use Rattle.calendar.specs.Calendars.{Calendars}
use Rattle.local_times.specs.Chains.{◌>>=◌}
use Rattle.local_times.specs.Locals.{offset_at}
use Rattle.mark_form.specs.declared.draft.Draft.{Draft}
use Rattle.mark_form.specs.Drafts.{read_draft}
use Rattle.mark_form.proofs.Answering.{draft_lawful}
use Rattle.mark_trip.specs.RoundTrip.{part_of}
use Rattle.mark_text.specs.declared.fields.Fields.{Fields}
use Rattle.mark_text.specs.declared.mark.Mark.{Mark}
use Rattle.mark_text.specs.Fields.{fields_said, instant_said}
use Rattle.mark_text.specs.Meanings.{Formed, Fitting, Tagged, Agreed, Says}
use Rattle.mark_text.specs.Reading.{or_unreadable, tags_said, zone_said, calendar_meant, calendar_place, calendar_said, agreed, read_answer}
use Rattle.mark_text.specs.Refusals.{Zoned, Settled, Refused}
use Rattle.mark_text.proofs.Lookups.{own}
use Rattle.mark_text.proofs.Parts.{year_small}
use Rattle.mark_text.proofs.Tells.{next, fields_told, tags_told, name_told, offset_there, agreed_told, instant_told}

module _ (zs : Zones) (cs : Calendars) (t : List ℕ) where
  -- ── what follows each step ──

  abbrev pub after_offset : Draft → Fields → ℕ → ℕ → ℤ → Result Mark Fault
  after_offset d f z k o = agreed f.offset o d.offset >>= λ _. Ok (record { instant = instant_said f; zone = z; calendar = k })

  abbrev pub after_calendar : Draft → Fields → ℕ → ℕ → Result Mark Fault
  after_calendar d f z k = offset_at (zs.value z) (instant_said f) >>= after_offset d f z k

  abbrev pub after_zone : Draft → Fields → ℕ → Result Mark Fault
  after_zone d f z = calendar_said cs t d.tags.calendar >>= after_calendar d f z

  abbrev pub after_tags : Draft → Fields → Result Mark Fault
  after_tags d f = zone_said zs t d.name >>= after_zone d f

  abbrev pub after_fields : Draft → Fields → Result Mark Fault
  after_fields d f = tags_said d.tags >>= λ _. after_tags d f

  abbrev pub after_form : Draft → Result Mark Fault
  after_form d = fields_said d >>= after_fields d

  -- ── what is told of it ──

  abbrev S : Fault → Type 0
  S = Refused zs cs t

  form_told : MatchResult (or_unreadable (read_draft t)) (Formed t) S
  form_told = by (read_draft t) refl
    where
      by : (r : Result Draft Misread) → read_draft t ≡ r → MatchResult (or_unreadable r) (Formed t) S
      by (Ok d) e = let a = (draft_lawful t (Ok d) (sym e)).law in record { text = a.0; short = a.1 }
      by (Err m) e = Refused.form (draft_lawful t (Err m) (sym e)).law

  pub judged : MatchResult (read_answer zs cs t) (Says zs cs t) S
  judged =
      next (Says zs cs t) S (or_unreadable (read_draft t)) after_form form_told
      (λ d formed. next (Says zs cs t) S (fields_said d) (after_fields d)
      (fields_told S d (year_small t d formed.text) (λ p w. Refused.number formed w))
      (λ f told. let fitting : Fitting t d = record { formed = formed; fit = told.fit } in
      next (Says zs cs t) S (tags_said d.tags) (λ _. after_tags d f) (tags_told S d.tags (λ b e. Refused.tag fitting e))
      (λ _ none. let tagged : Tagged t d = record { fitting = fitting; unrefused = none } in
      next (Says zs cs t) S (zone_said zs t d.name) (after_zone d f)
      (name_told S zs.name (part_of t d.name) zs.count (UnknownZone d.name.from) (λ n. Refused.zone tagged n))
      (λ z zone. let zoned : Zoned zs t d z = record { tagged = tagged; bears = zone } in
      next (Says zs cs t) S (calendar_said cs t d.tags.calendar) (after_calendar d f z)
      (name_told S cs.name (calendar_meant t d.tags.calendar) cs.count (UnknownCalendar (calendar_place t d.tags.calendar)) (λ n. Refused.calendar zoned n))
      (λ k calendar. let i = instant_said f in
      let instant = instant_told d f told in
      let settled : Settled zs cs t d z i = record { zoned = zoned; calendar = k; bears = calendar; instant = instant } in
      next (Says zs cs t) S (offset_at (zs.value z) i) (after_offset d f z k)
      (offset_there S (zs.value z) i (λ n. Refused.range settled n) (λ c n r e. Refused.blank settled r e))
      (λ o at. next (Says zs cs t) S (agreed f.offset o d.offset) (λ _. Ok (record { instant = i; zone = z; calendar = k }))
      (subst (λ (r : Option ℤ). MatchResult (agreed r o d.offset) (λ _. Agreed (zs.value z) i d.offset) S) (sym told.offset)
      (agreed_told S (zs.value z) i d.offset o at.1 (λ said e n. Refused.denied settled at.0 e n)))
      (λ _ same. record {
        draft = d;
        tagged = tagged;
        zone = zone.bears;
        calendar = calendar.bears;
        instant = instant;
        agreed = same;
        there = record { zone = own zone; calendar = own calendar; known = at.0 };
      })))))))

  -- so the answer is told whether it is accepted or refused
  pub accepted : (r : Result Mark Fault) → r ≡ read_answer zs cs t → IfOk r (Says zs cs t)
  accepted r e = by r (subst (λ (q : Result Mark Fault). MatchResult q (Says zs cs t) S) (sym e) judged)
    where
      by : (r : Result Mark Fault) → MatchResult r (Says zs cs t) S → IfOk r (Says zs cs t)
      by (Ok m) h = h
      by (Err x) h = tt

  pub refused : (r : Result Mark Fault) → r ≡ read_answer zs cs t → IfErr r S
  refused r e = by r (subst (λ (q : Result Mark Fault). MatchResult q (Says zs cs t) S) (sym e) judged)
    where
      by : (r : Result Mark Fault) → MatchResult r (Says zs cs t) S → IfErr r S
      by (Ok m) h = tt
      by (Err x) h = h
