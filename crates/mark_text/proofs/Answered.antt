-- What reading answers, step by step.
use Rattle.std.proofs.Common.{◌≡◌, ℕ, ℤ, List, Ok, Result, refl}
use Rattle.timebase.specs.declared.fault.Fault.{Fault}
use Rattle.zone.specs.Zones.{Zones}
use Rattle.calendar.specs.Calendars.{Calendars}
use Rattle.local_times.specs.Chains.{◌>>=◌}
use Rattle.local_times.specs.Locals.{offset_at}
use Rattle.mark_form.specs.declared.draft.Draft.{Draft}
use Rattle.mark_form.specs.Drafts.{read_draft}
use Rattle.mark_text.specs.declared.fields.Fields.{Fields}
use Rattle.mark_text.specs.Fields.{fields_said, instant_said}
use Rattle.mark_text.specs.Reading.{tags_said, zone_said, calendar_said, agreed, read_answer}

pub answered : (zs : Zones) (cs : Calendars) (t : List ℕ) (d : Draft) (f : Fields) (z k : ℕ) (o : ℤ) (r : Result (Unit {0}) Fault) →
    read_draft t ≡ Ok d → fields_said d ≡ Ok f → tags_said d.tags ≡ Ok tt → zone_said zs t d.name ≡ Ok z → calendar_said cs t d.tags.calendar ≡ Ok k →
    offset_at (zs.value z) (instant_said f) ≡ Ok o → agreed f.offset o d.offset ≡ r →
    read_answer zs cs t ≡ (r >>= λ _. Ok (record { instant = instant_said f; zone = z; calendar = k }))
answered zs cs t d f z k o r e1 e2 e3 e4 e5 e6 e7 = rw (e1, e2, e3, e4, e5, e6, e7) refl
