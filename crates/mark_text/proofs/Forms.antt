-- Refused by 3 is exactly what is not in form.
use Rattle.std.proofs.Common.{◌≡◌, ◌≢◌, ℕ, List, Ok, Err, Result, MatchResult, refl, sym, ap, subst}
use Rattle.timebase.specs.declared.fault.Fault.{Fault}
use Rattle.timebase.specs.declared.fault.Fault.TheVariants.{Unreadable}
use Rattle.reading.specs.Places.{RefusedWithin}
use Rattle.zone.specs.Zones.{Zones}
use Rattle.calendar.specs.Calendars.{Calendars}
use Rattle.local_times.proofs.Results.{err_ok, err_same}
use Rattle.mark_form.specs.Grammar.{DraftText}
use Rattle.mark_text.specs.declared.mark.Mark.{Mark}
use Rattle.mark_text.specs.Meanings.{Says, InForm, FormTold}
use Rattle.mark_text.specs.Reading.{read_answer}
use Rattle.mark_text.specs.Refusals.{Refused}
use Rattle.mark_text.proofs.Judging.{judged}

module _ (zs : Zones) (cs : Calendars) (t : List ℕ) where
  form_refused : {at : ℕ} → Refused zs cs t (Unreadable at) → RefusedWithin DraftText 128 t at
  form_refused (Refused.form h) = h

  -- refused by anything else is only what is in form
  refused_formed : {x : Fault} → Refused zs cs t x → ((at : ℕ) → x ≢ Unreadable at) → InForm t
  refused_formed (Refused.form {at} h) n = absurd (n at refl)
  refused_formed (Refused.number x w) n = (_, x)
  refused_formed (Refused.tag x e) n = (_, x.formed)
  refused_formed (Refused.zone x h) n = (_, x.fitting.formed)
  refused_formed (Refused.calendar x h) n = (_, x.tagged.fitting.formed)
  refused_formed (Refused.range x h) n = (_, x.zoned.tagged.fitting.formed)
  refused_formed (Refused.blank x r e) n = (_, x.zoned.tagged.fitting.formed)
  refused_formed (Refused.denied x k e h) n = (_, x.zoned.tagged.fitting.formed)

  told_by : (r : Result Mark Fault) → MatchResult r (Says zs cs t) (Refused zs cs t) → FormTold t r
  told_by (Ok m) says = record { refused = λ at e. err_ok (sym e); in_form = λ n. (says.draft, says.tagged.fitting.formed) }
  told_by (Err x) h = record { refused = λ at e. form_refused (subst (Refused zs cs t) (err_same e) h); in_form = λ n. refused_formed h (λ at e. n at (ap Err e)) }

  pub form_told : (r : Result Mark Fault) → r ≡ read_answer zs cs t → FormTold t r
  form_told r e = told_by r (subst (λ (q : Result Mark Fault). MatchResult q (Says zs cs t) (Refused zs cs t)) (sym e) (judged zs cs t))
