use Rattle.std.proofs.Common.{ℕ, ◌≤◌, length, List, sym, subst}
use Rattle.mark_text.proofs.Named.{zone_form, calendar_form}
use Rattle.mark_text.proofs.stamping.stamp_of.Goals as goal

pub invariant_of-result-clause-zone_short : goal.invariant_of-result-clause-zone_short
invariant_of-result-clause-zone_short g c =
    let h = c.in_ok-name.ensures in
    subst (λ (n : List ℕ). length n ≤ 32) (sym h.1) (zone_form _ ((g.met.Z.ZoneSource.lawful c.args.zones.now).named _ h.0.there)).1

pub invariant_of-result-clause-calendar_short : goal.invariant_of-result-clause-calendar_short
invariant_of-result-clause-calendar_short g c =
    let h = c.in_ok-calendar.ensures in
    subst (λ (n : List ℕ). length n ≤ 16) (sym h.1) (calendar_form _ ((g.met.C.CalendarSource.lawful c.args.calendars.now).named _ h.0.there)).1
