use Rattle.std.proofs.Common.{◌≡◌, ◌&&◌, leb, sym, refl, subst}
use Rattle.calendar_steps.proofs.Asked.{answered}
use Rattle.years.specs.declared.date.Date.{Date}
use Rattle.calendar.specs.Calendars.{last_day}
use Rattle.span_law.specs.Standing.{There}
use Rattle.span_law.proofs.Order.{there}
use Rattle.calendar_steps.proofs.calendar_at.CalendarAt.with_date.Goals as goal

pub returns : goal.returns
returns g c =
    let s = g.C.CalendarSource.calendars c.args.self.now.source.now in
    let k = c.args.self.now.number in
    let n = c.args.number in
    let laws = (g.met.C.CalendarSource.lawful c.args.self.now.source.now).each k c.args.self.now.there in
    let e : c.in-Some.date ≡ (s.calendar k).date n = answered s k (λ _. leb 1 n && leb n last_day) (λ c'. c'.date n) c.in-Some.date c.in-Some.ensures in
    record {
      is = record { first = c.requires.first; last = c.requires.last; is = e; lies = subst (λ (d : Date). There (s.calendar k) d.year d.month d.day) (sym e) (there (s.calendar k) laws n c.requires.first c.requires.last) };
      same = refl;
    }
