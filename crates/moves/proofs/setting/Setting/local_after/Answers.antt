use Rattle.std.proofs.Common.{ℕ, pos, option_map, sym, ap, ◌∙◌}
use Rattle.moves.proofs.Answers.{day_after_is, after_is}
use Rattle.moves.proofs.setting.Setting.local_after.Goals as goal

pub returns : goal.returns
returns g c =
    let k = (g.C.CalendarSource.calendars c.args.self.now.calendar.source.now).calendar c.args.self.now.calendar.number in
    after_is k c.args.local c.args.span.now c.in_ok-day_after.field-0 c.on_day.result
    (sym (day_after_is k c.args.local.day c.args.span.now c.args.local.first c.args.local.last) ∙ sym c.day_after.ensures ∙ ap (option_map (λ (n : ℕ). pos n)) c.in_ok-day_after.was)
    c.on_day.ensures
