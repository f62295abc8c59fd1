use Rattle.std.proofs.Common.{Result, sym, refl, ap, ◌∙◌}
use Rattle.std.specs.Prelude.{ok_or}
use Rattle.timebase.specs.declared.fault.Fault.TheVariants.{UnknownZone}
use Rattle.reading.specs.declared.Misread.{Misread}
use Rattle.names.specs.declared.InForm.{InForm}
use Rattle.local_times.specs.Chains.{◌>>=◌}
use Rattle.mark_text.specs.Marks.{number_of}
use Rattle.mark_text.specs.Reading.{or_unreadable}
use Rattle.mark_text.proofs.Lookups.{answers}
use Rattle.planboard.proofs.board.Board.zone_named.Goals as goal

pub returns-clause-value : goal.returns-clause-value
returns-clause-value g c =
    let things = g.Z.ZoneSource.zones c.args.self.now.zones.now in
    let name = c.args.name.now in
    c.ok_or.ensures.value
    ∙ answers things.name things.count name name c.find.result (UnknownZone 0) refl c.find.ensures
    ∙ ap (λ (r : Result InForm Misread). or_unreadable r >>= λ _. ok_or (number_of things.name things.count name) (UnknownZone 0)) (sym (sym c.scan_zone_name.ensures.value ∙ c.in_ok-scan_zone_name.was))
