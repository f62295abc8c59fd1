use Rattle.std.proofs.Common.{◌≡◌, Decides, sym, refl, subst, arith, w64, to_z, of_z}
use Rattle.std.proofs.lemmas.Int.{ints}
use Rattle.std.proofs.lemmas.Slice.Eq.{slice_eq-Decides}
use Rattle.std.proofs.lemmas.Bool.Decides.{Decides-eqb, Decides-int_eq}
use Rattle.zone.specs.declared.question.Question.{Question}
use Rattle.zone.specs.Questions.{Alike}
use Rattle.zone.proofs.Answered.{name_decided, seen_decided, change_decided, option_decided, same_alike}
use Rattle.zone.proofs.alike.answer_alike.Goals as goal

pub returns-in-Name-clause-decides : goal.returns-in-Name-clause-decides
returns-in-Name-clause-decides g c =
    let y = g.P.ZoneSource.zones c.args.first.now in
    let z = g.Q.ZoneSource.zones c.args.second.now in
    subst (λ (q : Question). Decides c.eq.result (Alike y z q)) (sym c.in-Name.is)
    (name_decided y z c.in-Name.zone _ _ _ c.name.ensures c.name-in-Name.ensures (rw c.eq.ensures (seen_decided _ (λ x w. slice_eq-Decides Decides-eqb x.now w.now _ refl) _ _)))

pub returns-in-Change : goal.returns-in-Change
returns-in-Change g c =
    let y = g.P.ZoneSource.zones c.args.first.now in
    let z = g.Q.ZoneSource.zones c.args.second.now in
    let after : to_z w64 (of_z w64 c.in-Change.after) ≡ c.in-Change.after = omega (arith, ints) in
    let before : to_z w64 (of_z w64 c.in-Change.before) ≡ c.in-Change.before = omega (arith, ints) in
    let d : Decides c.eq-in-Change.result (Alike y z c.args.question) =
    subst (λ (q : Question). Decides c.eq-in-Change.result (Alike y z q)) (sym c.in-Change.is)
    (change_decided y z c.in-Change.zone _ _ _ _ _ (rw (after, before) at c.change.ensures) (rw (after, before) at c.change-in-Change.ensures)
    (rw c.eq-in-Change.ensures (option_decided _ Decides-int_eq _ _)))
    in
    record { decides = d; law = λ e. d.1 (same_alike y z c.args.question e) }
