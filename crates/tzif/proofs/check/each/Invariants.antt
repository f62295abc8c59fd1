use Rattle.std.proofs.Common.{◌≡◌, ℕ, ◌-◌, ◌<◌, List, Result}
use Rattle.tzif.specs.declared.field.WrongAt.{WrongAt}
use Rattle.tzif.specs.Fields.{Field, each, first_wrong, wrong_place}
use Rattle.tzif.proofs.check.each.Given as goal

abbrev pub invariant-loop-k : goal.invariant-loop-k
invariant-loop-k g l =
    (file : List ℕ) (fields : ℕ → List Field) →
    ((k : ℕ) (r : Result _ WrongAt) → k < l.count → goal.F-post g l.check k r → wrong_place r ≡ first_wrong file (fields k)) →
    first_wrong file (each fields 0 l.count) ≡ first_wrong file (each fields l.k (l.count - l.k))
