-- The laws of putting.
use Rattle.std.proofs.Common.{ℕ, List, [], ◌++◌, refl, ◌∙◌}
use Rattle.writing.specs.declared.Writer.{Writer}
use Rattle.writing.specs.Putting.{Puts}
use Rattle.writing.proofs.Placings.{placed_none, placed_more}

-- nothing is put
pub puts_none : (w : Writer) → Puts w [] w
puts_none w = record { placed = placed_none _ _; lent = refl }

-- two texts, one after the other, are one text
pub puts_more : {a b c : Writer} {s t : List ℕ} → Puts a s b → Puts b t c → Puts a (s ++ t) c
puts_more p q = record { placed = placed_more p.placed q.placed; lent = q.lent ∙ p.lent }
