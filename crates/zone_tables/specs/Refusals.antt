-- What a table says of the check of a file.
use Rattle.std.specs.Prelude.{◌≡◌, ⊤, ℕ, Some, None, Ok, Err, Option, Result}
use Rattle.timebase.specs.declared.fault.Fault.{Fault}
use Rattle.timebase.specs.declared.fault.Fault.TheVariants.{BadFile}
use Rattle.tzif.specs.declared.layout.Layout.{Layout}

-- the answer is a refusal at this place, or none
abbrev pub AnswersAs : Result Layout Fault → Option ℕ → Type 0
AnswersAs (Ok l) None = ⊤
AnswersAs (Ok l) (Some p) = ⊥
AnswersAs (Err fault) None = ⊥
AnswersAs (Err fault) (Some p) = fault ≡ BadFile p
