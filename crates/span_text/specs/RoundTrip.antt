-- What was written reads back.
use Rattle.std.specs.Prelude.{◌≡◌, ℕ, List, length, take, drop, Ok, Err, Result}
use Rattle.timebase.specs.declared.fault.Fault.{Fault}
use Rattle.timebase.specs.declared.span.Span.{Span}
use Rattle.span_text.specs.Spans.{read_span}

-- the bytes that were written read as the span, and those past them are as before; a refusal leaves all as before
abbrev pub ReadsBack : Span → List ℕ → Result ℕ Fault → List ℕ → Type 0
ReadsBack s before (Ok n) after = (read_span (take n after) ≡ Ok s) × (drop n after ≡ drop n before) × (length after ≡ length before)
ReadsBack s before (Err fault) after = after ≡ before
