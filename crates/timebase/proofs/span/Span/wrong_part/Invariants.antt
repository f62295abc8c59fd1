use Rattle.std.proofs.Common.{◌≡◌, drop}
use Rattle.std.specs.List.{find}
use Rattle.timebase.specs.Spans.{all_parts, is_minus, is_wrong, limit_of, part_of, wrong_part}
use Rattle.timebase.proofs.span.Span.wrong_part.Given as goal

abbrev pub invariant-loop-part : goal.invariant-loop-part
invariant-loop-part l = wrong_part l.self ≡ find (λ p. is_wrong (is_minus l.self) (limit_of p) (part_of l.self p)) (drop l.part-index all_parts)
