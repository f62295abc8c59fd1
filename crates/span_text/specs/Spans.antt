-- The span that a text says, and the answer to each text.
use Rattle.std.specs.Prelude.{ℕ, ◌+◌, ◌*◌, ◌<◌, ◌≤◌, Bool, true, false, cond, List, ℤ, pos, neg_ℤ, Some, None, Ok, Err, Option, Result, nat_lt}
use Rattle.timebase.specs.declared.fault.Fault.{Fault}
use Rattle.timebase.specs.declared.fault.Fault.TheVariants.{Unreadable, PastLimit}
use Rattle.timebase.specs.declared.span.Part.{Part}
use Rattle.timebase.specs.declared.span.Part.TheVariants.{Years, Months, Weeks, Days, Time}
use Rattle.timebase.specs.declared.span.Span.{Span}
use Rattle.timebase.specs.Spans.{part_limit, time_limit, Enterable}
use Rattle.reading.specs.Places.{Refused}
use Rattle.span_text.specs.declared.scan.Fields.{Fields}
use Rattle.span_text.specs.Scanning.{read_fields}
use Rattle.span_text.specs.Grammar.{SpanText}

-- hours, minutes, seconds and their fraction, in microseconds
abbrev pub time_of : Fields → ℕ
time_of f = f.hours * 3600000000 + f.minutes * 60000000 + f.seconds * 1000000 + f.micros

abbrev pub signed : Bool → ℕ → ℤ
signed false n = pos n
signed true n = neg_ℤ (pos n)

-- the span that the fields say
abbrev pub span_of : Fields → Span
span_of f = record {
  years = signed f.minus f.years;
  months = signed f.minus f.months;
  weeks = signed f.minus f.weeks;
  days = signed f.minus f.days;
  time = signed f.minus (time_of f);
}

-- a part's size, if it keeps the limit
abbrev pub within : ℕ → Part → ℕ → Result ℤ Fault
within limit part size = cond (nat_lt limit size) (Err (PastLimit part)) (Ok (pos size))

-- the first part that is past its limit
abbrev pub past_limit : Fields → Option Part
past_limit f =
    cond (nat_lt part_limit f.years) (Some Years)
    (cond (nat_lt part_limit f.months) (Some Months)
    (cond (nat_lt part_limit f.weeks) (Some Weeks)
    (cond (nat_lt part_limit f.days) (Some Days)
    (cond (nat_lt time_limit (time_of f)) (Some Time) None))))

abbrev pub limited_span : Fields → Result Span Fault
limited_span f = elim (past_limit f) [ Some part ↦ Err (PastLimit part) | None ↦ Ok (span_of f) ]

-- what reading a text answers
abbrev pub read_span : List ℕ → Result Span Fault
read_span t = elim (read_fields t) [ Ok f ↦ limited_span f | Err m ↦ Err (Unreadable m.at) ]

-- ── the answer by the grammar ──

pub record WithinLimits (f : Fields) : Type 0 where
  pub years : f.years ≤ part_limit
  pub months : f.months ≤ part_limit
  pub weeks : f.weeks ≤ part_limit
  pub days : f.days ≤ part_limit
  pub time : time_of f ≤ time_limit

-- a part is past its limit, and those before it aren't
abbrev pub FirstPast : Fields → Part → Type 0
FirstPast f Years = part_limit < f.years
FirstPast f Months = (f.years ≤ part_limit) × (part_limit < f.months)
FirstPast f Weeks = (f.years ≤ part_limit) × (f.months ≤ part_limit) × (part_limit < f.weeks)
FirstPast f Days = (f.years ≤ part_limit) × (f.months ≤ part_limit) × (f.weeks ≤ part_limit) × (part_limit < f.days)
FirstPast f Time = (f.years ≤ part_limit) × (f.months ≤ part_limit) × (f.weeks ≤ part_limit) × (f.days ≤ part_limit) × (time_limit < time_of f)

-- the one answer to each text: the span that it says; or the place of the longest viable prefix, where it is no text of the grammar;
-- or the first part that is past its limit
pub data Answered (t : List ℕ) : Result Span Fault → Type 0 where
  reads : {f : Fields} → SpanText t f → WithinLimits f → Enterable (span_of f) → Answered t (Ok (span_of f))
  unreadable : {place : ℕ} → Refused SpanText t place → Answered t (Err (Unreadable place))
  past : {f : Fields} {part : Part} → SpanText t f → FirstPast f part → Answered t (Err (PastLimit part))
