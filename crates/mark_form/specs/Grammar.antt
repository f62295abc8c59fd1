-- Mark texts as they are written, what they say, and where their parts stand. The bytes: 43 `+`, 45 `-`, 46 `.`, 58 `:`, 84 `T`, 91 `[`,
-- 93 `]`.
use Rattle.std.specs.Prelude.{◌≡◌, ◌≢◌, ℕ, ◌+◌, Bool, true, false, List, [], ◌∷◌, ◌++◌, length, Some, None, codes, Option}
use Rattle.reading.specs.Digits.{value_on, AllDigits, Digits}
use Rattle.span_text.specs.Grammar.{micros_of}
use Rattle.names.specs.ZoneNames.{IsZoneName}
use Rattle.mark_form.specs.declared.draft.Draft.{Draft}
use Rattle.mark_form.specs.declared.draft.Said.{Said}
use Rattle.mark_form.specs.declared.layout.Layout.{Layout}
use Rattle.mark_form.specs.TagLaws.{Bang, TagAt, TagList, tags_of}

-- a number in so many digits
pub record Number (count : ℕ) (ds : List ℕ) (n : ℕ) : Type 0 where
  pub all : AllDigits ds
  pub long : length ds ≡ count
  pub is : n ≡ value_on 0 ds

-- `YYYY-MM-DDThh:mm:ss`
pub record ClockText (t : List ℕ) (d : Draft) : Type 0 where
  pub year : List ℕ
  pub month : List ℕ
  pub day : List ℕ
  pub hour : List ℕ
  pub minute : List ℕ
  pub second : List ℕ
  pub is : t ≡ year ++ (45 ∷ (month ++ (45 ∷ (day ++ (84 ∷ (hour ++ (58 ∷ (minute ++ (58 ∷ second)))))))))
  pub year_text : Number 4 year d.year
  pub month_text : Number 2 month d.month
  pub day_text : Number 2 day d.day
  pub hour_text : Number 2 hour d.hour
  pub minute_text : Number 2 minute d.minute
  pub second_text : Number 2 second d.second

-- perhaps `.` and 1 to 6 digits; their microseconds
pub data FractionText : List ℕ → ℕ → Type 0 where
  none : FractionText [] 0
  some : {ds : List ℕ} → Digits 6 ds → FractionText (46 ∷ ds) (micros_of ds)

-- `+`, or `-` for minus
pub data Sign : ℕ → Bool → Type 0 where
  plus : Sign 43 false
  minus : Sign 45 true

-- an offset by its sign's place, whether it is minus, and its hours, minutes and seconds
abbrev pub said : ℕ → Bool → ℕ → ℕ → ℕ → Said
said place below h m s = record { sign = place; minus = below; hours = h; minutes = m; seconds = s }

-- `Z`, `±hh:mm` or `±hh:mm:ss` from a place on, and the offset that it says; `Z` and `-00:00` say none
pub data OffsetText (place : ℕ) : List ℕ → Option Said → Type 0 where
  utc : OffsetText place (codes "Z") None
  unknown : OffsetText place (codes "-00:00") None
  minutes : {c h m : ℕ} {minus : Bool} {hh mm : List ℕ} → Sign c minus → Number 2 hh h → Number 2 mm m
      → c ∷ (hh ++ (58 ∷ mm)) ≢ codes "-00:00"
      → OffsetText place (c ∷ (hh ++ (58 ∷ mm))) (Some (said place minus h m 0))
  seconds : {c h m s : ℕ} {minus : Bool} {hh mm ss : List ℕ} → Sign c minus → Number 2 hh h → Number 2 mm m → Number 2 ss s
      → OffsetText place (c ∷ (hh ++ (58 ∷ (mm ++ (58 ∷ ss))))) (Some (said place minus h m s))

-- a zone's name, of any length
abbrev pub ZoneText : List ℕ → Type 0
ZoneText name = IsZoneName name (record {})

-- a mark text, and what it says; the offset begins after the clock's 19 bytes and the fraction
pub record DraftText (t : List ℕ) (d : Draft) : Type 0 where
  pub clock : List ℕ
  pub fraction : List ℕ
  pub offset : List ℕ
  pub bang : List ℕ
  pub critical : Bool
  pub name : List ℕ
  pub tags : List ℕ
  pub is : t ≡ clock ++ (fraction ++ (offset ++ (91 ∷ (bang ++ (name ++ (93 ∷ tags))))))
  pub clock_text : ClockText clock d
  pub fraction_text : FractionText fraction d.micros
  pub offset_text : OffsetText (19 + length fraction) offset d.offset
  pub bang_text : Bang bang critical
  pub name_text : ZoneText name
  pub name_from : d.name.from ≡ 19 + length fraction + (length offset + (length bang + 1))
  pub name_to : d.name.to ≡ d.name.from + length name
  pub each : List TagAt
  pub tags_text : TagList (d.name.to + 1) tags each
  pub tags_told : d.tags ≡ tags_of each

-- where its parts stand
abbrev pub layout_of : {t : List ℕ} {d : Draft} → DraftText t d → Layout
layout_of {d} x = record { sign = 19 + length x.fraction; name = d.name; tags = d.tags }

-- a mark text, whose parts stand at these places
pub record MarkText (t : List ℕ) (l : Layout) : Type 0 where
  pub draft : Draft
  pub text : DraftText t draft
  pub places : l ≡ layout_of text
