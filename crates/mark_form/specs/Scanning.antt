-- The steps by which a mark text is read. The bytes: 33 `!`, 43 `+`, 45 `-`, 46 `.`, 58 `:`, 61 `=`, 90 `Z`, 91 `[`, 93 `]`.
use Rattle.std.specs.Prelude.{ℕ, ◌+◌, Bool, true, false, cond, not, ◌&&◌, ◌||◌, List, length, Some, None, codes, Option, ◌==◌, nat_le, nat_lt, slice_index}
use Rattle.reading.specs.Digits.{is_digit}
use Rattle.names.specs.Scanning.{is_letter_or_digit}
use Rattle.names.specs.ZoneScanning.{is_first_of_zone_name, is_in_zone_name}
use Rattle.mark_form.specs.declared.layout.Layout.{Layout}
use Rattle.mark_form.specs.declared.layout.Tag.{Tag}
use Rattle.mark_form.specs.declared.stage.Form.{Form}
use Rattle.mark_form.specs.declared.stage.Form.TheVariants.{Clock, Offset, Seconds}
use Rattle.mark_form.specs.declared.stage.Progress.{Progress}
use Rattle.mark_form.specs.declared.stage.Stage.{Stage}
use Rattle.mark_form.specs.declared.stage.Stage.TheVariants.{Fixed, Fraction, Utc, Zone, Name, Between, Open, Key, Equals, Joined, Run}
use Rattle.mark_form.specs.Bytes.{is_first_of_key, is_in_key, stands, matched, is_matched}
use Rattle.mark_form.specs.Tags.{no_tags, noted}

-- a form's bytes: `0` is for any digit, another byte for itself
abbrev pub form_text : Form → List ℕ
form_text Clock = codes "0000-00-00T00:00:00"
form_text Offset = codes "00:00"
form_text Seconds = codes "00"

-- a stage, and what has been seen
abbrev pub progress : Stage → Layout → Progress
progress stage seen = record { stage = stage; seen = seen }

-- ── what has been seen, with one part more ──

-- the offset begins at a place
abbrev pub with_sign : Layout → ℕ → Layout
with_sign l at = record { sign = at; name = l.name; tags = l.tags }

-- the zone's name stands from one place up to another
abbrev pub with_name : Layout → ℕ → ℕ → Layout
with_name l from to = record { sign = l.sign; name = record { from = from; to = to }; tags = l.tags }

-- one tag more, whose value stands from one place up to another
abbrev pub with_tag : Layout → Tag → ℕ → ℕ → Layout
with_tag l t from to = record { sign = l.sign; name = l.name; tags = noted l.tags t (record { from = from; to = to }) }

-- a tag up to its `=`
abbrev pub keyed : ℕ → Bool → Option ℕ → Tag
keyed bracket critical so_far = record { bracket = bracket; critical = critical; is_calendar = is_matched so_far }

-- ── one byte more, by the stage ──

-- the offset has to begin
abbrev pub signed : Layout → ℕ → ℕ → Option Progress
signed l at b =
    cond (b == 90) (Some (progress Utc (with_sign l at)))
    (cond (b == 43 || b == 45) (Some (progress (Fixed Offset 0) (with_sign l at))) None)

-- the zone has to be opened
abbrev pub opened : Layout → ℕ → Option Progress
opened l b = cond (b == 91) (Some (progress (Zone false) l)) None

-- a form is whole
abbrev pub after_form : Layout → Form → ℕ → ℕ → Option Progress
after_form l Clock at b = cond (b == 46) (Some (progress (Fraction 0) l)) (signed l at b)
after_form l Offset at b = cond (b == 58) (Some (progress (Fixed Seconds 0) l)) (opened l b)
after_form l Seconds at b = opened l b

-- in a form, of which so many bytes have been read
abbrev pub in_form : Layout → Form → ℕ → ℕ → ℕ → Option Progress
in_form l form read at b =
    cond (nat_le (length (form_text form)) read) (after_form l form at b)
    (cond (stands (slice_index (form_text form) read) b) (Some (progress (Fixed form (read + 1)) l)) None)

-- in a fraction, of which so many digits have been read
abbrev pub in_fraction : Layout → ℕ → ℕ → ℕ → Option Progress
in_fraction l digits at b =
    cond (is_digit b) (cond (nat_lt digits 6) (Some (progress (Fraction (digits + 1)) l)) None)
    (cond (nat_lt 0 digits) (signed l at b) None)

-- the zone has been opened
abbrev pub in_zone : Layout → Bool → ℕ → ℕ → Option Progress
in_zone l critical at b =
    cond (b == 33 && not critical) (Some (progress (Zone true) l)) (cond (is_first_of_zone_name b) (Some (progress (Name at) l)) None)

-- in the zone's name, which began at a place
abbrev pub in_name : Layout → ℕ → ℕ → ℕ → Option Progress
in_name l start at b =
    cond (b == 93) (Some (progress Between (with_name l start at))) (cond (is_in_zone_name b) (Some (progress (Name start) l)) None)

-- a tag may begin
abbrev pub between : Layout → ℕ → ℕ → Option Progress
between l at b = cond (b == 91) (Some (progress (Open at false) l)) None

-- a tag has been opened
abbrev pub in_open : Layout → ℕ → Bool → ℕ → Option Progress
in_open l bracket critical b =
    cond (b == 33 && not critical) (Some (progress (Open bracket true) l))
    (cond (is_first_of_key b) (Some (progress (Key bracket critical (matched (Some 0) b)) l)) None)

-- in a key, which has matched so many bytes of `u-ca`
abbrev pub in_key : Layout → ℕ → Bool → Option ℕ → ℕ → Option Progress
in_key l bracket critical so_far b =
    cond (b == 61) (Some (progress (Equals (keyed bracket critical so_far)) l))
    (cond (is_in_key b) (Some (progress (Key bracket critical (matched so_far b)) l)) None)

-- a run of a value has to begin
abbrev pub in_run : Layout → Tag → ℕ → ℕ → Option Progress
in_run l t start b = cond (is_letter_or_digit b) (Some (progress (Run t start) l)) None

-- in a run of a value, which began at a place
abbrev pub in_value : Layout → Tag → ℕ → ℕ → ℕ → Option Progress
in_value l t start at b =
    cond (b == 93) (Some (progress Between (with_tag l t start at)))
    (cond (b == 45) (Some (progress (Joined t start) l)) (in_run l t start b))

-- by the stage
abbrev pub stepped_on : Stage → Layout → ℕ → ℕ → Option Progress
stepped_on (Fixed form read) l at b = in_form l form read at b
stepped_on (Fraction digits) l at b = in_fraction l digits at b
stepped_on Utc l at b = opened l b
stepped_on (Zone critical) l at b = in_zone l critical at b
stepped_on (Name start) l at b = in_name l start at b
stepped_on Between l at b = between l at b
stepped_on (Open bracket critical) l at b = in_open l bracket critical b
stepped_on (Key bracket critical so_far) l at b = in_key l bracket critical so_far b
stepped_on (Equals t) l at b = in_run l t at b
stepped_on (Joined t start) l at b = in_run l t start b
stepped_on (Run t start) l at b = in_value l t start at b

-- the state after the byte at a place
abbrev pub stepped : Progress → ℕ → ℕ → Option Progress
stepped s at b = stepped_on s.stage s.seen at b

-- ── the end, which only may come where a tag may begin ──

-- by the stage
abbrev pub ended_on : Stage → Layout → Option Layout
ended_on (Fixed form read) l = None
ended_on (Fraction digits) l = None
ended_on Utc l = None
ended_on (Zone critical) l = None
ended_on (Name start) l = None
ended_on Between l = Some l
ended_on (Open bracket critical) l = None
ended_on (Key bracket critical so_far) l = None
ended_on (Equals t) l = None
ended_on (Joined t start) l = None
ended_on (Run t start) l = None

-- where the parts stand, if the text may end
abbrev pub ended : Progress → Option Layout
ended s = ended_on s.stage s.seen

-- before the first byte
abbrev pub begun : Progress
begun = progress (Fixed Clock 0) (record { sign = 0; name = record { from = 0; to = 0 }; tags = no_tags })
