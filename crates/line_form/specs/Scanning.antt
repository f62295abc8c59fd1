-- The steps by which a line is read.
use Rattle.std.specs.Prelude.{ℕ, ◌+◌, ◌-◌, ◌*◌, cond, ◌&&◌, List, length, Some, None, Option, Result, ◌==◌, nat_lt}
use Rattle.reading.specs.Digits.{is_digit}
use Rattle.reading.specs.declared.Misread.{Misread}
use Rattle.reading.specs.Reading.{read_on, limited}
use Rattle.line_form.specs.declared.keyword.Form.{Form}
use Rattle.line_form.specs.declared.keyword.Form.TheVariants.{Mark as OfMark, Span as OfSpan, Zone as OfZone, Calendar as OfCalendar}
use Rattle.line_form.specs.declared.keyword.Keyword.{Keyword}
use Rattle.line_form.specs.declared.keyword.Keyword.TheVariants.{Worded, Lift as LiftWord, Between as BetweenWord, Carry as CarryWord, List as ListWord, UnitWord}
use Rattle.line_form.specs.declared.line.Line.{Line}
use Rattle.line_form.specs.declared.line.Line.TheVariants.{Mark, Lift, Span, Between, Carry, Zone, Calendar, List as Listing}
use Rattle.line_form.specs.declared.progress.Progress.{Progress}
use Rattle.line_form.specs.declared.progress.Progress.TheVariants.{Start, Letters, UnitStart, Gap, Slot, Space, Text, Listed}
use Rattle.line_form.specs.declared.progress.Role.{Role}
use Rattle.line_form.specs.declared.progress.Role.TheVariants.{BeforeWord, Lifted, First, Second, Measured, Carried, CarriedBy, Target}
use Rattle.line_form.specs.Keywords.{keyword_text, keyword_byte, command_by, by_third, unit_by}

-- after a whole keyword
abbrev pub after_keyword : Keyword → Progress
after_keyword (Worded form) = Gap (BeforeWord form)
after_keyword LiftWord = Gap Lifted
after_keyword BetweenWord = Gap First
after_keyword CarryWord = Gap Carried
after_keyword ListWord = Listed
after_keyword (UnitWord first second unit) = Gap (Measured first second unit)

-- in a keyword, of which so many bytes have been read
abbrev pub in_keyword : Keyword → ℕ → ℕ → Option Progress
in_keyword w k b =
    cond (b == keyword_byte w k) (Some (cond (nat_lt (k + 1) (length (keyword_text w))) (Letters w (k + 1)) (after_keyword w)))
    None

-- the same, where the byte may be the third
abbrev pub in_letters : Keyword → ℕ → ℕ → Option Progress
in_letters w k b = in_keyword (cond (k == 2) (by_third w b) w) k b

abbrev pub in_gap : Role → ℕ → Option Progress
in_gap role b = cond (is_digit b) (Some (Slot role (b - 48) 1)) None

-- after the space that follows a slot
abbrev pub after_slot : Role → ℕ → Option Progress
after_slot (BeforeWord form) slot = Some (Space form slot)
after_slot Lifted slot = None
after_slot First slot = Some (Gap (Second slot))
after_slot (Second first) slot = Some (UnitStart first slot)
after_slot (Measured first second unit) slot = None
after_slot Carried slot = Some (Gap (CarriedBy slot))
after_slot (CarriedBy first) slot = Some (Gap (Target first slot))
after_slot (Target first span) slot = None

-- a slot of at most three digits, and so below 1,000
abbrev pub in_slot : Role → ℕ → ℕ → ℕ → Option Progress
in_slot role slot k b =
    cond (is_digit b && (nat_lt k 3 && nat_lt slot 100)) (Some (Slot role (slot * 10 + (b - 48)) (k + 1)))
    (cond (b == 32) (after_slot role slot) None)

-- the line that ends with a slot
abbrev pub slot_line : Role → ℕ → Option Line
slot_line (BeforeWord form) slot = None
slot_line Lifted slot = Some (Lift slot)
slot_line First slot = None
slot_line (Second first) slot = None
slot_line (Measured first second unit) slot = Some (Between first second unit slot)
slot_line Carried slot = None
slot_line (CarriedBy first) slot = None
slot_line (Target first span) slot = Some (Carry first span slot)

-- the line whose word begins at a place
abbrev pub form_line : Form → ℕ → ℕ → Line
form_line OfMark slot at = Mark slot at
form_line OfSpan slot at = Span slot at
form_line OfZone slot at = Zone slot at
form_line OfCalendar slot at = Calendar slot at

abbrev pub in_text : Line → ℕ → Option Progress
in_text line b = cond (b == 32) None (Some (Text line))

abbrev pub in_space : Form → ℕ → ℕ → ℕ → Option Progress
in_space form slot at b = in_text (form_line form slot at) b

-- the state after the byte at a place
abbrev pub stepped : Progress → ℕ → ℕ → Option Progress
stepped Start at b = in_keyword (command_by b) 0 b
stepped (Letters w k) at b = in_letters w k b
stepped (UnitStart first second) at b = in_keyword (UnitWord first second (unit_by b)) 0 b
stepped (Gap role) at b = in_gap role b
stepped (Slot role slot k) at b = in_slot role slot k b
stepped (Space form slot) at b = in_space form slot at b
stepped (Text line) at b = in_text line b
stepped Listed at b = None

-- the line, if it may end there
abbrev pub ended : Progress → Option Line
ended Start = None
ended (Letters w k) = None
ended (UnitStart first second) = None
ended (Gap role) = None
ended (Slot role slot k) = slot_line role slot
ended (Space form slot) = None
ended (Text line) = Some line
ended Listed = Some Listing

abbrev pub read_line : List ℕ → Result Line Misread
read_line line = limited 160 (length line) (read_on stepped ended Start 0 line)
