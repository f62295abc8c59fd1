-- The canonical text of a mark.
use Rattle.std.specs.Prelude.{◌≡◌, ℕ, ◌+◌, ◌*◌, ◌<◌, ◌≤◌, List, pos, length, drop, ◌++◌, cond, nat_lt, Ok, Err, Result}
use Rattle.timebase.specs.declared.fault.Fault.{Fault}
use Rattle.timebase.specs.declared.fault.Fault.TheVariants.{BufferSmall}
use Rattle.years.specs.Days.{HasDate}
use Rattle.iso8601.specs.Gregorian.{gregorian_years}
use Rattle.zone.specs.Zones.{Zones, offset}
use Rattle.calendar.specs.Calendars.{Calendars}
use Rattle.local_times.specs.Locals.{second_of, micros_of, local_day, clock_second}
use Rattle.writing.specs.declared.Writer.{Writer}
use Rattle.writing.specs.Putting.{Puts}
use Rattle.mark_writing.specs.declared.stamp.Stamp.{Stamp}
use Rattle.mark_writing.specs.Canonical.{mark_text}
use Rattle.mark_text.specs.declared.mark.Mark.{Mark}
use Rattle.mark_text.specs.Reading.{read_answer}

-- the stamp shows the mark: the Gregorian date of its local day, its clock time, its zone's offset there, and both names
pub record ShownBy (zs : Zones) (cs : Calendars) (m : Mark) (s : Stamp) : Type 0 where
  pub number : ℕ
  pub number_is : pos number ≡ local_day (zs.value m.zone) m.instant
  pub date : HasDate gregorian_years number (record { year = pos s.year; month = s.month; day = s.day })
  pub clock : s.hour * 3600 + s.minute * 60 + s.second ≡ clock_second (zs.value m.zone) m.instant
  pub minute : s.minute < 60
  pub second : s.second < 60
  pub micros : s.micros ≡ micros_of m.instant
  pub shift : s.offset ≡ offset (zs.value m.zone (second_of m.instant))
  pub zone : s.zone.now ≡ zs.name m.zone
  pub calendar : s.calendar.now ≡ cs.name m.calendar

-- t is the canonical text of the mark
pub record Canonical (zs : Zones) (cs : Calendars) (m : Mark) (t : List ℕ) : Type 0 where
  pub stamp : Stamp
  pub shown : ShownBy zs cs m stamp
  pub is : t ≡ mark_text stamp

-- t is the one canonical text of the mark, and reading it gives the mark
pub record TextOf (zs : Zones) (cs : Calendars) (m : Mark) (t : List ℕ) : Type 0 where
  pub short : length t ≤ 92
  pub canonical : Canonical zs cs m t
  pub alone : (u : List ℕ) → Canonical zs cs m u → u ≡ t
  pub reads_back : read_answer zs cs t ≡ Ok m

-- what writing a text into a buffer answers, and what the buffer holds after it: bytes past the text are as before
abbrev pub text_answer : List ℕ → List ℕ → Result ℕ Fault
text_answer t before = cond (nat_lt (length before) 96) (Err BufferSmall) (Ok (length t))

abbrev pub text_memory : List ℕ → List ℕ → List ℕ
text_memory t before = cond (nat_lt (length before) 96) before (t ++ drop (length t) before)

-- a mark was written, or there was no room
pub record Written (zs : Zones) (cs : Calendars) (m : Mark) (before : List ℕ) (answer : Result ℕ Fault) (after : List ℕ) : Type 0 where
  pub text : List ℕ
  pub of_mark : TextOf zs cs m text
  pub answered : answer ≡ text_answer text before
  pub holds : after ≡ text_memory text before

-- a mark was put, as much of its text as fits
pub record PutsMark (zs : Zones) (cs : Calendars) (m : Mark) (before after : Writer) : Type 0 where
  pub text : List ℕ
  pub of_mark : TextOf zs cs m text
  pub puts : Puts before text after
