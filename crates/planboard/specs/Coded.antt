-- The calls of a program, as the definitions have them.
use Rattle.std.specs.Prelude.{ℕ, List, map}
use Rattle.planboard.specs.declared.call.Call.{Call as Given}
use Rattle.planboard.specs.declared.call.Call.TheVariants.{Place, Lift, Enter, Measure, Carry, Rezone, Recalendar, WriteMark, WriteSpan, List as ListMarks}
use Rattle.board_law.specs.Boards.{Call, place, lift, enter, measure, carry, rezone, recalendar, write_mark, write_span, list_marks}

-- `room` is the length of the buffer that the call is made with
abbrev pub call_of : ℕ → Given → Call
call_of room (Place slot text) = place slot text.now
call_of room (Lift slot) = lift slot
call_of room (Enter slot text) = enter slot text.now
call_of room (Measure first second unit span) = measure first second unit span
call_of room (Carry first span target) = carry first span target
call_of room (Rezone slot name) = rezone slot name.now
call_of room (Recalendar slot name) = recalendar slot name.now
call_of room (WriteMark slot) = write_mark slot room
call_of room (WriteSpan slot) = write_span slot room
call_of room ListMarks = list_marks room

abbrev pub calls_of : ℕ → List Given → List Call
calls_of room calls = map (call_of room) calls
