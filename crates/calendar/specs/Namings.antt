-- What a clause reads of a name that is held by value.
use Rattle.std.specs.Prelude.{ℕ, cond, List, [], length, take, nat_le}
use Rattle.calendar.specs.declared.named.Named.{Named}

abbrev pub name_of : Named → List ℕ
name_of n = take n.length n.bytes

-- a name of more than 16 bytes is held as none
abbrev pub held_name : List ℕ → List ℕ
held_name name = cond (nat_le (length name) 16) name []
