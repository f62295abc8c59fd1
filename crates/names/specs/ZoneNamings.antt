-- What a clause reads of a zone's name whose form is judged once.
use Rattle.std.specs.Prelude.{ℕ, List}
use Rattle.names.specs.declared.zone_name.ZoneName.{ZoneName}

-- the bytes that are viewed
abbrev pub zone_name_of : ZoneName → List ℕ
zone_name_of n = n.bytes.now
