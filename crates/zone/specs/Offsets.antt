-- Which offsets from UTC a zone may have: at most 86,399 seconds either way.
use Rattle.std.specs.Prelude.{Bool, ◌&&◌, ℤ, pos, negsuc, int_le}

abbrev pub is_offset : ℤ → Bool
is_offset o = int_le (negsuc 86398) o && int_le o (pos 86399)
