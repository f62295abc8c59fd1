-- The words that the forms of lines prescribe, as bytes.
use Rattle.std.specs.Prelude.{ℕ, cond, List, [], ◌∷◌, ◌++◌, codes, ◌==◌}
use Rattle.std.specs.List.{slice_index_or}
use Rattle.span_law.specs.declared.unit.Unit.{Unit as AnyUnit}
use Rattle.span_law.specs.declared.unit.Unit.TheVariants.{Year, Month, Week, Day, Hour}
use Rattle.line_form.specs.declared.keyword.Form.{Form}
use Rattle.line_form.specs.declared.keyword.Form.TheVariants.{Mark, Span, Zone, Calendar}
use Rattle.line_form.specs.declared.keyword.Keyword.{Keyword}
use Rattle.line_form.specs.declared.keyword.Keyword.TheVariants.{Worded, Lift, Between, Carry, List as ListWord, UnitWord}

-- the word of a unit
abbrev pub unit_word : AnyUnit → List ℕ
unit_word Year = codes "year"
unit_word Month = codes "month"
unit_word Week = codes "week"
unit_word Day = codes "day"
unit_word Hour = codes "hour"

-- the command of a form that ends in a word, with the space after it
abbrev pub form_text : Form → List ℕ
form_text Mark = codes "mark "
form_text Span = codes "span "
form_text Zone = codes "zone "
form_text Calendar = codes "calendar "

-- a keyword, with the space after it where something has to follow
abbrev pub keyword_text : Keyword → List ℕ
keyword_text (Worded form) = form_text form
keyword_text Lift = codes "lift "
keyword_text Between = codes "between "
keyword_text Carry = codes "carry "
keyword_text ListWord = codes "list"
keyword_text (UnitWord first second unit) = unit_word unit ++ (32 ∷ [])

-- the byte that follows so many bytes of it; past its end a space
abbrev pub keyword_byte : Keyword → ℕ → ℕ
keyword_byte w k = slice_index_or (keyword_text w) k 32

-- the unit by its first letter: `y`, `m`, `w`, `d`, and else `h`
abbrev pub unit_by : ℕ → AnyUnit
unit_by b = cond (b == 121) Year (cond (b == 109) Month (cond (b == 119) Week (cond (b == 100) Day Hour)))

-- the command by its first letter: `m`, `s`, `z`, `l`, `b`, and else `c`
abbrev pub command_by : ℕ → Keyword
command_by b =
    cond (b == 109) (Worded Mark)
    (cond (b == 115) (Worded Span) (cond (b == 122) (Worded Zone) (cond (b == 108) Lift (cond (b == 98) Between Carry))))

-- the keyword by its third letter, after the first two: `s` and `l` tell `list` and `calendar`
abbrev pub by_third : Keyword → ℕ → Keyword
by_third (Worded form) b = Worded form
by_third Lift b = cond (b == 115) ListWord Lift
by_third Between b = Between
by_third Carry b = cond (b == 108) (Worded Calendar) Carry
by_third ListWord b = ListWord
by_third (UnitWord first second unit) b = UnitWord first second unit
