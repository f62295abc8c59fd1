-- What the tags of a text come to, tag by tag.
use Rattle.std.specs.Prelude.{ℕ, false, cond, ◌&&◌, ◌||◌, Some, None}
use Rattle.std.specs.Option.{option_or}
use Rattle.mark_form.specs.declared.layout.Part.{Part}
use Rattle.mark_form.specs.declared.layout.Tag.{Tag}
use Rattle.mark_form.specs.declared.layout.Tags.{Tags}

-- before any tag
abbrev pub no_tags : Tags
no_tags = record { refused = None; calendar = None; critical = false }

-- a tag is refused by its `[`; the first refused one stays
abbrev pub refused_at : Tags → ℕ → Tags
refused_at g bracket = record { refused = option_or g.refused (Some bracket); calendar = g.calendar; critical = g.critical }

-- a tag after the first `u-ca`, or of another key
abbrev pub passed : Tags → Tag → Tags
passed g t = cond (t.critical || (t.is_calendar && g.critical)) (refused_at g t.bracket) g

-- what tags come to with one more, whose value stands at a part
abbrev pub noted : Tags → Tag → Part → Tags
noted g t value = elim g.calendar [
  | None ↦ cond t.is_calendar (record { refused = g.refused; calendar = Some value; critical = t.critical }) (passed g t)
  | Some first ↦ passed g t
]
