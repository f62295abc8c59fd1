-- The tags of a mark text, one by one, and which of them count. The bytes: 33 `!`, 61 `=`, 91 `[`, 93 `]`.
use Rattle.std.specs.Prelude.{◌≡◌, ℕ, ◌+◌, Bool, true, false, cond, ◌||◌, List, [], ◌∷◌, ◌++◌, length, drop, Some, None, Ok, Err, codes, Option, Result}
use Rattle.std.specs.Str.{bytes_eq}
use Rattle.reading.specs.declared.Misread.{Misread}
use Rattle.names.specs.Names.{Runs}
use Rattle.mark_form.specs.declared.draft.Draft.{Draft}
use Rattle.mark_form.specs.declared.layout.Layout.{Layout}
use Rattle.mark_form.specs.declared.layout.Part.{Part}
use Rattle.mark_form.specs.declared.layout.Tags.{Tags}
use Rattle.mark_form.specs.Bytes.{is_first_of_key, is_in_key}

-- perhaps `!`, which marks critical
pub data Bang : List ℕ → Bool → Type 0 where
  plain : Bang [] false
  critical : Bang (33 ∷ []) true

-- a key after its first byte
abbrev pub AllInKey : List ℕ → Type 0
AllInKey [] = Unit {0}
AllInKey (b ∷ bs) = (is_in_key b ≡ true) × AllInKey bs

-- a tag's key
abbrev pub KeyText : List ℕ → Type 0
KeyText [] = ⊥
KeyText (b ∷ bs) = (is_first_of_key b ≡ true) × AllInKey bs

-- a tag: the place of its `[`, whether it is critical, its key, and where its value stands
pub record TagAt : Type 0 where
  pub bracket : ℕ
  pub critical : Bool
  pub key : List ℕ
  pub value : Part

-- the tags that stand from a place on
pub data TagList : ℕ → List ℕ → List TagAt → Type 0 where
  none : {at : ℕ} → TagList at [] []
  tag : {at from to : ℕ} {c : Bool} {e : List ℕ} (k : List ℕ) {v xs : List ℕ} {ts : List TagAt} → Bang e c → KeyText k → Runs v
      → from ≡ at + (length e + (length k + 2)) → to ≡ from + length v → TagList (to + 1) xs ts
      → TagList at (91 ∷ (e ++ (k ++ (61 ∷ (v ++ (93 ∷ xs)))))) (record { bracket = at; critical = c; key = k; value = record { from = from; to = to } } ∷ ts)

-- the tag names a calendar: its key is `u-ca`
abbrev pub is_calendar : TagAt → Bool
is_calendar t = bytes_eq t.key (codes "u-ca")

-- the first `u-ca`
abbrev pub first_calendar : List TagAt → Option TagAt
first_calendar [] = None
first_calendar (t ∷ ts) = cond (is_calendar t) (Some t) (first_calendar ts)

-- a tag after others is refused if it is critical and its key unknown, or if it is another `u-ca`, and it or the first is critical
abbrev pub offends : List TagAt → TagAt → Bool
offends before t = cond (is_calendar t) (elim (first_calendar before) [ None ↦ false | Some first ↦ t.critical || first.critical ]) t.critical

-- the first of them that is refused, after others
abbrev pub first_offending : List TagAt → List TagAt → Option TagAt
first_offending before [] = None
first_offending before (t ∷ ts) = cond (offends before t) (Some t) (first_offending (before ++ (t ∷ [])) ts)

-- a tag's `[`, if there is such a tag
abbrev pub bracket_of : Option TagAt → Option ℕ
bracket_of None = None
bracket_of (Some t) = Some t.bracket

-- where a tag's value stands, if there is such a tag
abbrev pub value_of : Option TagAt → Option Part
value_of None = None
value_of (Some t) = Some t.value

-- there is such a tag, and it is critical
abbrev pub is_critical : Option TagAt → Bool
is_critical None = false
is_critical (Some t) = t.critical

-- what tags come to
abbrev pub tags_of : List TagAt → Tags
tags_of ts = record {
  refused = bracket_of (first_offending [] ts);
  calendar = value_of (first_calendar ts);
  critical = is_critical (first_calendar ts);
}

-- what the tags come to that follow the name, which ends at a place
pub record TagsSaid (t : List ℕ) (name_end : ℕ) (g : Tags) : Type 0 where
  pub tags : List TagAt
  pub there : TagList (name_end + 1) (drop (name_end + 1) t) tags
  pub come : g ≡ tags_of tags

-- what an answer's tags come to
abbrev pub LayoutTags : List ℕ → Result Layout Misread → Type 0
LayoutTags t (Ok l) = TagsSaid t l.name.to l.tags
LayoutTags t (Err m) = Unit {0}

-- what an answer's tags come to
abbrev pub DraftTags : List ℕ → Result Draft Misread → Type 0
DraftTags t (Ok d) = TagsSaid t d.name.to d.tags
DraftTags t (Err m) = Unit {0}
