-- Where the parts of a mark text stand: inside it.
use Rattle.std.proofs.Common.{ℕ, ◌+◌, ◌<◌, ◌≤◌, Bool, true, false, cond, List, ◌∷◌, ◌++◌, length, drop, IfSome, Some, None, Option, sym, refl, ap, subst, arith}
use Rattle.std.proofs.lemmas.List.{length-drop, length-append}
use Rattle.mark_form.specs.declared.draft.Draft.{Draft}
use Rattle.mark_form.specs.declared.draft.Said.{Said}
use Rattle.mark_form.specs.declared.layout.Part.{Part}
use Rattle.mark_form.specs.declared.layout.Tags.{Tags}
use Rattle.mark_form.specs.Grammar.{OffsetText, DraftText, layout_of}
use Rattle.mark_form.specs.TagLaws.{TagAt, TagList, TagsSaid, first_calendar, is_calendar, value_of}
use Rattle.mark_form.proofs.Answering.{sign_low}
use Rattle.mark_form.proofs.Forms.{clock_length}
use Rattle.mark_form.proofs.Values.{four_small}
use Rattle.mark_text.specs.Fields.{SignFits}

-- a part that stands inside a text
abbrev pub Inside : List ℕ → Part → Type 0
Inside t p = (p.from ≤ p.to) × (p.to ≤ length t)

-- the name of a draft stands inside, with a byte after it
pub draft_name : (t : List ℕ) (d : Draft) → DraftText t d → (d.name.from ≤ d.name.to) × (d.name.to + 1 ≤ length t)
draft_name t d m =
    let a = length-append m.clock (m.fraction ++ (m.offset ++ (91 ∷ (m.bang ++ (m.name ++ (93 ∷ m.tags)))))) in
    let b = length-append m.fraction (m.offset ++ (91 ∷ (m.bang ++ (m.name ++ (93 ∷ m.tags))))) in
    let c = length-append m.offset (91 ∷ (m.bang ++ (m.name ++ (93 ∷ m.tags)))) in
    let e = length-append m.bang (m.name ++ (93 ∷ m.tags)) in
    let f = length-append m.name (93 ∷ m.tags) in
    let k = clock_length m.clock d m.clock_text in
    let g = ap length m.is in
    (omega (arith, m.name_to), omega (arith, a, b, c, e, f, k, g, m.name_from, m.name_to))

sign_is : {place : ℕ} {x : List ℕ} {o : Option Said} → OffsetText place x o → place < 90 → IfSome o (λ s. s.sign < 90)
sign_is OffsetText.utc h = tt
sign_is OffsetText.unknown h = tt
sign_is (OffsetText.minutes s i j n) h = h
sign_is (OffsetText.seconds s i j k) h = h

-- an offset that is said has its sign near the beginning
pub sign_fits : (t : List ℕ) (d : Draft) → DraftText t d → SignFits d
sign_fits t d x = sign_is x.offset_text (sign_low t (layout_of x) (record { draft = d; text = x; places = refl }))

-- a year has four digits
pub year_small : (t : List ℕ) (d : Draft) → DraftText t d → d.year ≤ 9999
year_small t d x = let c = x.clock_text in four_small c.year d.year c.year_text

-- a tag's value ends by a place
abbrev EndsBy : ℕ → TagAt → Type 0
EndsBy n g = (g.value.from ≤ g.value.to) × (g.value.to ≤ n)

later : (o : Option TagAt) (m n : ℕ) → m ≤ n → IfSome o (EndsBy m) → IfSome o (EndsBy n)
later None m n h e = tt
later (Some g) m n h (a, b) = (a, omega arith)

-- the value of the first u-ca among tags from a place on
value_inside : {at : ℕ} {xs : List ℕ} {ts : List TagAt} → TagList at xs ts → IfSome (first_calendar ts) (EndsBy (at + length xs))
value_inside TagList.none = tt
value_inside (TagList.tag {at = at} {from = from} {to = to} {c = c} {e = e'} k {v = v} {xs = xs} {ts = ts} b y z ef et rest) =
    let all = 91 ∷ (e' ++ (k ++ (61 ∷ (v ++ (93 ∷ xs))))) in
    let l1 = length-append e' (k ++ (61 ∷ (v ++ (93 ∷ xs)))) in
    let l2 = length-append k (61 ∷ (v ++ (93 ∷ xs))) in
    let l3 = length-append v (93 ∷ xs) in
    let g : TagAt = record { bracket = at; critical = c; key = k; value = record { from = from; to = to } } in
    let here : EndsBy (at + length all) g = (omega (arith, et), omega (arith, l1, l2, l3, ef, et)) in
    let there : IfSome (first_calendar ts) (EndsBy (at + length all)) = later (first_calendar ts) ((to + 1) + length xs) (at + length all) (omega (arith, l1, l2, l3, ef, et)) (value_inside rest) in
    by (is_calendar g) (first_calendar ts) g (at + length all) here there
  where
    by : (t : Bool) (o : Option TagAt) (g : TagAt) (n : ℕ) → EndsBy n g → IfSome o (EndsBy n) → IfSome (cond t (Some g) o) (EndsBy n)
    by true o g n h k = h
    by false o g n h k = k

value_part : (t : List ℕ) (o : Option TagAt) → IfSome o (EndsBy (length t)) → IfSome (value_of o) (Inside t)
value_part t None h = tt
value_part t (Some g) h = h

-- the value of a draft's first u-ca
pub calendar_inside : (t : List ℕ) (n : ℕ) (g : Tags) → n + 1 ≤ length t → TagsSaid t n g → IfSome g.calendar (Inside t)
calendar_inside t n g h s =
    let d = length-drop (n + 1) t in
    subst (λ (o : Option Part). IfSome o (Inside t)) (sym (ap (λ (z : Tags). z.calendar) s.come))
    (value_part t (first_calendar s.tags) (later (first_calendar s.tags) ((n + 1) + length (drop (n + 1) t)) (length t) (omega (arith, d)) (value_inside s.there)))
