-- No answer needs more than its room.
use Rattle.std.proofs.Common.{◌≡◌, ℕ, ◌+◌, ◌*◌, ◌^◌, ◌<◌, ◌≤◌, Bool, true, false, cond, List, [], ◌∷◌, length, codes, Some, None, Ok, Option, Result, sym, refl, ap, ◌∙◌, subst, arith, length-append, length-take}
use Rattle.std.proofs.lemmas.Fmt.{length-decimal-le}
use Rattle.timebase.specs.declared.fault.Told.{Told}
use Rattle.mark_text.specs.declared.mark.Mark.{Mark}
use Rattle.mark_text.specs.Marks.{mark_there}
use Rattle.shelf.specs.Slots.{in_use, slot_count}
use Rattle.board_law.specs.Boards.{Sources, State, kept, one_if, marks_in, marks_there, mark_slots}
use Rattle.std.specs.Str.{bytes_eq}
use Rattle.std.proofs.lemmas.Bool.{both_ways}
use Rattle.std.proofs.lemmas.Slice.Eq.{bytes_eq-Decides}
use Rattle.reading.specs.declared.Misread.{Misread}
use Rattle.reading.specs.Places.{AnswersWithin}
use Rattle.line_form.specs.declared.line.Line.{Line}
use Rattle.line_form.specs.declared.line.Line.TheVariants.{Mark as Marked, Lift, Span, Between, Carry, Zone, Calendar, List as Listed}
use Rattle.line_form.specs.Lines.{IsLine}
use Rattle.line_form.specs.Lines.IsLine.{list}
use Rattle.line_form.specs.Scanning.{read_line}
use Rattle.line_form.proofs.LineAnswers.{line_answers}
use Rattle.script.specs.Scripts.{form_room, word_text, refusal_text, on_line, line_room, room_of}

word_short : (k n : ℕ) → 0 < k → n < 10 ^ k → n < 2 ^ 64 → length (word_text n) ≤ k + 1
word_short k n some few fits = omega (arith, length-decimal-le k n some few fits)

pub refusal_short : (t : Told) → t.number < 256 → t.place < 2 ^ 64 → t.cause < 256 → t.depth < 256 → length (on_line (refusal_text t)) ≤ 100
refusal_short t a b c d =
    let w = word_short 3 t.number (omega arith) (omega arith) (omega arith) in
    let x = word_short 20 t.place (omega arith) (omega arith) b in
    let y = word_short 3 t.cause (omega arith) (omega arith) (omega arith) in
    let z = word_short 3 t.depth (omega arith) (omega arith) (omega arith) in
    simp length-append (omega arith)

pub line_short : (t : List ℕ) → length t ≤ 99 → length (on_line t) ≤ 100
line_short t h = omega (arith, length-append t (10 ∷ []), h)

-- ── a list ──

module _ (src : Sources) where
  one_most : (o : Option Mark) → one_if o ≤ 1
  one_most (Some m) = omega arith
  one_most None = omega arith

  marks_few : (xs : List (Option Mark)) → marks_in src xs ≤ length xs
  marks_few [] = omega arith
  marks_few (o ∷ os) = let h = marks_few os in let k = one_most (kept (mark_there src.zones src.calendars) o) in omega (arith, h, k)

  pub marks_on : (st : State) → marks_there src st ≤ mark_slots st
  marks_on st = let h = marks_few (in_use 256 st.marks) in omega (arith, h, length-take (slot_count 256 st.marks) st.marks)

-- ── a line ──

-- the one line that says a list
list_only : {line : List ℕ} → IsLine line Listed → line ≡ codes "list"
list_only list = refl

-- a line that says another call has the room of one answer
pub other_room : (slots : ℕ) (form : Line) → (form ≡ Listed → ⊥) → form_room slots form ≡ 100
other_room slots (Marked slot text) n = refl
other_room slots (Lift slot) n = refl
other_room slots (Span slot text) n = refl
other_room slots (Between first second unit span) n = refl
other_room slots (Carry first span target) n = refl
other_room slots (Zone slot name) n = refl
other_room slots (Calendar slot name) n = refl
other_room slots Listed n = absurd (n refl)

-- a line in form has the room of its form
pub form_fits : (slots : ℕ) (line : List ℕ) (form : Line) → read_line line ≡ Ok form → form_room slots form ≤ line_room slots line
form_fits slots line form e = by (bytes_eq line (codes "list")) refl
  where
    said : IsLine line form
    said = (subst (AnswersWithin IsLine 160 line) e (line_answers line)).0

    by : (t : Bool) → bytes_eq line (codes "list") ≡ t → form_room slots form ≤ cond t (100 * slots) 100
    by true f =
        let same : line ≡ codes "list" = (bytes_eq-Decides line (codes "list")).0 f in
        let read : ◌≡◌ {A = Result Line Misread} (Ok form) (Ok Listed) = sym e ∙ ap read_line same in
        let listed : form ≡ Listed = cc in
        let n = ap (form_room slots) listed in
        omega (arith, n)
    by false f =
        let r = other_room slots form (λ l. both_ways (bytes_eq line (codes "list")) f ((bytes_eq-Decides line (codes "list")).1 (list_only (subst (IsLine line) l said)))) in
        omega (arith, r)

-- ── all lines ──

-- the room of so many lines is added up, and those that are left give the rest
pub record Adding (slots : ℕ) (all left : List (List ℕ)) (room : ℕ) : Type 0 where
  pub sum : room + room_of slots left ≡ room_of slots all
  pub most : room + 25600 * length left ≤ 25600 * length all

pub adding_first : (slots : ℕ) (all : List (List ℕ)) → Adding slots all all 0
adding_first slots all = record { sum = omega arith; most = omega arith }

pub adding_on : {slots : ℕ} {all left : List (List ℕ)} {room : ℕ} (line : List ℕ) (rest : List (List ℕ)) (r : ℕ) → Adding slots all left room → left ≡ line ∷ rest
    → r ≡ line_room slots line → r ≤ 25600 → Adding slots all rest (room + r)
unfolding room_of
adding_on {slots} line rest r g is e few =
    let n = ap (room_of slots) is in
    let l = ap {B = ℕ} length is in
    record { sum = omega (arith, g.sum, n, e); most = omega (arith, g.most, l, few) }

pub adding_end : {slots : ℕ} {all left : List (List ℕ)} {room : ℕ} → Adding slots all left room → left ≡ [] → room ≡ room_of slots all
unfolding room_of
adding_end {slots} g is = let n = ap (room_of slots) is in omega (arith, g.sum, n)
