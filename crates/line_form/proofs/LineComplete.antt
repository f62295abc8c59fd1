-- Every line in form is read, and says what it should.
use Rattle.std.proofs.Common.{◌≡◌, ℕ, suc, ◌+◌, ◌-◌, ◌*◌, ◌^◌, ◌<◌, ◌≤◌, List, [], ◌∷◌, ◌++◌, length, Some, Ok, Result, sym, refl, ap, ◌∙◌, arith, append-nil}
use Rattle.std.proofs.lemmas.Bool.Decides.{nat_tests}
use Rattle.reading.specs.Digits.{value_on, AllDigits}
use Rattle.reading.specs.declared.Misread.{Misread}
use Rattle.reading.specs.Reading.{read_on}
use Rattle.reading.proofs.Figures.{digit_more, ten_le}
use Rattle.reading.proofs.Machines.{go as go_on}
use Rattle.span_law.specs.declared.unit.Unit.{Unit as AnyUnit}
use Rattle.span_law.specs.declared.unit.Unit.TheVariants.{Year, Month, Week, Day, Hour}
use Rattle.line_form.specs.declared.keyword.Form.{Form}
use Rattle.line_form.specs.declared.keyword.Form.TheVariants.{Mark as OfMark, Span as OfSpan, Zone as OfZone, Calendar as OfCalendar}
use Rattle.line_form.specs.declared.line.Line.{Line}
use Rattle.line_form.specs.declared.progress.Progress.{Progress}
use Rattle.line_form.specs.declared.progress.Progress.TheVariants.{Start, UnitStart, Gap, Slot, Space, Text}
use Rattle.line_form.specs.declared.progress.Role.{Role}
use Rattle.line_form.specs.declared.progress.Role.TheVariants.{BeforeWord, Measured}
use Rattle.line_form.specs.Keywords.{unit_word, form_text}
use Rattle.line_form.specs.Lines.{NoSpace, Word, SlotText, WordLine, IsLine}
use Rattle.line_form.specs.Scanning.{after_slot, slot_line, form_line, stepped, ended}

abbrev read : Progress → ℕ → List ℕ → Result Line Misread
read = read_on stepped ended

go : (s t : Progress) (a b : ℕ) (bs : List ℕ) → stepped s a b ≡ Some t → read s a (b ∷ bs) ≡ read t (a + 1) bs
go s t a b bs h = go_on stepped ended s t a b bs h

-- ── slots ──

slot_digit : (role : Role) (n k a b : ℕ) → 48 ≤ b → b ≤ 57 → k < 3 → n < 100
    → stepped (Slot role n k) a b ≡ Some (Slot role (n * 10 + (b - 48)) (k + 1))
slot_digit role n k a b p q l m = grind (arith, nat_tests)

-- digits of a slot, after the first
more_digits : (role : Role) (n k a m c : ℕ) (ds xs : List ℕ)
    → AllDigits ds → m ≤ 3 → n < 10 ^ k → m ≡ k + length ds → c ≡ a + length ds
    → read (Slot role n k) a (ds ++ xs) ≡ read (Slot role (value_on n ds) m) c xs
more_digits role n k a m c [] xs h l g p q = let x : k ≡ m = omega arith in let y : a ≡ c = omega arith in cc
more_digits role n k a m c (b ∷ bs) xs h l g p q =
    let s = slot_digit role n k a b h.0 h.1 (omega arith) (omega (arith, ten_le k 2 (omega arith))) in
    let more = digit_more n k (b - 48) g (omega arith) in
    go (Slot role n k) _ a b (bs ++ xs) s
    ∙ more_digits role (n * 10 + (b - 48)) (k + 1) (a + 1) m c bs xs h.2 l more (omega arith) (omega arith)

first_digit : (role : Role) (a b : ℕ) → 48 ≤ b → b ≤ 57 → stepped (Gap role) a b ≡ Some (Slot role (0 * 10 + (b - 48)) 1)
first_digit role a b p q = grind (arith, nat_tests)

-- a whole slot
slot_goes : (role : Role) (a n : ℕ) (ds xs : List ℕ) → SlotText ds n
    → read (Gap role) a (ds ++ xs) ≡ read (Slot role n (length ds)) (a + length ds) xs
slot_goes role a n [] xs h = absurd (omega (arith, h.number.some))
slot_goes role a n (b ∷ bs) xs h =
    let d = h.number.all in
    let k : ℕ = suc (length bs) in
    go (Gap role) _ a b (bs ++ xs) (first_digit role a b d.0 d.1)
    ∙ (more_digits role (0 * 10 + (b - 48)) 1 (a + 1) k (a + k) bs xs d.2 h.number.few (omega (arith, d.1)) (omega arith) (omega arith)
    ∙ ap (λ (z : ℕ). read (Slot role z k) (a + k) xs) (sym h.value))

-- a slot with which a line ends
last_slot : (role : Role) (a : ℕ) {n : ℕ} {ds : List ℕ} {v : Line} → SlotText ds n → slot_line role n ≡ Some v
    → read (Gap role) a ds ≡ Ok v
last_slot role a {n} {ds} {v} h e =
    ap (read (Gap role) a) (sym (append-nil ds)) ∙ (slot_goes role a n ds [] h ∙ rw (e, read_on) refl)

-- a slot, and a space
next_slot : (role : Role) (a : ℕ) {n : ℕ} {ds : List ℕ} (xs : List ℕ) {t : Progress} {v : Line}
    → SlotText ds n → after_slot role n ≡ Some t → read t (a + length ds + 1) xs ≡ Ok v
    → read (Gap role) a (ds ++ (32 ∷ xs)) ≡ Ok v
next_slot role a {n} {ds} xs {t} {v} h e r =
    slot_goes role a n ds (32 ∷ xs) h ∙ (go (Slot role n (length ds)) t (a + length ds) 32 xs e ∙ r)

-- ── words ──

text_step : (v : Line) (a b : ℕ) → (b ≡ 32 → ⊥) → stepped (Text v) a b ≡ Some (Text v)
text_step v a b h = grind (arith, nat_tests)

more_text : (v : Line) (a : ℕ) (bs : List ℕ) → NoSpace bs → read (Text v) a bs ≡ Ok v
more_text v a [] h = refl
more_text v a (b ∷ bs) h = go (Text v) _ a b bs (text_step v a b h.0) ∙ more_text v (a + 1) bs h.1

word : (form : Form) (n a : ℕ) (bs : List ℕ) → Word bs → read (Space form n) a bs ≡ Ok (form_line form n a)
word form n a [] h = absurd (omega (arith, h.some))
word form n a (b ∷ bs) h =
    go (Space form n) _ a b bs (text_step (form_line form n a) a b h.plain.0) ∙ more_text (form_line form n a) (a + 1) bs h.plain.1

command : (form : Form) (xs : List ℕ)
    → read Start 0 (form_text form ++ xs) ≡ read (Gap (BeforeWord form)) (length (form_text form)) xs
command OfMark xs = refl
command OfSpan xs = refl
command OfZone xs = refl
command OfCalendar xs = refl

word_line : (form : Form) {line : List ℕ} {slot place : ℕ} → WordLine (form_text form) line slot place
    → read Start 0 line ≡ Ok (form_line form slot place)
word_line form {line} {slot} {place} h =
    ap (read Start 0) h.is
    ∙ (command form (h.digits ++ (32 ∷ h.text))
    ∙ next_slot _ _ _ h.number refl (word form slot _ h.text h.word ∙ ap (λ (z : ℕ). Ok (form_line form slot z)) (sym h.begins)))

-- ── units ──

unit_goes : (first second a : ℕ) (unit : AnyUnit) (xs : List ℕ) {v : Line}
    → ((c : ℕ) → read (Gap (Measured first second unit)) c xs ≡ Ok v)
    → read (UnitStart first second) a (unit_word unit ++ (32 ∷ xs)) ≡ Ok v
unit_goes first second a Year xs next = next _
unit_goes first second a Month xs next = next _
unit_goes first second a Week xs next = next _
unit_goes first second a Day xs next = next _
unit_goes first second a Hour xs next = next _

pub complete : (line : List ℕ) (v : Line) → IsLine line v → read Start 0 line ≡ Ok v
complete _ _ (IsLine.mark h) = word_line OfMark h
complete _ _ (IsLine.lift x) = last_slot _ _ x refl
complete _ _ (IsLine.span h) = word_line OfSpan h
complete _ _ (IsLine.between unit x y z) =
    next_slot _ _ _ x refl (next_slot _ _ _ y refl (unit_goes _ _ _ unit _ (λ c. last_slot _ c z refl)))
complete _ _ (IsLine.carry x y z) = next_slot _ _ _ x refl (next_slot _ _ _ y refl (last_slot _ _ z refl))
complete _ _ (IsLine.zone h) = word_line OfZone h
complete _ _ (IsLine.calendar h) = word_line OfCalendar h
complete _ _ IsLine.list = refl
