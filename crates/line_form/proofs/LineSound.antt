-- Whatever is read is a line in form.
use Rattle.std.proofs.Common.{◌≡◌, ℕ, ◌+◌, ◌-◌, ◌*◌, ◌<◌, Bool, true, false, cond, ◌&&◌, eqb, ltb, List, [], ◌∷◌, ◌++◌, length, take, Some, None, Ok, Err, codes, Option, Result, sym, refl, ap, ◌∙◌, subst, inl, inr, append_assoc, append-nil, arith}
use Rattle.std.proofs.lemmas.Bool.{cases_lt, and_parts, eqb-true, eqb-false, ltb-true, lt-ltb, le-ltb}
use Rattle.std.proofs.lemmas.List.{take_more, take_all}
use Rattle.reading.specs.Digits.{is_digit, value_on, Digits}
use Rattle.reading.specs.declared.Misread.{Misread}
use Rattle.reading.specs.Reading.{misread, read_on}
use Rattle.reading.proofs.Figures.{value_push, length_push, digits_push, one_digit, digit_tells}
use Rattle.reading.proofs.Machines.{none_some, err_ok, cond_some, first_step}
use Rattle.span_law.specs.declared.unit.Unit.{Unit as AnyUnit}
use Rattle.span_law.specs.declared.unit.Unit.TheVariants.{Year, Month, Week, Day, Hour}
use Rattle.line_form.specs.declared.keyword.Form.{Form}
use Rattle.line_form.specs.declared.keyword.Form.TheVariants.{Mark as OfMark, Span as OfSpan, Zone as OfZone, Calendar as OfCalendar}
use Rattle.line_form.specs.declared.keyword.Keyword.{Keyword}
use Rattle.line_form.specs.declared.keyword.Keyword.TheVariants.{Worded, Lift as LiftWord, Between as BetweenWord, Carry as CarryWord, List as ListWord, UnitWord}
use Rattle.line_form.specs.declared.line.Line.{Line}
use Rattle.line_form.specs.declared.progress.Progress.{Progress}
use Rattle.line_form.specs.declared.progress.Progress.TheVariants.{Start, Letters, UnitStart, Gap, Slot, Space, Text, Listed}
use Rattle.line_form.specs.declared.progress.Role.{Role}
use Rattle.line_form.specs.declared.progress.Role.TheVariants.{BeforeWord, Lifted, First, Second, Measured, Carried, CarriedBy, Target}
use Rattle.line_form.specs.Keywords.{unit_word, form_text, keyword_text, keyword_byte, command_by, by_third, unit_by}
use Rattle.line_form.specs.Lines.{NoSpace, Word, SlotText, WordLine, IsLine}
use Rattle.line_form.specs.Scanning.{after_keyword, in_keyword, after_slot, slot_line, form_line, stepped, ended}

abbrev read : Progress → ℕ → List ℕ → Result Line Misread
read = read_on stepped ended

-- what both outcomes of a test have
either : {A : Type 0} (P : A → Type 0) (c : Bool) {x y : A} → P x → P y → P (cond c x y)
either P true p q = p
either P false p q = q

-- a step that a test lets through
passed : {S : Type 0} (c : Bool) (o : Option S) (t : S) → cond c o None ≡ Some t → (c ≡ true) × (o ≡ Some t)
passed true o t e = (refl, e)
passed false o t e = none_some t e

-- a byte that could be any but a certain one
other : {S : Type 0} (b c : ℕ) (s t : S) → cond (eqb b c) None (Some s) ≡ Some t → (b ≡ c → ⊥) × (s ≡ t)
other b c s t e = by (eqb b c) refl e
  where
    by : (x : Bool) → eqb b c ≡ x → cond x None (Some s) ≡ Some t → (b ≡ c → ⊥) × (s ≡ t)
    by true h g = none_some t g
    by false h g = (eqb-false b c h, cc)

-- what is read on from the state that a step gave
got : {s t : Progress} (a : ℕ) (xs : List ℕ) {v : Line} → Some s ≡ Some t → read t a xs ≡ Ok v → read s a xs ≡ Ok v
got {s} {t} a xs e h = let same : s ≡ t = cc in ap (λ (z : Progress). read z a xs) same ∙ h

-- ── words ──

text_sound : (xs : List ℕ) (l : Line) (a : ℕ) (v : Line) → read (Text l) a xs ≡ Ok v → NoSpace xs × (l ≡ v)
text_sound [] l a v h = (tt, cc)
text_sound (b ∷ bs) l a v h =
    let s = first_step stepped ended (Text l) a b bs v h in
    let o = other b 32 (Text l) s.0 s.1 in
    let r = text_sound bs l (a + 1) v (got _ _ (ap Some o.1) s.2) in
    ((o.0, r.0), r.1)

word_sound : (xs : List ℕ) (form : Form) (n a : ℕ) (v : Line) → read (Space form n) a xs ≡ Ok v → Word xs × (form_line form n a ≡ v)
word_sound [] form n a v h = err_ok v a h
word_sound (b ∷ bs) form n a v h =
    let s = first_step stepped ended (Space form n) a b bs v h in
    let o = other b 32 (Text (form_line form n a)) s.0 s.1 in
    let r = text_sound bs (form_line form n a) (a + 1) v (got _ _ (ap Some o.1) s.2) in
    (record { some = omega arith; plain = (o.0, r.0) }, r.1)

-- ── slots ──

-- what follows where a slot has to begin: the line ends with it, or goes on after a space
data SlotRest (role : Role) (a : ℕ) : List ℕ → Line → Type 0 where
  ends : {digits : List ℕ} {n : ℕ} {v : Line} → SlotText digits n → slot_line role n ≡ Some v → SlotRest role a digits v
  goes_on : {digits : List ℕ} {n : ℕ} (more : List ℕ) (t : Progress) {v : Line} → SlotText digits n → after_slot role n ≡ Some t
      → read t (a + length digits + 1) more ≡ Ok v → SlotRest role a (digits ++ (32 ∷ more)) v

-- the line at an end
at_end : (o : Option Line) (a : ℕ) (v : Line)
    → ◌≡◌ {A = Result Line Misread} (elim o [ Some w ↦ Ok w | None ↦ Err (misread a) ]) (Ok v) → o ≡ Some v
at_end (Some w) a v h = let e : w ≡ v = cc in ap Some e
at_end None a v h = err_ok v a h

-- in a slot, after some digits
slot_sound : (xs : List ℕ) (role : Role) (ds : List ℕ) (n k a c : ℕ) (v : Line)
    → Digits 3 ds → n ≡ value_on 0 ds → k ≡ length ds → c ≡ a + length ds
    → read (Slot role n k) c xs ≡ Ok v → SlotRest role a (ds ++ xs) v
slot_sound [] role ds n k a c v q e l m h =
    rw append-nil (SlotRest.ends (record { number = q; value = e }) (at_end (slot_line role n) c v h))
slot_sound (b ∷ bs) role ds n k a c v q e l m h =
    let s = first_step stepped ended (Slot role n k) c b bs v h in
    elim (cond_some (is_digit b && (ltb k 3 && ltb n 100)) (Slot role (n * 10 + (b - 48)) (k + 1)) _ s.0 s.1) [
      | inl w ↦
          let g = digit_tells b (ltb k 3 && ltb n 100) w.0 in
          let few = ltb-true k 3 (and_parts (ltb k 3) (ltb n 100) g.2).0 in
          let value : n * 10 + (b - 48) ≡ value_on 0 (ds ++ (b ∷ [])) = ap (λ (z : ℕ). z * 10 + (b - 48)) e ∙ sym (value_push 0 ds b) in
          let count : k + 1 ≡ length (ds ++ (b ∷ [])) = ap (λ (z : ℕ). z + 1) l ∙ sym (length_push ds b) in
          let on = got _ _ (ap Some w.1) s.2 in
          rw append_assoc at (slot_sound bs role (ds ++ (b ∷ [])) (n * 10 + (b - 48)) (k + 1) a (c + 1) v
          (digits_push 3 ds b q g.0 g.1 (omega arith)) value count (omega (arith, length_push ds b)) on)
      | inr w ↦
          let p = passed (eqb b 32) (after_slot role n) s.0 w in
          let on = ap (λ (z : ℕ). read s.0 (z + 1) bs) (sym m) ∙ s.2 in
          subst (λ z. SlotRest role a (ds ++ (z ∷ bs)) v) (sym (eqb-true b 32 p.0))
          (SlotRest.goes_on bs s.0 (record { number = q; value = e }) p.1 on)
    ]

-- where one has to begin
gap_sound : (role : Role) (a : ℕ) {xs : List ℕ} {v : Line} → read (Gap role) a xs ≡ Ok v → SlotRest role a xs v
gap_sound role a {xs} {v} h = by xs h
  where
    by : (xs : List ℕ) → read (Gap role) a xs ≡ Ok v → SlotRest role a xs v
    by [] h = err_ok v a h
    by (b ∷ bs) h =
        let s = first_step stepped ended (Gap role) a b bs v h in
        let p = passed (is_digit b) (Some (Slot role (b - 48) 1)) s.0 s.1 in
        let g = digit_tells b true (ap (λ z. z && true) p.0) in
        let one = one_digit b 3 g.0 g.1 (omega arith) in
        slot_sound bs role (b ∷ []) (b - 48) 1 a (a + 1) v one (omega arith) refl refl (got _ _ p.1 s.2)

-- ── keywords ──

-- what follows where a keyword has begun, with what has been read of it
record KeywordRest (P : Keyword → Type 0) (a : ℕ) (xs : List ℕ) (v : Line) : Type 0 where
  keyword : Keyword
  rest : List ℕ
  good : P keyword
  is : xs ≡ keyword_text keyword ++ rest
  reads : read (after_keyword keyword) (a + length (keyword_text keyword)) rest ≡ Ok v

-- the third letter leaves the first two as they are
same_two : (w : Keyword) (b : ℕ) → take 2 (keyword_text (by_third w b)) ≡ take 2 (keyword_text w)
same_two (Worded form) b = refl
same_two LiftWord b = either (λ z. take 2 (keyword_text z) ≡ take 2 (codes "lift ")) (eqb b 115) refl refl
same_two BetweenWord b = refl
same_two CarryWord b = either (λ z. take 2 (keyword_text z) ≡ take 2 (codes "carry ")) (eqb b 108) refl refl
same_two ListWord b = refl
same_two (UnitWord first second unit) b = refl

-- no keyword ends with them
form_long : (form : Form) → 2 < length (form_text form)
form_long OfMark = omega arith
form_long OfSpan = omega arith
form_long OfZone = omega arith
form_long OfCalendar = omega arith

unit_long : (unit : AnyUnit) → 2 < length (unit_word unit ++ (32 ∷ []))
unit_long Year = omega arith
unit_long Month = omega arith
unit_long Week = omega arith
unit_long Day = omega arith
unit_long Hour = omega arith

long : (w : Keyword) → 2 < length (keyword_text w)
long (Worded form) = form_long form
long LiftWord = omega arith
long BetweenWord = omega arith
long CarryWord = omega arith
long ListWord = omega arith
long (UnitWord first second unit) = unit_long unit

-- the letters of a keyword that have been read, and what follows
abbrev with_letters : Keyword → ℕ → List ℕ → List ℕ
with_letters w k xs = take k (keyword_text w) ++ xs

-- one letter more
one_letter : (w : Keyword) (k b : ℕ) (bs : List ℕ) → k < length (keyword_text w) → b ≡ keyword_byte w k
    → with_letters w (k + 1) bs ≡ with_letters w k (b ∷ bs)
one_letter w k b bs l e =
    ap (λ (z : List ℕ). z ++ bs) (take_more (keyword_text w) k 32 l)
    ∙ (append_assoc (take k (keyword_text w)) (keyword_byte w k ∷ []) bs ∙ ap (λ z. with_letters w k (z ∷ bs)) (sym e))

-- the keyword stays what it is, but for a third letter that tells another one
record Told (P : Keyword → Type 0) (w : Keyword) (k : ℕ) (u : Keyword) : Type 0 where
  good : P u
  long : k < length (keyword_text u)
  same : take k (keyword_text u) ≡ take k (keyword_text w)

module _ (P : Keyword → Type 0) (kept : (w : Keyword) (b : ℕ) → P w → P (by_third w b)) (v : Line) where
  -- one letter, and what follows it
  letter : (w : Keyword) (k a c b : ℕ) (bs : List ℕ) (t : Progress) → P w → k < length (keyword_text w) → c ≡ a + k
      → (k + 1 < length (keyword_text w) → read (Letters w (k + 1)) (c + 1) bs ≡ Ok v → KeywordRest P a (with_letters w (k + 1) bs) v)
      → in_keyword w k b ≡ Some t → read t (c + 1) bs ≡ Ok v → KeywordRest P a (with_letters w k (b ∷ bs)) v
  letter w k a c b bs t p l m next e h =
      let g = passed (eqb b (keyword_byte w k)) _ t e in
      let is = one_letter w k b bs l (eqb-true b (keyword_byte w k) g.0) in
      subst (λ z. KeywordRest P a z v) is (elim (cases_lt (k + 1) (length (keyword_text w))) [
        | inl u ↦
            let to : Some (Letters w (k + 1)) ≡ Some t = sym (rw (lt-ltb _ _ u) refl) ∙ g.1 in
            next u (got _ _ to h)
        | inr u ↦
            let to : Some (after_keyword w) ≡ Some t = sym (rw (le-ltb _ _ u) refl) ∙ g.1 in
            let at : c + 1 ≡ a + length (keyword_text w) = omega arith in
            record {
              keyword = w;
              rest = bs;
              good = p;
              is = ap (λ (z : List ℕ). z ++ bs) (take_all (k + 1) (keyword_text w) u);
              reads = ap (λ z. read (after_keyword w) z bs) (sym at) ∙ got _ _ to h;
            }
      ])

  told : (w : Keyword) (k b : ℕ) → P w → k < length (keyword_text w) → (x : Bool) → eqb k 2 ≡ x → Told P w k (cond x (by_third w b) w)
  told w k b p l true e =
      let two = eqb-true k 2 e in
      let same : take k (keyword_text (by_third w b)) ≡ take k (keyword_text w) = rw two (same_two w b) in
      record { good = kept w b p; long = omega (arith, long (by_third w b)); same = same }
  told w k b p l false e = record { good = p; long = l; same = refl }

  letters_sound : (xs : List ℕ) (w : Keyword) (k a c : ℕ) → P w → k < length (keyword_text w) → c ≡ a + k
      → read (Letters w k) c xs ≡ Ok v → KeywordRest P a (with_letters w k xs) v
  letters_sound [] w k a c p l m h = err_ok v c h
  letters_sound (b ∷ bs) w k a c p l m h =
      let s = first_step stepped ended (Letters w k) c b bs v h in
      let u : Keyword = cond (eqb k 2) (by_third w b) w in
      let y = told w k b p l (eqb k 2) refl in
      subst (λ z. KeywordRest P a (z ++ (b ∷ bs)) v) y.same
      (letter u k a c b bs s.0 y.good y.long m (λ n r. letters_sound bs u (k + 1) a (c + 1) y.good n (omega arith) r) s.1 s.2)

  -- from its first letter on
  first_sound : (w : Keyword) (a b : ℕ) (bs : List ℕ) (t : Progress) → P w
      → in_keyword w 0 b ≡ Some t → read t (a + 1) bs ≡ Ok v → KeywordRest P a (b ∷ bs) v
  first_sound w a b bs t p e h =
      letter w 0 a a b bs t p (omega (arith, long w)) (omega arith) (λ n r. letters_sound bs w 1 a (a + 1) p n refl r) e h

-- the command of a line
abbrev IsCommand : Keyword → Type 0
IsCommand (Worded form) = Unit {0}
IsCommand LiftWord = Unit {0}
IsCommand BetweenWord = Unit {0}
IsCommand CarryWord = Unit {0}
IsCommand ListWord = Unit {0}
IsCommand (UnitWord first second unit) = ⊥

stays_command : (w : Keyword) (b : ℕ) → IsCommand w → IsCommand (by_third w b)
stays_command (Worded form) b p = tt
stays_command LiftWord b p = either IsCommand (eqb b 115) tt tt
stays_command BetweenWord b p = tt
stays_command CarryWord b p = either IsCommand (eqb b 108) tt tt
stays_command ListWord b p = tt
stays_command (UnitWord first second unit) b p = p

first_command : (b : ℕ) → IsCommand (command_by b)
first_command b =
    either IsCommand (eqb b 109) tt
    (either IsCommand (eqb b 115) tt
    (either IsCommand (eqb b 122) tt (either IsCommand (eqb b 108) tt (either IsCommand (eqb b 98) tt tt))))

command_sound : (xs : List ℕ) (v : Line) → read Start 0 xs ≡ Ok v → KeywordRest IsCommand 0 xs v
command_sound [] v h = err_ok v 0 h
command_sound (b ∷ bs) v h =
    let s = first_step stepped ended Start 0 b bs v h in
    first_sound IsCommand stays_command v (command_by b) 0 b bs s.0 (first_command b) s.1 s.2

-- the word of a unit
abbrev IsUnit : ℕ → ℕ → Keyword → Type 0
IsUnit first second w = (unit : AnyUnit) × (w ≡ UnitWord first second unit)

stays_unit : (first second : ℕ) (w : Keyword) (b : ℕ) → IsUnit first second w → IsUnit first second (by_third w b)
stays_unit first second w b (unit, e) = (unit, ap (λ z. by_third z b) e)

-- what follows where a unit has to begin
record UnitRest (first second a : ℕ) (xs : List ℕ) (v : Line) : Type 0 where
  unit : AnyUnit
  rest : List ℕ
  is : xs ≡ unit_word unit ++ (32 ∷ rest)
  measured : SlotRest (Measured first second unit) (a + length (unit_word unit ++ (32 ∷ []))) rest v

unit_sound : (first second a : ℕ) (xs : List ℕ) (v : Line) → read (UnitStart first second) a xs ≡ Ok v → UnitRest first second a xs v
unit_sound first second a [] v h = err_ok v a h
unit_sound first second a (b ∷ bs) v h =
    let s = first_step stepped ended (UnitStart first second) a b bs v h in
    let w = UnitWord first second (unit_by b) in
    let r = first_sound (IsUnit first second) (stays_unit first second) v w a b bs s.0 (unit_by b, refl) s.1 s.2 in
    by r.keyword r.rest r.good r.is r.reads
  where
    by : (w : Keyword) (rest : List ℕ) → IsUnit first second w → b ∷ bs ≡ keyword_text w ++ rest
        → read (after_keyword w) (a + length (keyword_text w)) rest ≡ Ok v → UnitRest first second a (b ∷ bs) v
    by w rest (unit, e) is reads = record {
      unit = unit;
      rest = rest;
      is = is ∙ (ap (λ z. keyword_text z ++ rest) e ∙ append_assoc (unit_word unit) (32 ∷ []) rest);
      measured =
          gap_sound (Measured first second unit) _ (subst (λ z. read (after_keyword z) (a + length (keyword_text z)) rest ≡ Ok v) e reads);
    }

-- ── the forms ──

is_form : (form : Form) {line : List ℕ} {slot place : ℕ} → WordLine (form_text form) line slot place
    → IsLine line (form_line form slot place)
is_form OfMark h = IsLine.mark h
is_form OfSpan h = IsLine.span h
is_form OfZone h = IsLine.zone h
is_form OfCalendar h = IsLine.calendar h

form_sound : (form : Form) {xs : List ℕ} {v : Line} → SlotRest (BeforeWord form) (length (form_text form)) xs v
    → IsLine (form_text form ++ xs) v
form_sound form (SlotRest.ends q e) = none_some _ e
form_sound form {v = v} (SlotRest.goes_on {digits} {n} more t q e h) =
    let r = word_sound more form n (length (form_text form) + length digits + 1) v (got _ _ e h) in
    let line = is_form form (record { digits = digits; text = more; is = refl; number = q; word = r.0; begins = refl }) in
    subst (IsLine (form_text form ++ (digits ++ (32 ∷ more)))) r.1 line

said : {line : List ℕ} {l v : Line} → IsLine line l → Some l ≡ Some v → IsLine line v
said {line} {l} {v} h e = let same : l ≡ v = cc in subst (IsLine line) same h

lift_sound : {a : ℕ} {xs : List ℕ} {v : Line} → SlotRest Lifted a xs v → IsLine (codes "lift " ++ xs) v
lift_sound (SlotRest.ends q e) = said (IsLine.lift q) e
lift_sound (SlotRest.goes_on more t q e h) = none_some t e

target_sound : {a first span : ℕ} {x y xs : List ℕ} {v : Line} → SlotText x first → SlotText y span → SlotRest (Target first span) a xs v
    → IsLine (codes "carry " ++ (x ++ (32 ∷ (y ++ (32 ∷ xs))))) v
target_sound x y (SlotRest.ends q e) = said (IsLine.carry x y q) e
target_sound x y (SlotRest.goes_on more t q e h) = none_some t e

carried_by : {a first : ℕ} {x xs : List ℕ} {v : Line} → SlotText x first → SlotRest (CarriedBy first) a xs v
    → IsLine (codes "carry " ++ (x ++ (32 ∷ xs))) v
carried_by x (SlotRest.ends q e) = none_some _ e
carried_by x (SlotRest.goes_on more t q e h) = target_sound x q (gap_sound _ _ (got _ _ e h))

carry_sound : {a : ℕ} {xs : List ℕ} {v : Line} → SlotRest Carried a xs v → IsLine (codes "carry " ++ xs) v
carry_sound (SlotRest.ends q e) = none_some _ e
carry_sound (SlotRest.goes_on more t q e h) = carried_by q (gap_sound _ _ (got _ _ e h))

measured_sound : {a first second : ℕ} {x y xs : List ℕ} {v : Line} (unit : AnyUnit)
    → SlotText x first → SlotText y second → SlotRest (Measured first second unit) a xs v
    → IsLine (codes "between " ++ (x ++ (32 ∷ (y ++ (32 ∷ (unit_word unit ++ (32 ∷ xs))))))) v
measured_sound unit x y (SlotRest.ends q e) = said (IsLine.between unit x y q) e
measured_sound unit x y (SlotRest.goes_on more t q e h) = none_some t e

second_sound : {a first : ℕ} {x xs : List ℕ} {v : Line} → SlotText x first → SlotRest (Second first) a xs v
    → IsLine (codes "between " ++ (x ++ (32 ∷ xs))) v
second_sound x (SlotRest.ends q e) = none_some _ e
second_sound {a} {first} {x = ds} {v = v} x (SlotRest.goes_on {digits} more t q e h) =
    let r = unit_sound _ _ _ more v (got _ _ e h) in
    let line = measured_sound r.unit x q r.measured in
    subst (λ z. IsLine (codes "between " ++ (ds ++ (32 ∷ (digits ++ (32 ∷ z))))) v) (sym r.is) line

between_sound : {a : ℕ} {xs : List ℕ} {v : Line} → SlotRest First a xs v → IsLine (codes "between " ++ xs) v
between_sound (SlotRest.ends q e) = none_some _ e
between_sound (SlotRest.goes_on more t q e h) = second_sound q (gap_sound _ _ (got _ _ e h))

list_sound : (xs : List ℕ) (v : Line) → read Listed 4 xs ≡ Ok v → IsLine (codes "list" ++ xs) v
list_sound [] v h = said IsLine.list (at_end (ended Listed) 4 v h)
list_sound (b ∷ bs) v h = err_ok v 4 h

by_keyword : (w : Keyword) (xs : List ℕ) (v : Line) → IsCommand w → read (after_keyword w) (length (keyword_text w)) xs ≡ Ok v
    → IsLine (keyword_text w ++ xs) v
by_keyword (Worded form) xs v p h = form_sound form (gap_sound _ _ h)
by_keyword LiftWord xs v p h = lift_sound (gap_sound _ _ h)
by_keyword BetweenWord xs v p h = between_sound (gap_sound _ _ h)
by_keyword CarryWord xs v p h = carry_sound (gap_sound _ _ h)
by_keyword ListWord xs v p h = list_sound xs v h
by_keyword (UnitWord first second unit) xs v p h = absurd p

pub sound : (line : List ℕ) (v : Line) → read Start 0 line ≡ Ok v → IsLine line v
sound line v h =
    let r = command_sound line v h in
    let at : 0 + length (keyword_text r.keyword) ≡ length (keyword_text r.keyword) = omega arith in
    let reads = subst (λ z. read (after_keyword r.keyword) z r.rest ≡ Ok v) at r.reads in
    subst (λ z. IsLine z v) (sym r.is) (by_keyword r.keyword r.rest v r.good reads)
