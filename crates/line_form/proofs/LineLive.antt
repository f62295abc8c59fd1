-- Every progress can be read on to the end of a line.
use Rattle.std.proofs.Common.{◌≡◌, ℕ, zero, suc, ◌+◌, ◌≤◌, Bool, true, false, cond, eqb, ltb, List, [], ◌∷◌, length, Some, Ok, codes, refl, ap, ◌∙◌, inl, inr, arith}
use Rattle.std.proofs.lemmas.Bool.{cases_lt, eqb-true, lt-ltb, le-ltb}
use Rattle.std.proofs.lemmas.Bool.Decides.{nat_tests}
use Rattle.reading.specs.Reading.{read_on}
use Rattle.reading.proofs.Machines.{go}
use Rattle.line_form.specs.declared.keyword.Keyword.{Keyword}
use Rattle.line_form.specs.declared.keyword.Keyword.TheVariants.{Worded, Lift, Between, Carry, List as ListWord, UnitWord}
use Rattle.line_form.specs.declared.line.Line.{Line}
use Rattle.line_form.specs.declared.progress.Progress.{Progress}
use Rattle.line_form.specs.declared.progress.Progress.TheVariants.{Start, Letters, UnitStart, Gap, Slot, Space, Text, Listed}
use Rattle.line_form.specs.declared.progress.Role.{Role}
use Rattle.line_form.specs.declared.progress.Role.TheVariants.{BeforeWord, Lifted, First, Second, Measured, Carried, CarriedBy, Target}
use Rattle.line_form.specs.Keywords.{keyword_text, keyword_byte, by_third}
use Rattle.line_form.specs.Scanning.{after_keyword, in_keyword, stepped, ended}

-- wherever it is reached, some bytes take it to a line
abbrev pub Lives : Progress → Type 0
Lives s = (a : ℕ) → (w : List ℕ) × ((v : Line) × (read_on stepped ended s a w ≡ Ok v))

-- a slot has to begin
gap : (role : Role) → Lives (Gap role)
gap (BeforeWord form) a = (codes "0 x", (_, refl))
gap Lifted a = (codes "0", (_, refl))
gap First a = (codes "0 0 day 0", (_, refl))
gap (Second first) a = (codes "0 day 0", (_, refl))
gap (Measured first second unit) a = (codes "0", (_, refl))
gap Carried a = (codes "0 0 0", (_, refl))
gap (CarriedBy first) a = (codes "0 0", (_, refl))
gap (Target first span) a = (codes "0", (_, refl))

-- in a slot
slot : (role : Role) (n k : ℕ) → Lives (Slot role n k)
slot (BeforeWord form) n k a = (codes " x", (_, refl))
slot Lifted n k a = ([], (_, refl))
slot First n k a = (codes " 0 day 0", (_, refl))
slot (Second first) n k a = (codes " day 0", (_, refl))
slot (Measured first second unit) n k a = ([], (_, refl))
slot Carried n k a = (codes " 0 0", (_, refl))
slot (CarriedBy first) n k a = (codes " 0", (_, refl))
slot (Target first span) n k a = ([], (_, refl))

-- after a keyword
after : (w : Keyword) → Lives (after_keyword w)
after (Worded form) = gap (BeforeWord form)
after Lift = gap Lifted
after Between = gap First
after Carry = gap Carried
after ListWord = λ a. ([], (_, refl))
after (UnitWord first second unit) = gap (Measured first second unit)

-- its own third letter leaves a keyword as it is
own_third : (w : Keyword) → by_third w (keyword_byte w 2) ≡ w
own_third (Worded form) = refl
own_third Lift = refl
own_third Between = refl
own_third Carry = refl
own_third ListWord = refl
own_third (UnitWord first second unit) = refl

-- and so does each letter of its own
own : (w : Keyword) (k : ℕ) → cond (eqb k 2) (by_third w (keyword_byte w k)) w ≡ w
own w k = by (eqb k 2) refl
  where
    by : (x : Bool) → eqb k 2 ≡ x → cond x (by_third w (keyword_byte w k)) w ≡ w
    by true e = ap (λ (z : ℕ). by_third w (keyword_byte w z)) (eqb-true k 2 e) ∙ own_third w
    by false e = refl

-- the next byte of a keyword takes it on
next : Keyword → ℕ → Progress
next w k = cond (ltb (k + 1) (length (keyword_text w))) (Letters w (k + 1)) (after_keyword w)

same_byte : (b : ℕ) → eqb b b ≡ true
same_byte b = grind (arith, nat_tests)

own_byte : (w : Keyword) (k a : ℕ) → stepped (Letters w k) a (keyword_byte w k) ≡ Some (next w k)
unfolding next
own_byte w k a = ap (λ (z : Keyword). in_keyword z k (keyword_byte w k)) (own w k) ∙ rw (same_byte (keyword_byte w k)) refl

on : (w : Keyword) (k : ℕ) → Lives (next w k) → Lives (Letters w k)
on w k l a =
    let r = l (a + 1) in
    let b : ℕ = keyword_byte w k in
    (b ∷ r.0, (r.1.0, go stepped ended (Letters w k) (next w k) a b r.0 (own_byte w k a) ∙ r.1.1))

-- in a keyword, of which at most n bytes are left
letters : (n : ℕ) (w : Keyword) (k : ℕ) → length (keyword_text w) ≤ k + n → Lives (Letters w k)
unfolding next
letters zero w k h =
    let e : ltb (k + 1) (length (keyword_text w)) ≡ false = le-ltb _ _ (omega arith) in
    on w k (rw e (after w))
letters (suc n) w k h = elim (cases_lt (k + 1) (length (keyword_text w))) [
  | inl l ↦ let e : ltb (k + 1) (length (keyword_text w)) ≡ true = lt-ltb _ _ l in on w k (rw e (letters n w (k + 1) (omega arith)))
  | inr l ↦ let e : ltb (k + 1) (length (keyword_text w)) ≡ false = le-ltb _ _ l in on w k (rw e (after w))
]

pub live : (s : Progress) → Lives s
live Start a = (codes "list", (_, refl))
live (Letters w k) a = letters (length (keyword_text w)) w k (omega arith) a
live (UnitStart first second) a = (codes "day 0", (_, refl))
live (Gap role) a = gap role a
live (Slot role n k) a = slot role n k a
live (Space form n) a = (codes "x", (_, refl))
live (Text line) a = ([], (_, refl))
live Listed a = ([], (_, refl))
