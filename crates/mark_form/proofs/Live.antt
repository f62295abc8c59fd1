-- Every progress can be read on to the end of a text.
use Rattle.std.proofs.Common.{◌≡◌, ℕ, zero, suc, ◌+◌, ◌<◌, ◌≤◌, Bool, true, false, ltb, leb, List, [], ◌∷◌, length, get_or, Some, None, Ok, Option, sym, refl, ◌∙◌, subst, inl, inr, arith}
use Rattle.std.proofs.lemmas.Bool.{cases_lt, cases_eq, le-leb, lt-leb, lt-ltb}
use Rattle.std.proofs.lemmas.Bool.Decides.{nat_tests}
use Rattle.reading.specs.Reading.{read_on}
use Rattle.reading.proofs.Machines.{go}
use Rattle.mark_form.specs.declared.layout.Layout.{Layout}
use Rattle.mark_form.specs.declared.layout.Tag.{Tag}
use Rattle.mark_form.specs.declared.stage.Form.{Form}
use Rattle.mark_form.specs.declared.stage.Form.TheVariants.{Clock, Offset, Seconds}
use Rattle.mark_form.specs.declared.stage.Progress.{Progress}
use Rattle.mark_form.specs.declared.stage.Stage.{Stage}
use Rattle.mark_form.specs.declared.stage.Stage.TheVariants.{Fixed, Fraction, Utc, Zone, Name, Between, Open, Key, Equals, Joined, Run}
use Rattle.mark_form.specs.Bytes.{stands}
use Rattle.mark_form.specs.Scanning.{form_text, progress, with_sign, with_name, with_tag, keyed, stepped, ended}

-- wherever it is reached, some text takes it to an end
abbrev pub Lives : Progress → Type 0
Lives s = (a : ℕ) → (w : List ℕ) × ((v : Layout) × (read_on stepped ended s a w ≡ Ok v))

-- by one byte
by_byte : (s : Progress) (t : ℕ → Progress) (b : ℕ) → ((a : ℕ) → stepped s a b ≡ Some (t a)) → ((a : ℕ) → Lives (t a)) → Lives s
by_byte s t b e l a = let r = l a (a + 1) in (b ∷ r.0, (r.1.0, go stepped ended s (t a) a b r.0 (e a) ∙ r.1.1))

-- a tag may begin: the text may end
between : (l : Layout) → Lives (progress Between l)
between l a = ([], (l, refl))

-- in a run of a value: a `]` ends it
run : (t : Tag) (start : ℕ) (l : Layout) → Lives (progress (Run t start) l)
run t start l = by_byte (progress (Run t start) l) (λ a. progress Between (with_tag l t start a)) 93 (λ a. refl) (λ a. between (with_tag l t start a))

-- a run has to begin: a digit begins it
joined : (t : Tag) (start : ℕ) (l : Layout) → Lives (progress (Joined t start) l)
joined t start l = by_byte (progress (Joined t start) l) (λ a. progress (Run t start) l) 48 (λ a. refl) (λ a. run t start l)

-- a value has to begin: a digit begins it
equals : (t : Tag) (l : Layout) → Lives (progress (Equals t) l)
equals t l = by_byte (progress (Equals t) l) (λ a. progress (Run t a) l) 48 (λ a. refl) (λ a. run t a l)

-- in a key: a `=` ends it
key : (o : ℕ) (c : Bool) (k : Option ℕ) (l : Layout) → Lives (progress (Key o c k) l)
key o c k l = by_byte (progress (Key o c k) l) (λ a. progress (Equals (keyed o c k)) l) 61 (λ a. refl) (λ a. equals (keyed o c k) l)

-- a tag has been opened: `a` begins a key
opens : (o : ℕ) (c : Bool) (l : Layout) → Lives (progress (Open o c) l)
opens o c l = by_byte (progress (Open o c) l) (λ a. progress (Key o c None) l) 97 (λ a. refl) (λ a. key o c None l)

-- in a zone's name: a `]` ends it
name : (from : ℕ) (l : Layout) → Lives (progress (Name from) l)
name from l = by_byte (progress (Name from) l) (λ a. progress Between (with_name l from a)) 93 (λ a. refl) (λ a. between (with_name l from a))

-- the zone has been opened: `a` begins a name
zone : (c : Bool) (l : Layout) → Lives (progress (Zone c) l)
zone c l = by_byte (progress (Zone c) l) (λ a. progress (Name a) l) 97 (λ a. refl) (λ a. name a l)

-- after `Z`: a `[` opens the zone
utc : (l : Layout) → Lives (progress Utc l)
utc l = by_byte (progress Utc l) (λ a. progress (Zone false) l) 91 (λ a. refl) (λ a. zone false l)

-- after a digit of a fraction: `Z` ends it
some_digits : (k : ℕ) (l : Layout) → 0 < k → Lives (progress (Fraction k) l)
some_digits k l h = by_byte (progress (Fraction k) l) (λ a. progress Utc (with_sign l a)) 90 (λ a. let e : ltb 0 k ≡ true = lt-ltb 0 k h in rw e refl) (λ a. utc (with_sign l a))

-- in a fraction: if there is no digit yet, one can follow
fraction : (k : ℕ) (l : Layout) → Lives (progress (Fraction k) l)
fraction k l = elim (cases_eq k 0) [
  | inl e ↦ subst (λ n. Lives (progress (Fraction n) l)) (sym e) (by_byte (progress (Fraction 0) l) (λ a. progress (Fraction 1) l) 48 (λ a. refl) (λ a. some_digits 1 l (omega arith)))
  | inr n ↦ some_digits k l (omega arith)
]

-- after a whole form
whole : (f : Form) (k : ℕ) (l : Layout) → leb (length (form_text f)) k ≡ true → Lives (progress (Fixed f k) l)
whole Clock k l e = by_byte (progress (Fixed Clock k) l) (λ a. progress Utc (with_sign l a)) 90 (λ a. rw e refl) (λ a. utc (with_sign l a))
whole Offset k l e = by_byte (progress (Fixed Offset k) l) (λ a. progress (Zone false) l) 91 (λ a. rw e refl) (λ a. zone false l)
whole Seconds k l e = by_byte (progress (Fixed Seconds k) l) (λ a. progress (Zone false) l) 91 (λ a. rw e refl) (λ a. zone false l)

-- each byte of a form stands for itself
stands_itself : (c : ℕ) → stands c c ≡ true
stands_itself c = grind (arith, nat_tests)

-- in a form: what is left of it can follow, at most so many bytes
form : (n : ℕ) (f : Form) (k : ℕ) (l : Layout) → length (form_text f) ≤ k + n → Lives (progress (Fixed f k) l)
form zero f k l h = whole f k l (le-leb (length (form_text f)) k (omega arith))
form (suc n) f k l h = elim (cases_lt k (length (form_text f))) [
  | inl g ↦ by_byte (progress (Fixed f k) l) (λ a. progress (Fixed f (k + 1)) l) (get_or (form_text f) k 0)
      (λ a. let e : leb (length (form_text f)) k ≡ false = lt-leb (length (form_text f)) k g in rw (e, stands_itself (get_or (form_text f) k 0)) refl)
      (λ a. form n f (k + 1) l (omega arith))
  | inr g ↦ whole f k l (le-leb (length (form_text f)) k g)
]

-- by the stage
at_stage : (g : Stage) (l : Layout) → Lives (progress g l)
at_stage (Fixed f k) l = form (length (form_text f)) f k l (omega arith)
at_stage (Fraction k) l = fraction k l
at_stage Utc l = utc l
at_stage (Zone c) l = zone c l
at_stage (Name from) l = name from l
at_stage Between l = between l
at_stage (Open o c) l = opens o c l
at_stage (Key o c k) l = key o c k l
at_stage (Equals t) l = equals t l
at_stage (Joined t start) l = joined t start l
at_stage (Run t start) l = run t start l

-- every progress lives
pub live : (s : Progress) → Lives s
live s = at_stage s.stage s.seen
