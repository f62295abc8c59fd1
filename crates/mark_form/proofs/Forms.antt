-- Forms of digits and marks, byte by byte, and the numbers that stand in them.
use Rattle.std.proofs.Common.{◌≡◌, ℕ, zero, suc, Bool, true, false, cond, ◌||◌, eqb, List, [], ◌∷◌, ◌++◌, length, codes, Option, sym, refl, ap, ◌∙◌, subst, inl, inr, append_assoc, append-nil, arith}
use Rattle.std.proofs.lemmas.Bool.{cases_Bool, or_cases, both_ways, eqb-true}
use Rattle.std.proofs.lemmas.Slice.Eq.{bytes_eq-Decides}
use Rattle.std.specs.Str.{bytes_eq}
use Rattle.reading.specs.Digits.{value_on, AllDigits}
use Rattle.names.proofs.NameAnswers.{between, is_between}
use Rattle.mark_form.specs.declared.draft.Draft.{Draft}
use Rattle.mark_form.specs.declared.draft.Said.{Said}
use Rattle.mark_form.specs.declared.layout.Part.{Part}
use Rattle.mark_form.specs.declared.layout.Tags.{Tags}
use Rattle.mark_form.specs.Bytes.{stands}
use Rattle.mark_form.specs.Grammar.{Number, ClockText, Sign, OffsetText}

-- a text in a form
abbrev pub Fits : List ℕ → List ℕ → Type 0
Fits [] [] = Unit {0}
Fits [] (b ∷ bs) = ⊥
Fits (k ∷ ks) [] = ⊥
Fits (k ∷ ks) (b ∷ bs) = (stands k b ≡ true) × Fits ks bs

-- a text in a form is as long as the form
pub fits_length : (ks xs : List ℕ) → Fits ks xs → length xs ≡ length ks
fits_length [] [] h = refl
fits_length [] (x ∷ xs) h = absurd h
fits_length (k ∷ ks) [] h = absurd h
fits_length (k ∷ ks) (x ∷ xs) h = ap suc (fits_length ks xs h.1)

-- so many digits, and then a form
abbrev digits_then : ℕ → List ℕ → List ℕ
digits_then zero ks = ks
digits_then (suc n) ks = 48 ∷ digits_then n ks

-- ── numbers fit their forms ──

number_fits : (n : ℕ) (ds ks xs : List ℕ) → AllDigits ds → length ds ≡ n → Fits ks xs → Fits (digits_then n ks) (ds ++ xs)
number_fits zero [] ks xs h e f = f
number_fits zero (b ∷ bs) ks xs h e f = absurd (omega arith)
number_fits (suc n) [] ks xs h e f = absurd (omega arith)
number_fits (suc n) (b ∷ bs) ks xs h e f = (is_between 48 57 b (h.0, h.1), number_fits n bs ks xs h.2 (omega arith) f)

-- a number, and then a form
before : {m n : ℕ} {ds : List ℕ} (ks xs : List ℕ) → Number m ds n → Fits ks xs → Fits (digits_then m ks) (ds ++ xs)
before {m} {ds} ks xs h f = number_fits m ds ks xs h.all h.long f

-- a number alone
pub alone : {m n : ℕ} {ds : List ℕ} → Number m ds n → Fits (digits_then m []) ds
alone {m} {ds} h = subst (Fits (digits_then m [])) (append-nil ds) (before [] [] h tt)

-- `hh:mm`
pub pair_fits : {h m : ℕ} {hh mm : List ℕ} → Number 2 hh h → Number 2 mm m → Fits (codes "00:00") (hh ++ (58 ∷ mm))
pair_fits {mm} h m = before (codes ":00") (58 ∷ mm) h (refl, alone m)

pub clock_fits : (x : List ℕ) (d : Draft) → ClockText x d → Fits (codes "0000-00-00T00:00:00") x
clock_fits x d c =
    subst (Fits (codes "0000-00-00T00:00:00")) (sym c.is)
    (before (codes "-00-00T00:00:00") _ c.year_text (
      refl,
      before (codes "-00T00:00:00") _ c.month_text (
        refl,
        before (codes "T00:00:00") _ c.day_text
            (refl, before (codes ":00:00") _ c.hour_text (refl, before (codes ":00") _ c.minute_text (refl, alone c.second_text))),
      ),
    ))

pub clock_length : (x : List ℕ) (d : Draft) → ClockText x d → length x ≡ 19
clock_length x d c = fits_length (codes "0000-00-00T00:00:00") x (clock_fits x d c)

-- ── and what fits a form is numbers ──

-- digits at the beginning, a mark, and what follows
pub record Front (count mark : ℕ) (ks xs : List ℕ) : Type 0 where
  pub digits : List ℕ
  pub rest : List ℕ
  is : xs ≡ digits ++ (mark ∷ rest)
  number : Number count digits (value_on 0 digits)
  fits : Fits ks rest

number_more : {n : ℕ} {ds : List ℕ} (b : ℕ) → stands 48 b ≡ true → Number n ds (value_on 0 ds) → Number (suc n) (b ∷ ds) (value_on 0 (b ∷ ds))
number_more b h r = let d = between 48 57 b h in record { all = (d.0, d.1, r.all); long = ap suc r.long; is = refl }

front : (n mark : ℕ) (ks xs : List ℕ) → eqb mark 48 ≡ false → Fits (digits_then n (mark ∷ ks)) xs → Front n mark ks xs
front zero mark ks [] e h = absurd h
front zero mark ks (b ∷ bs) e h = record {
  digits = [];
  rest = bs;
  is = ap (λ z. z ∷ bs) (eqb-true b mark (subst (λ z. cond z (stands 48 b) (eqb b mark) ≡ true) e h.0));
  number = record { all = tt; long = refl; is = refl };
  fits = h.1;
}
front (suc n) mark ks [] e h = absurd h
front (suc n) mark ks (b ∷ bs) e h =
    let r = front n mark ks bs e h.1 in
    record { digits = b ∷ r.digits; rest = r.rest; is = ap (λ z. b ∷ z) r.is; number = number_more b h.0 r.number; fits = r.fits }

-- digits to the end
pub number_of : (n : ℕ) (xs : List ℕ) → Fits (digits_then n []) xs → Number n xs (value_on 0 xs)
number_of zero [] h = record { all = tt; long = refl; is = refl }
number_of zero (b ∷ bs) h = absurd h
number_of (suc n) [] h = absurd h
number_of (suc n) (b ∷ bs) h = number_more b h.0 (number_of n bs h.1)

-- the numbers of a clock text
pub record Clocked (x : List ℕ) : Type 0 where
  pub year : Front 4 45 (codes "00-00T00:00:00") x
  pub month : Front 2 45 (codes "00T00:00:00") year.rest
  pub day : Front 2 84 (codes "00:00:00") month.rest
  pub hour : Front 2 58 (codes "00:00") day.rest
  pub minute : Front 2 58 (codes "00") hour.rest
  pub second : Number 2 minute.rest (value_on 0 minute.rest)

pub clock_of : (x : List ℕ) → Fits (codes "0000-00-00T00:00:00") x → Clocked x
clock_of x h =
    let y = front 4 45 (codes "00-00T00:00:00") x refl h in
    let m = front 2 45 (codes "00T00:00:00") y.rest refl y.fits in
    let d = front 2 84 (codes "00:00:00") m.rest refl m.fits in
    let n = front 2 58 (codes "00:00") d.rest refl d.fits in
    let o = front 2 58 (codes "00") n.rest refl n.fits in
    record { year = y; month = m; day = d; hour = n; minute = o; second = number_of 2 o.rest o.fits }

-- what a text says with such a clock text
abbrev pub clocked : {x : List ℕ} → Clocked x → ℕ → Option Said → Part → Tags → Draft
clocked c micros offset name tags = record {
  year = value_on 0 c.year.digits;
  month = value_on 0 c.month.digits;
  day = value_on 0 c.day.digits;
  hour = value_on 0 c.hour.digits;
  minute = value_on 0 c.minute.digits;
  second = value_on 0 c.minute.rest;
  micros = micros;
  offset = offset;
  name = name;
  tags = tags;
}

pub clocked_text : {x : List ℕ} (c : Clocked x) (micros : ℕ) (offset : Option Said) (name : Part) (tags : Tags) → ClockText x (clocked c micros offset name tags)
clocked_text c micros offset name tags =
    let y = c.year in
    let m = c.month in
    let d = c.day in
    let h = c.hour in
    let i = c.minute in
    record {
      year = y.digits;
      month = m.digits;
      day = d.digits;
      hour = h.digits;
      minute = i.digits;
      second = i.rest;
      is = y.is ∙ ap (λ z. y.digits ++ (45 ∷ z)) (m.is ∙ ap (λ z. m.digits ++ (45 ∷ z)) (d.is ∙ ap (λ z. d.digits ++ (84 ∷ z)) (h.is ∙ ap (λ z. h.digits ++ (58 ∷ z)) i.is)));
      year_text = y.number;
      month_text = m.number;
      day_text = d.number;
      hour_text = h.number;
      minute_text = i.number;
      second_text = c.second;
    }

-- `+` or `-`
pub sign_of : (c : ℕ) → (eqb c 43 || eqb c 45) ≡ true → (minus : Bool) × Sign c minus
sign_of c h = elim (or_cases (eqb c 43) (eqb c 45) h) [
  | inl e ↦ (false, subst (λ z. Sign z false) (sym (eqb-true c 43 e)) Sign.plus)
  | inr e ↦ (true, subst (λ z. Sign z true) (sym (eqb-true c 45 e)) Sign.minus)
]

pub sign_is : {c : ℕ} {minus : Bool} → Sign c minus → (eqb c 43 || eqb c 45) ≡ true
sign_is Sign.plus = refl
sign_is Sign.minus = refl

-- an offset's text, written another way
respelt : {place : ℕ} {x y : List ℕ} {said : Option Said} → x ≡ y → OffsetText place y said → (said : Option Said) × OffsetText place x said
respelt {place} {said} e h = (said, subst (λ z. OffsetText place z said) (sym e) h)

-- what an offset without seconds says
pub minutes_of : (place c : ℕ) (x : List ℕ) → (eqb c 43 || eqb c 45) ≡ true → Fits (codes "00:00") x → (said : Option Said) × OffsetText place (c ∷ x) said
minutes_of place c x g h =
    let p = front 2 58 (codes "00") x refl h in
    let s = sign_of c g in
    let same = bytes_eq-Decides (c ∷ x) (codes "-00:00") in
    elim (cases_Bool (bytes_eq (c ∷ x) (codes "-00:00"))) [
      | inl e ↦ respelt (same.0 e) OffsetText.unknown
      | inr e ↦
          let t = ap (λ z. c ∷ z) p.is in
          respelt t (OffsetText.minutes s.1 p.number (number_of 2 p.rest p.fits) (λ q. both_ways (bytes_eq (c ∷ x) (codes "-00:00")) e (same.1 (t ∙ q))))
    ]

-- what one with seconds says
pub seconds_of : (place c : ℕ) (x y : List ℕ) → (eqb c 43 || eqb c 45) ≡ true → Fits (codes "00:00") x → Fits (codes "00") y → (said : Option Said) × OffsetText place (c ∷ (x ++ (58 ∷ y))) said
seconds_of place c x y g h i =
    let p = front 2 58 (codes "00") x refl h in
    let s = sign_of c g in
    respelt (ap (λ z. c ∷ (z ++ (58 ∷ y))) p.is ∙ ap (λ z. c ∷ z) (append_assoc p.digits (58 ∷ p.rest) (58 ∷ y)))
    (OffsetText.seconds s.1 p.number (number_of 2 p.rest p.fits) (number_of 2 y i))
