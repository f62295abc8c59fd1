-- Whatever is read is a text of the grammar.
use Rattle.std.proofs.Common.{◌≡◌, ℕ, ◌+◌, ◌-◌, ◌*◌, ◌^◌, ◌<◌, ◌≤◌, Bool, true, false, cond, not, ◌&&◌, ◌||◌, eqb, ltb, leb, ◌⊎◌, List, [], ◌∷◌, ◌++◌, length, Some, None, Ok, Err, Option, Result, sym, refl, ap, ◌∙◌, subst, inl, inr, append_assoc, append-nil, arith}
use Rattle.std.proofs.lemmas.Bool.{and_parts, or_cases, eqb-true, eqb-false, not-true, ltb-true, leb-true}
use Rattle.reading.specs.Digits.{is_digit, value_on, Digits}
use Rattle.reading.specs.declared.Misread.{Misread}
use Rattle.reading.specs.Reading.{misread, read_on}
use Rattle.reading.proofs.Figures.{value_push, length_push, digits_push, one_digit, digit_tells}
use Rattle.reading.proofs.Machines.{none_some, err_ok, cond_some, first_step}
use Rattle.span_text.specs.declared.scan.Designator.{Designator}
use Rattle.span_text.specs.declared.scan.Designator.TheVariants.{Period, Years, Months, Weeks, Days, Time, Hours, Minutes, Seconds}
use Rattle.span_text.specs.declared.scan.Stage.TheVariants.{Signed, After, Number, Point, Fraction}
use Rattle.span_text.specs.declared.scan.Fields.{Fields}
use Rattle.span_text.specs.declared.scan.Progress.{Progress}
use Rattle.span_text.specs.Scanning.{rank_of, at, unsaid, start, put, put_seconds, closing, after_designator, in_number, in_point, in_fraction, opened, stepped, ended, read_fields}
use Rattle.span_text.specs.Grammar.{micros_of, Closes, Spelt, SpanText}
use Rattle.span_text.specs.Grammar.Closes.{years, months, weeks, days, hours, minutes, seconds}
use Rattle.span_text.specs.Grammar.Spelt.{plus, minus, part, time, fraction}
use Rattle.span_text.proofs.Fractions.{micros_push, micros_one}

-- what has been read in a progress
data Reads : List ℕ → Progress → Type 0 where
  at_start : Reads [] start
  at_sign : Reads (45 ∷ []) (at Signed (unsaid true))
  at_designator : {d : Designator} {p : List ℕ} {f : Fields} → Spelt d p f → Reads p (at (After d) f)
  at_number : {d : Designator} {p : List ℕ} {f : Fields} → Spelt d p f → (rank_of d ≡ 4 → ⊥) → rank_of d < 8 → (ds : List ℕ) → Digits 9 ds
      → Reads (p ++ ds) (at (Number d (value_on 0 ds) (length ds)) f)
  at_point : {d : Designator} {p : List ℕ} {f : Fields} → Spelt d p f → 5 ≤ rank_of d → rank_of d < 8 → (ds : List ℕ) → Digits 9 ds
      → Reads (p ++ (ds ++ (46 ∷ []))) (at (Point (value_on 0 ds)) f)
  at_fraction : {d : Designator} {p : List ℕ} {f : Fields} → Spelt d p f → 5 ≤ rank_of d → rank_of d < 8 → (ds fs : List ℕ) → Digits 9 ds → Digits 6 fs
      → Reads (p ++ (ds ++ (46 ∷ fs))) (at (Fraction (value_on 0 ds) (micros_of fs) (length fs)) f)

-- ── what a test that gave something says ──

peel : (b l : ℕ) (c : Bool) (d e : Designator) (o : Option Designator) → cond (eqb b l && c) (Some d) o ≡ Some e → ((l ≡ b) × (c ≡ true) × (d ≡ e)) ⊎ (o ≡ Some e)
peel b l c d e o h = elim (cond_some (eqb b l && c) d o e h) [
  | inl w ↦ let p = and_parts (eqb b l) c w.0 in inl (sym (eqb-true b l p.0), p.1, w.1)
  | inr n ↦ inr n
]

-- ── the letters that close a number ──

letter : {d e g : Designator} {l b : ℕ} → l ≡ b → e ≡ g → Closes d e l → Closes d g b
letter {d} {e} {g} {l} {b} p q c = subst (λ z. Closes d g z) p (subst (λ z. Closes d z l) q c)

minute_rank : (r : ℕ) → (eqb r 5 || eqb r 6) ≡ true → (5 ≤ r) × (r < 7)
minute_rank r h = elim (or_cases (eqb r 5) (eqb r 6) h) [
  | inl e ↦ (omega (arith, eqb-true r 5 e), omega (arith, eqb-true r 5 e))
  | inr e ↦ (omega (arith, eqb-true r 6 e), omega (arith, eqb-true r 6 e))
]

closes_from : (d e : Designator) (b : ℕ) → (rank_of d ≡ 4 → ⊥) → rank_of d < 8 → closing (rank_of d) b ≡ Some e → Closes d e b
closes_from d e b ne lt h =
    let r = rank_of d in
    elim (peel b 89 (ltb r 1) Years e _ h) [
      | inl w ↦ letter w.0 w.2 (years (ltb-true r 1 w.1))
      | inr h ↦
          elim (peel b 77 (ltb r 2) Months e _ h) [
            | inl w ↦ letter w.0 w.2 (months (ltb-true r 2 w.1))
            | inr h ↦
                elim (peel b 87 (ltb r 3) Weeks e _ h) [
                  | inl w ↦ letter w.0 w.2 (weeks (ltb-true r 3 w.1))
                  | inr h ↦
                      elim (peel b 68 (ltb r 4) Days e _ h) [
                        | inl w ↦ letter w.0 w.2 (days (ltb-true r 4 w.1))
                        | inr h ↦
                            elim (peel b 72 (eqb r 5) Hours e _ h) [
                              | inl w ↦ letter w.0 w.2 (hours (omega (arith, eqb-true r 5 w.1)) (omega (arith, eqb-true r 5 w.1)))
                              | inr h ↦
                                  elim (peel b 77 (eqb r 5 || eqb r 6) Minutes e _ h) [
                                    | inl w ↦ letter w.0 w.2 (minutes (minute_rank r w.1).0 (minute_rank r w.1).1)
                                    | inr h ↦
                                        elim (peel b 83 (leb 4 r) Seconds e _ h) [ inl w ↦ letter w.0 w.2 (seconds (time_rank r (leb-true 4 r w.1) ne) lt) | inr h ↦ none_some e h ]
                                  ]
                            ]
                      ]
                ]
          ]
    ]
  where
    time_rank : (r : ℕ) → 4 ≤ r → (r ≡ 4 → ⊥) → 5 ≤ r
    time_rank r g n = omega arith

-- ── one byte more ──

moved : {p q : List ℕ} {s t : Progress} → p ≡ q → s ≡ t → Reads p s → Reads q t
moved {p} {q} {s} {t} e g h = subst (λ z. Reads z t) e (subst (Reads p) g h)

byte : (p : List ℕ) {b c : ℕ} → b ≡ c → p ++ (b ∷ []) ≡ p ++ (c ∷ [])
byte p e = ap (λ z. p ++ (z ∷ [])) e

pair : {i j k l : ℕ} → i ≡ j → k ≡ l → ◌≡◌ {A = ℕ × ℕ} (i, k) (j, l)
pair p q = cc

opens : (p : List ℕ) (f : Fields) (b : ℕ) (t : Progress) → Spelt Period (p ++ (80 ∷ [])) f → opened f b ≡ Some t → Reads (p ++ (b ∷ [])) t
opens p f b t h e = elim (cond_some (eqb b 80) (at (After Period) f) None t e) [
  | inl w ↦ moved (byte p (sym (eqb-true b 80 w.0))) w.1 (at_designator h)
  | inr n ↦ none_some t n
]

on_designator : {d : Designator} {p : List ℕ} {f : Fields} (b : ℕ) (t : Progress) → Spelt d p f → after_designator f d b ≡ Some t → Reads (p ++ (b ∷ [])) t
on_designator {d} {p} {f} b t h e = elim (cond_some (is_digit b && (not (eqb (rank_of d) 4) && ltb (rank_of d) 8)) (at (Number d (b - 48) 1) f) _ t e) [
  | inl w ↦
      let g = digit_tells b (not (eqb (rank_of d) 4) && ltb (rank_of d) 8) w.0 in
      let k = and_parts (not (eqb (rank_of d) 4)) (ltb (rank_of d) 8) g.2 in
      let v : 0 * 10 + (b - 48) ≡ b - 48 = omega arith in
      moved refl (ap (λ z. at (Number d z 1) f) v ∙ w.1)
      (at_number h (eqb-false (rank_of d) 4 (not-true (eqb (rank_of d) 4) k.0)) (ltb-true (rank_of d) 8 k.1) (b ∷ []) (one_digit b 9 g.0 g.1 (omega arith)))
  | inr n ↦ elim (cond_some (eqb b 84 && ltb (rank_of d) 5) (at (After Time) f) None t n) [
    | inl w ↦
        let k = and_parts (eqb b 84) (ltb (rank_of d) 5) w.0 in
        moved (byte p (sym (eqb-true b 84 k.0))) w.1 (at_designator (time h (ltb-true (rank_of d) 5 k.1)))
    | inr m ↦ none_some t m
  ]
]

on_close : {d : Designator} {p : List ℕ} {f : Fields} (b : ℕ) (t : Progress) → Spelt d p f → (rank_of d ≡ 4 → ⊥) → rank_of d < 8 → (ds : List ℕ) → Digits 9 ds
    → (o : Option Designator) → closing (rank_of d) b ≡ o
    → ◌≡◌ {A = Option Progress} (elim o [ Some e ↦ Some (at (After e) (put f e (value_on 0 ds))) | None ↦ None ]) (Some t) → Reads ((p ++ ds) ++ (b ∷ [])) t
on_close {d} {p} {f} b t h ne lt ds q (Some e) c g =
    let same : at (After e) (put f e (value_on 0 ds)) ≡ t = cc in
    moved (sym (append_assoc p ds (b ∷ []))) same (at_designator (part h (closes_from d e b ne lt c) ds q))
on_close b t h ne lt ds q None c g = none_some t g

on_number : {d : Designator} {p : List ℕ} {f : Fields} (b : ℕ) (t : Progress) → Spelt d p f → (rank_of d ≡ 4 → ⊥) → rank_of d < 8 → (ds : List ℕ) → Digits 9 ds
    → in_number f d (value_on 0 ds) (length ds) b ≡ Some t → Reads ((p ++ ds) ++ (b ∷ [])) t
on_number {d} {p} {f} b t h ne lt ds q e = elim (cond_some (is_digit b && (ltb (length ds) 9 && ltb (value_on 0 ds) 100000000)) (at (Number d (value_on 0 ds * 10 + (b - 48)) (length ds + 1)) f) _ t e) [
  | inl w ↦
      let g = digit_tells b (ltb (length ds) 9 && ltb (value_on 0 ds) 100000000) w.0 in
      let k = and_parts (ltb (length ds) 9) (ltb (value_on 0 ds) 100000000) g.2 in
      moved (sym (append_assoc p ds (b ∷ []))) (ap (λ (z : ℕ × ℕ). at (Number d z.0 z.1) f) (pair (value_push 0 ds b) (length_push ds b)) ∙ w.1)
      (at_number h ne lt (ds ++ (b ∷ [])) (digits_push 9 ds b q g.0 g.1 (ltb-true (length ds) 9 k.0)))
  | inr n ↦ elim (cond_some (eqb b 46 && leb 4 (rank_of d)) (at (Point (value_on 0 ds)) f) _ t n) [
    | inl w ↦
        let k = and_parts (eqb b 46) (leb 4 (rank_of d)) w.0 in
        let r : 5 ≤ rank_of d = omega (arith, leb-true 4 (rank_of d) k.1, ne) in
        moved (sym (append_assoc p ds (46 ∷ [])) ∙ byte (p ++ ds) (sym (eqb-true b 46 k.0))) w.1 (at_point h r lt ds q)
    | inr m ↦ on_close b t h ne lt ds q (closing (rank_of d) b) refl m
  ]
]

on_point : {d : Designator} {p : List ℕ} {f : Fields} (b : ℕ) (t : Progress) → Spelt d p f → 5 ≤ rank_of d → rank_of d < 8 → (ds : List ℕ) → Digits 9 ds
    → in_point f (value_on 0 ds) b ≡ Some t → Reads ((p ++ (ds ++ (46 ∷ []))) ++ (b ∷ [])) t
on_point {d} {p} {f} b t h i j ds q e = elim (cond_some (is_digit b) (at (Fraction (value_on 0 ds) ((b - 48) * 100000) 1) f) None t e) [
  | inl w ↦
      let g = and_parts (leb 48 b) (leb b 57) w.0 in
      let x : p ++ (ds ++ (46 ∷ (b ∷ []))) ≡ (p ++ (ds ++ (46 ∷ []))) ++ (b ∷ []) = simp append_assoc in
      moved x (ap (λ z. at (Fraction (value_on 0 ds) z 1) f) (sym (micros_one b)) ∙ w.1)
      (at_fraction h i j ds (b ∷ []) q (one_digit b 6 (leb-true 48 b g.0) (leb-true b 57 g.1) (omega arith)))
  | inr n ↦ none_some t n
]

on_fraction : {d : Designator} {p : List ℕ} {f : Fields} (b : ℕ) (t : Progress) → Spelt d p f → 5 ≤ rank_of d → rank_of d < 8 → (ds fs : List ℕ) → Digits 9 ds → Digits 6 fs
    → in_fraction f (value_on 0 ds) (micros_of fs) (length fs) b ≡ Some t → Reads ((p ++ (ds ++ (46 ∷ fs))) ++ (b ∷ [])) t
on_fraction {d} {p} {f} b t h i j ds fs q o e = elim (cond_some (is_digit b && (ltb (length fs) 6 && ltb (micros_of fs) 1000000)) (at (Fraction (value_on 0 ds) (micros_of fs + (b - 48) * 10 ^ (5 - length fs)) (length fs + 1)) f) _ t e) [
  | inl w ↦
      let g = digit_tells b (ltb (length fs) 6 && ltb (micros_of fs) 1000000) w.0 in
      let l : length fs < 6 = ltb-true (length fs) 6 (and_parts (ltb (length fs) 6) (ltb (micros_of fs) 1000000) g.2).0 in
      let x : p ++ (ds ++ (46 ∷ (fs ++ (b ∷ [])))) ≡ (p ++ (ds ++ (46 ∷ fs))) ++ (b ∷ []) = simp append_assoc in
      moved x (ap (λ (z : ℕ × ℕ). at (Fraction (value_on 0 ds) z.0 z.1) f) (pair (sym (micros_push fs b l)) (length_push fs b)) ∙ w.1)
      (at_fraction h i j ds (fs ++ (b ∷ [])) q (digits_push 6 fs b o g.0 g.1 l))
  | inr n ↦ elim (cond_some (eqb b 83) (at (After Seconds) (put_seconds f (value_on 0 ds) (micros_of fs))) None t n) [
    | inl w ↦
        let x : p ++ (ds ++ (46 ∷ (fs ++ (83 ∷ [])))) ≡ (p ++ (ds ++ (46 ∷ fs))) ++ (83 ∷ []) = simp append_assoc in
        moved (x ∙ byte (p ++ (ds ++ (46 ∷ fs))) (sym (eqb-true b 83 w.0))) w.1 (at_designator (fraction h i j ds fs q o))
    | inr m ↦ none_some t m
  ]
]

on : {p : List ℕ} {s : Progress} (t : Progress) (a b : ℕ) → Reads p s → stepped s a b ≡ Some t → Reads (p ++ (b ∷ [])) t
on t a b at_start e = elim (cond_some (eqb b 45) (at Signed (unsaid true)) (opened (unsaid false) b) t e) [
  | inl w ↦ moved (byte [] (sym (eqb-true b 45 w.0))) w.1 at_sign
  | inr n ↦ opens [] (unsaid false) b t plus n
]
on t a b at_sign e = opens (45 ∷ []) (unsaid true) b t minus e
on t a b (at_designator h) e = on_designator b t h e
on t a b (at_number h ne lt ds q) e = on_number b t h ne lt ds q e
on t a b (at_point h i j ds q) e = on_point b t h i j ds q e
on t a b (at_fraction h i j ds fs q o) e = on_fraction b t h i j ds fs q o e

-- ── the end ──

whole : {p : List ℕ} {s : Progress} (f : Fields) → Reads p s → ended s ≡ Some f → SpanText p f
whole f at_start e = none_some f e
whole f at_sign e = none_some f e
whole f (at_number h ne lt ds q) e = none_some f e
whole f (at_point h i j ds q) e = none_some f e
whole f (at_fraction h i j ds fs q o) e = none_some f e
whole f (at_designator {d} {p} {f = g} h) e = by d h e
  where
    apart : (c d : Designator) → (rank_of c ≡ rank_of d → ⊥) → c ≡ d → ⊥
    apart c d n e = n (ap rank_of e)

    full : (d : Designator) → Spelt d p g → (rank_of d ≡ 0 → ⊥) → (rank_of d ≡ 5 → ⊥) → Some g ≡ Some f → SpanText p f
    full d h n m e = let same : g ≡ f = cc in subst (SpanText p) same (record { last = d; spelt = h; any = apart d Period n; timed = apart d Time m })

    by : (d : Designator) → Spelt d p g → ended (at (After d) g) ≡ Some f → SpanText p f
    by Period h e = none_some f e
    by Years h e = full Years h (λ z. omega arith) (λ z. omega arith) e
    by Months h e = full Months h (λ z. omega arith) (λ z. omega arith) e
    by Weeks h e = full Weeks h (λ z. omega arith) (λ z. omega arith) e
    by Days h e = full Days h (λ z. omega arith) (λ z. omega arith) e
    by Time h e = none_some f e
    by Hours h e = full Hours h (λ z. omega arith) (λ z. omega arith) e
    by Minutes h e = full Minutes h (λ z. omega arith) (λ z. omega arith) e
    by Seconds h e = full Seconds h (λ z. omega arith) (λ z. omega arith) e

at_end : (p : List ℕ) (s : Progress) (a : ℕ) (f : Fields) (o : Option Fields) → ended s ≡ o → Reads p s
    → ◌≡◌ {A = Result Fields Misread} (elim o [ Some v ↦ Ok v | None ↦ Err (misread a) ]) (Ok f) → SpanText p f
at_end p s a f (Some g) e h r = let same : g ≡ f = cc in subst (SpanText p) same (whole g h e)
at_end p s a f None e h r = err_ok f a r

runs : (p : List ℕ) (s : Progress) (a : ℕ) (xs : List ℕ) (f : Fields) → Reads p s → read_on stepped ended s a xs ≡ Ok f → SpanText (p ++ xs) f
runs p s a [] f h e = rw append-nil (at_end p s a f (ended s) refl h e)
runs p s a (b ∷ bs) f h e =
    let next = first_step stepped ended s a b bs f e in
    rw append_assoc at (runs (p ++ (b ∷ [])) next.0 (a + 1) bs f (on next.0 a b h next.1) next.2)

pub sound : (t : List ℕ) (f : Fields) → read_fields t ≡ Ok f → SpanText t f
sound t f e = runs [] start 0 t f at_start e
