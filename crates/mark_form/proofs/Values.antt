-- What a mark text says is what is read off at the places of its parts.
use Rattle.std.proofs.Common.{◌≡◌, ◌≢◌, ℕ, suc, ◌+◌, ◌-◌, ◌*◌, ◌≤◌, Bool, true, cond, not, ◌&&◌, ◌||◌, eqb, ltb, List, [], ◌∷◌, ◌++◌, length, get_or, Some, None, codes, Option, sym, refl, ap, ◌∙◌, inl, inr, append_assoc, arith, length-append}
use Rattle.std.proofs.lemmas.Bool.{cases_Bool, and_parts, eqb-true}
use Rattle.std.proofs.lemmas.List.{get_or-append-add}
use Rattle.span_text.specs.Grammar.{micros_of}
use Rattle.mark_form.specs.declared.draft.Draft.{Draft}
use Rattle.mark_form.specs.declared.draft.Said.{Said}
use Rattle.mark_form.specs.declared.layout.Part.{Part}
use Rattle.mark_form.specs.declared.layout.Tags.{Tags}
use Rattle.mark_form.specs.Drafts.{byte_at, two_at, four_at, micros_at, offset_at, draft_of}
use Rattle.mark_form.specs.Grammar.{Number, FractionText, Sign, said, OffsetText, DraftText, layout_of}
use Rattle.mark_form.proofs.Forms.{clock_length}

-- ── bytes and numbers at their places ──

there : (x t : List ℕ) (n i j : ℕ) → length x ≡ n → j ≡ n + i → byte_at (x ++ t) j ≡ byte_at t i
there x t n i j e f = let k : j ≡ length x + i = omega arith in ap (byte_at (x ++ t)) k ∙ get_or-append-add x t i 0

byte_there : (t x y : List ℕ) (b i : ℕ) → t ≡ x ++ (b ∷ y) → length x ≡ i → byte_at t i ≡ b
byte_there t x y b i e l = ap (λ z. byte_at z i) e ∙ there x (b ∷ y) i 0 i l (omega arith)

two_there : (t x ds y : List ℕ) (i n : ℕ) → t ≡ x ++ (ds ++ y) → length x ≡ i → Number 2 ds n → two_at t i ≡ n
two_there t x [] y i n e l h = absurd (omega (arith, h.long))
two_there t x (a ∷ []) y i n e l h = absurd (omega (arith, h.long))
two_there t x (a ∷ (b ∷ [])) y i n e l h =
    let p = byte_there t x (b ∷ y) a i e l in
    let q = byte_there t (x ++ (a ∷ [])) y b (i + 1) (e ∙ sym (append_assoc x (a ∷ []) (b ∷ y))) (simp length-append (omega arith)) in
    rw (p, q) (omega (arith, h.is))
two_there t x (a ∷ (b ∷ (c ∷ cs))) y i n e l h = absurd (omega (arith, h.long))

four_there : (ds y : List ℕ) (n : ℕ) → Number 4 ds n → four_at (ds ++ y) 0 ≡ n
four_there [] y n h = absurd (omega (arith, h.long))
four_there (a ∷ []) y n h = absurd (omega (arith, h.long))
four_there (a ∷ (b ∷ [])) y n h = absurd (omega (arith, h.long))
four_there (a ∷ (b ∷ (c ∷ []))) y n h = absurd (omega (arith, h.long))
four_there (a ∷ (b ∷ (c ∷ (d ∷ [])))) y n h = omega (arith, h.is)
four_there (a ∷ (b ∷ (c ∷ (d ∷ (e ∷ es))))) y n h = absurd (omega (arith, h.long))

pub four_small : (ds : List ℕ) (n : ℕ) → Number 4 ds n → n ≤ 9999
four_small [] n h = absurd (omega (arith, h.long))
four_small (a ∷ []) n h = absurd (omega (arith, h.long))
four_small (a ∷ (b ∷ [])) n h = absurd (omega (arith, h.long))
four_small (a ∷ (b ∷ (c ∷ []))) n h = absurd (omega (arith, h.long))
four_small (a ∷ (b ∷ (c ∷ (d ∷ [])))) n h = omega (arith, h.is, h.all)
four_small (a ∷ (b ∷ (c ∷ (d ∷ (e ∷ es))))) n h = absurd (omega (arith, h.long))

-- two digits at a place and a mark after them: their number, and what stands before the rest
record Field (t : List ℕ) (i n : ℕ) (y : List ℕ) : Type 0 where
  value : two_at t i ≡ n
  before : List ℕ
  is : t ≡ before ++ y
  long : length before ≡ i + 3

field : (t x ds y : List ℕ) (mark i n : ℕ) → t ≡ x ++ (ds ++ (mark ∷ y)) → length x ≡ i → Number 2 ds n → Field t i n y
field t x ds y mark i n e l h = record {
  value = two_there t x ds (mark ∷ y) i n e l h;
  before = x ++ (ds ++ (mark ∷ []));
  is = e ∙ simp append_assoc;
  long = simp length-append (omega (arith, h.long));
}

-- ── the fraction ──

-- a digit of the fraction, which stands from 20 on and ends at a place
abbrev digit_in : ℕ → List ℕ → ℕ → ℕ
digit_in n t j = cond (ltb (20 + j) n) (get_or t j 0 - 48) 0

abbrev micros_in : ℕ → List ℕ → ℕ
micros_in n t = digit_in n t 0 * 100000 + digit_in n t 1 * 10000 + digit_in n t 2 * 1000 + digit_in n t 3 * 100 + digit_in n t 4 * 10 + digit_in n t 5

six_digits : (ds t : List ℕ) → length ds ≤ 6 → micros_in (20 + length ds) (ds ++ t) ≡ micros_of ds
six_digits [] t h = omega arith
six_digits (a ∷ []) t h = omega arith
six_digits (a ∷ (b ∷ [])) t h = omega arith
six_digits (a ∷ (b ∷ (c ∷ []))) t h = omega arith
six_digits (a ∷ (b ∷ (c ∷ (d ∷ [])))) t h = omega arith
six_digits (a ∷ (b ∷ (c ∷ (d ∷ (e ∷ []))))) t h = omega arith
six_digits (a ∷ (b ∷ (c ∷ (d ∷ (e ∷ (f ∷ [])))))) t h = omega arith
six_digits (a ∷ (b ∷ (c ∷ (d ∷ (e ∷ (f ∷ (g ∷ gs))))))) t h = absurd (omega arith)

digits_there : (x t : List ℕ) (n : ℕ) → length x ≡ 20 → micros_at (x ++ t) n ≡ micros_in n t
digits_there x t n e =
    let d0 = there x t 20 0 20 e refl in
    let d1 = there x t 20 1 21 e refl in
    let d2 = there x t 20 2 22 e refl in
    let d3 = there x t 20 3 23 e refl in
    let d4 = there x t 20 4 24 e refl in
    let d5 = there x t 20 5 25 e refl in
    rw (d0, d1, d2, d3, d4, d5) refl

micros_there : {f : List ℕ} {u : ℕ} (t x y : List ℕ) → FractionText f u → t ≡ x ++ (f ++ y) → length x ≡ 19 → micros_at t (19 + length f) ≡ u
micros_there t x y FractionText.none e l = refl
micros_there t x y (FractionText.some {ds} h) e l =
    let s : t ≡ (x ++ (46 ∷ [])) ++ (ds ++ y) = e ∙ sym (append_assoc x (46 ∷ []) (ds ++ y)) in
    let n : 19 + suc (length ds) ≡ 20 + length ds = omega arith in
    ap (λ z. micros_at t z) n
    ∙ (ap (λ z. micros_at z (20 + length ds)) s
    ∙ (digits_there (x ++ (46 ∷ [])) (ds ++ y) (20 + length ds) (simp length-append (omega arith)) ∙ six_digits ds y h.few))

-- ── the offset ──

-- the offset by the bytes and numbers of its places
abbrev offset_by : ℕ → ℕ → ℕ → ℕ → ℕ → ℕ → Option Said
offset_by place first sixth h m s =
    cond (eqb first 90 || (eqb first 45 && (not (eqb sixth 58) && (eqb h 0 && eqb m 0)))) None
    (Some (said place (eqb first 45) h m (cond (eqb sixth 58) s 0)))

by_parts : (t : List ℕ) (place first sixth h m s : ℕ) → byte_at t place ≡ first → byte_at t (place + 6) ≡ sixth → two_at t (place + 1) ≡ h → two_at t (place + 4) ≡ m → two_at t (place + 7) ≡ s
    → offset_at t place ≡ offset_by place first sixth h m s
by_parts t place first sixth h m s e0 e6 e1 e4 e7 = rw (e0, e6, e1, e4, e7) refl

-- two digits that write nought
nought : (ds : List ℕ) (n : ℕ) → Number 2 ds n → n ≡ 0 → ds ≡ codes "00"
nought [] n h z = absurd (omega (arith, h.long))
nought (a ∷ []) n h z = absurd (omega (arith, h.long))
nought (a ∷ (b ∷ [])) n h z =
    let p : a ≡ 48 = omega (arith, h.is, h.all) in
    let q : b ≡ 48 = omega (arith, h.is, h.all) in
    rw (p, q) refl
nought (a ∷ (b ∷ (c ∷ cs))) n h z = absurd (omega (arith, h.long))

-- an offset below nought that isn't `-00:00`
minus_said : (place h m s : ℕ) → ((h ≡ 0) → (m ≡ 0) → ⊥) → offset_by place 45 91 h m s ≡ Some (said place true h m 0)
minus_said place h m s n = elim (cases_Bool (eqb h 0 && eqb m 0)) [
  | inl e ↦ let p = and_parts (eqb h 0) (eqb m 0) e in absurd (n (eqb-true h 0 p.0) (eqb-true m 0 p.1))
  | inr e ↦ rw e refl
]

-- a sign, hours and minutes at a place: their numbers, and what stands before the rest
record Pair (t : List ℕ) (place c h m : ℕ) (y : List ℕ) : Type 0 where
  sign : byte_at t place ≡ c
  hours : two_at t (place + 1) ≡ h
  minutes : two_at t (place + 4) ≡ m
  before : List ℕ
  is : t ≡ before ++ y
  long : length before ≡ place + 6

pair : (t x hh mm y : List ℕ) (place c h m : ℕ) → t ≡ x ++ (c ∷ (hh ++ (58 ∷ (mm ++ y)))) → length x ≡ place → Number 2 hh h → Number 2 mm m → Pair t place c h m y
pair t x hh mm y place c h m e l hn mn =
    let f = field t (x ++ (c ∷ [])) hh (mm ++ y) 58 (place + 1) h (e ∙ sym (append_assoc x (c ∷ []) (hh ++ (58 ∷ (mm ++ y))))) (simp length-append (omega arith)) hn in
    record {
      sign = byte_there t x (hh ++ (58 ∷ (mm ++ y))) c place e l;
      hours = f.value;
      minutes = two_there t f.before mm y (place + 4) m f.is (omega (arith, f.long)) mn;
      before = f.before ++ mm;
      is = f.is ∙ sym (append_assoc f.before mm y);
      long = simp length-append (omega (arith, f.long, mn.long));
    }

offset_there : {o : List ℕ} {w : Option Said} (t x y : List ℕ) (place : ℕ) → OffsetText place o w → t ≡ x ++ (o ++ (91 ∷ y)) → length x ≡ place → offset_at t place ≡ w
offset_there t x y place OffsetText.utc e l = by_parts t place 90 _ _ _ _ (byte_there t x (91 ∷ y) 90 place e l) refl refl refl refl
offset_there t x y place OffsetText.unknown e l =
    let n : Number 2 (codes "00") 0 = record { all = (omega arith, omega arith, (omega arith, omega arith, tt)); long = refl; is = refl } in
    let p = pair t x (codes "00") (codes "00") (91 ∷ y) place 45 0 0 e l n n in
    by_parts t place 45 91 0 0 _ p.sign (byte_there t p.before y 91 (place + 6) p.is p.long) p.hours p.minutes refl
offset_there t x y place (OffsetText.minutes {c} {h} {m} {minus} {hh} {mm} g i j n) e l =
    let s : t ≡ x ++ (c ∷ (hh ++ (58 ∷ (mm ++ (91 ∷ y))))) = e ∙ ap (λ (z : List ℕ). x ++ (c ∷ z)) (append_assoc hh (58 ∷ mm) (91 ∷ y)) in
    let p = pair t x hh mm (91 ∷ y) place c h m s l i j in
    by_parts t place c 91 h m _ p.sign (byte_there t p.before y 91 (place + 6) p.is p.long) p.hours p.minutes refl ∙ by c minus g n
  where
    by : (c : ℕ) (minus : Bool) → Sign c minus → c ∷ (hh ++ (58 ∷ mm)) ≢ codes "-00:00" → offset_by place c 91 h m (two_at t (place + 7)) ≡ Some (said place minus h m 0)
    by c minus Sign.plus n = refl
    by c minus Sign.minus n =
        minus_said place h m (two_at t (place + 7)) (λ u v. n (ap (λ (z : List ℕ). 45 ∷ (z ++ (58 ∷ mm))) (nought hh h i u) ∙ ap (λ (z : List ℕ). 45 ∷ (codes "00" ++ (58 ∷ z))) (nought mm m j v)))
offset_there t x y place (OffsetText.seconds {c} {h} {m} {s} {minus} {hh} {mm} {ss} g i j k) e l =
    let q : t ≡ x ++ (c ∷ (hh ++ (58 ∷ (mm ++ (58 ∷ (ss ++ (91 ∷ y))))))) = e ∙ simp append_assoc in
    let p = pair t x hh mm (58 ∷ (ss ++ (91 ∷ y))) place c h m q l i j in
    let r = two_there t (p.before ++ (58 ∷ [])) ss (91 ∷ y) (place + 7) s (p.is ∙ sym (append_assoc p.before (58 ∷ []) (ss ++ (91 ∷ y)))) (simp length-append (omega (arith, p.long))) k in
    by_parts t place c 58 h m s p.sign (byte_there t p.before (ss ++ (91 ∷ y)) 58 (place + 6) p.is p.long) p.hours p.minutes r ∙ by c minus g
  where
    by : (c : ℕ) (minus : Bool) → Sign c minus → offset_by place c 58 h m s ≡ Some (said place minus h m s)
    by c minus Sign.plus = refl
    by c minus Sign.minus = refl

-- ── the whole ──

abbrev draft_by : ℕ → ℕ → ℕ → ℕ → ℕ → ℕ → ℕ → Option Said → Part → Tags → Draft
draft_by y m d h i s u o n g = record { year = y; month = m; day = d; hour = h; minute = i; second = s; micros = u; offset = o; name = n; tags = g }

same : (d e : Draft) → d.year ≡ e.year → d.month ≡ e.month → d.day ≡ e.day → d.hour ≡ e.hour → d.minute ≡ e.minute → d.second ≡ e.second → d.micros ≡ e.micros → d.offset ≡ e.offset → d.name ≡ e.name → d.tags ≡ e.tags → d ≡ e
same d e a b c f g h i j k l =
    let x : draft_by d.year d.month d.day d.hour d.minute d.second d.micros d.offset d.name d.tags ≡ draft_by e.year e.month e.day e.hour e.minute e.second e.micros e.offset e.name e.tags = cc in
    x

-- the draft of a mark text is read off at its places
pub read_off : (t : List ℕ) (d : Draft) (x : DraftText t d) → draft_of t (layout_of x) ≡ d
unfolding draft_of
read_off t d x =
    let c = x.clock_text in
    let after = x.offset ++ (91 ∷ (x.bang ++ (x.name ++ (93 ∷ x.tags)))) in
    let r = x.fraction ++ after in
    let s = c.second ++ r in
    let i = c.minute ++ (58 ∷ s) in
    let h = c.hour ++ (58 ∷ i) in
    let a = c.day ++ (84 ∷ h) in
    let m = c.month ++ (45 ∷ a) in
    let e : t ≡ c.year ++ (45 ∷ m) = x.is ∙ (ap (λ (z : List ℕ). z ++ r) c.is ∙ simp append_assoc) in
    let f = field t (c.year ++ (45 ∷ [])) c.month a 45 5 d.month (e ∙ sym (append_assoc c.year (45 ∷ []) m)) (simp length-append (omega (arith, c.year_text.long))) c.month_text in
    let g = field t f.before c.day h 84 8 d.day f.is f.long c.day_text in
    let j = field t g.before c.hour i 58 11 d.hour g.is g.long c.hour_text in
    let k = field t j.before c.minute s 58 14 d.minute j.is j.long c.minute_text in
    let n = clock_length x.clock d x.clock_text in
    let o : t ≡ (x.clock ++ x.fraction) ++ after = x.is ∙ sym (append_assoc x.clock x.fraction after) in
    same (draft_of t (layout_of x)) d (ap (λ z. four_at z 0) e ∙ four_there c.year (45 ∷ m) d.year c.year_text) f.value g.value j.value k.value
    (two_there t k.before c.second r 17 d.second k.is k.long c.second_text)
    (micros_there t x.clock after x.fraction_text x.is n)
    (offset_there t (x.clock ++ x.fraction) (x.bang ++ (x.name ++ (93 ∷ x.tags))) (19 + length x.fraction) x.offset_text o (simp length-append (omega (arith, n))))
    refl refl
