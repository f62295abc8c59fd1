-- Every text of the grammar is read, and says what it should.
use Rattle.std.proofs.Common.{◌≡◌, ℕ, suc, ◌+◌, ◌-◌, ◌*◌, ◌^◌, ◌<◌, ◌≤◌, List, [], ◌∷◌, ◌++◌, length, Some, Ok, Result, sym, refl, ap, ◌∙◌, append_assoc, append-nil, arith, length-append, rules}
use Rattle.std.proofs.lemmas.Bool.Decides.{nat_tests}
use Rattle.reading.specs.Digits.{value_on, AllDigits, Digits}
use Rattle.reading.specs.declared.Misread.{Misread}
use Rattle.reading.specs.Reading.{read_on}
use Rattle.reading.proofs.Figures.{digit_more}
use Rattle.reading.proofs.Machines.{go as go_on}
use Rattle.span_text.specs.declared.scan.Designator.{Designator}
use Rattle.span_text.specs.declared.scan.Designator.TheVariants.{Period, Years, Months, Weeks, Days, Time, Hours, Minutes, Seconds}
use Rattle.span_text.specs.declared.scan.Stage.TheVariants.{After, Number, Point, Fraction}
use Rattle.span_text.specs.declared.scan.Fields.{Fields}
use Rattle.span_text.specs.declared.scan.Progress.{Progress}
use Rattle.span_text.specs.Scanning.{rank_of, at, start, put, put_seconds, stepped, ended, read_fields}
use Rattle.span_text.specs.Grammar.{micros_of, Closes, Spelt, SpanText}
use Rattle.span_text.specs.Grammar.Closes.{years, months, weeks, days, hours, minutes, seconds}
use Rattle.span_text.specs.Grammar.Spelt.{plus, minus, part, time, fraction}
use Rattle.span_text.proofs.Fractions.{number_room, padded_small, padded_more}

abbrev read : Progress → ℕ → List ℕ → Result Fields Misread
read = read_on stepped ended

go : (s t : Progress) (a b : ℕ) (bs : List ℕ) → stepped s a b ≡ Some t → read s a (b ∷ bs) ≡ read t (a + 1) bs
go s t a b bs h = go_on stepped ended s t a b bs h

pair : {i j k l : ℕ} → i ≡ j → k ≡ l → ◌≡◌ {A = ℕ × ℕ} (i, k) (j, l)
pair p q = cc

three : {i j k l m n : ℕ} → i ≡ j → k ≡ l → m ≡ n → ◌≡◌ {A = ℕ × ℕ × ℕ} (i, k, m) (j, l, n)
three p q r = cc

-- ── numbers ──

number_digit : (f : Fields) (d : Designator) (n k a b : ℕ) → 48 ≤ b → b ≤ 57 → k < 9 → n < 100000000
    → stepped (at (Number d n k) f) a b ≡ Some (at (Number d (n * 10 + (b - 48)) (k + 1)) f)
number_digit f d n k a b p q l m = grind (arith, nat_tests)

more_digits : (f : Fields) (d : Designator) (n k a : ℕ) (ds xs : List ℕ) → AllDigits ds → k + length ds ≤ 9 → n < 10 ^ k
    → read (at (Number d n k) f) a (ds ++ xs) ≡ read (at (Number d (value_on n ds) (k + length ds)) f) (a + length ds) xs
more_digits f d n k a [] xs h l m = search rules
more_digits f d n k a (b ∷ bs) xs h l m =
    let s = number_digit f d n k a b h.0 h.1 (omega arith) (number_room n k m (omega arith)) in
    let next = more_digits f d (n * 10 + (b - 48)) (k + 1) (a + 1) bs xs h.2 (omega arith) (digit_more n k (b - 48) m (omega arith)) in
    let x : (k + 1) + length bs ≡ k + suc (length bs) = omega arith in
    let y : (a + 1) + length bs ≡ a + suc (length bs) = omega arith in
    go (at (Number d n k) f) _ a b (bs ++ xs) s
    ∙ (next ∙ ap (λ (z : ℕ × ℕ). read (at (Number d (value_on n (b ∷ bs)) z.0) f) z.1 xs) (pair x y))

-- the letter that closes a number
letter_read : (f : Fields) {d e : Designator} {l : ℕ} (n k a : ℕ) → Closes d e l → stepped (at (Number d n k) f) a l ≡ Some (at (After e) (put f e n))
letter_read f n k a (years h) = grind (arith, nat_tests)
letter_read f n k a (months h) = grind (arith, nat_tests)
letter_read f n k a (weeks h) = grind (arith, nat_tests)
letter_read f n k a (days h) = grind (arith, nat_tests)
letter_read f n k a (hours h g) = grind (arith, nat_tests)
letter_read f n k a (minutes h g) = grind (arith, nat_tests)
letter_read f n k a (seconds h g) = grind (arith, nat_tests)

first_digit : (f : Fields) (d : Designator) (a b : ℕ) → (rank_of d ≡ 4 → ⊥) → rank_of d < 8 → 48 ≤ b → b ≤ 57
    → stepped (at (After d) f) a b ≡ Some (at (Number d (b - 48) 1) f)
first_digit f d a b p l h g = grind (arith, nat_tests)

number : (f : Fields) (d : Designator) (a : ℕ) (ds xs : List ℕ) → (rank_of d ≡ 4 → ⊥) → rank_of d < 8 → Digits 9 ds
    → read (at (After d) f) a (ds ++ xs) ≡ read (at (Number d (value_on 0 ds) (length ds)) f) (a + length ds) xs
number f d a [] xs p l h = absurd (omega (arith, h.some))
number f d a (b ∷ bs) xs p l h =
    let s = first_digit f d a b p l h.all.0 h.all.1 in
    let next = more_digits f d (b - 48) 1 (a + 1) bs xs h.all.2 (omega (arith, h.few)) (omega (arith, h.all.1)) in
    let v : b - 48 ≡ 0 * 10 + (b - 48) = omega arith in
    let x : 1 + length bs ≡ suc (length bs) = omega arith in
    let y : (a + 1) + length bs ≡ a + suc (length bs) = omega arith in
    go (at (After d) f) _ a b (bs ++ xs) s
    ∙ (next ∙ ap (λ (z : ℕ × ℕ × ℕ). read (at (Number d (value_on z.2 bs) z.0) f) z.1 xs) (three x y v))

-- ── fractions ──

fraction_digit : (f : Fields) (n m k a b : ℕ) → 48 ≤ b → b ≤ 57 → k < 6 → m < 1000000
    → stepped (at (Fraction n m k) f) a b ≡ Some (at (Fraction n (m + (b - 48) * 10 ^ (5 - k)) (k + 1)) f)
fraction_digit f n m k a b p q l s = grind (arith, nat_tests)

-- the digits after those that gave v
more_fraction : (f : Fields) (n v k a : ℕ) (ds xs : List ℕ) → AllDigits ds → k + length ds ≤ 6 → v < 10 ^ k
    → read (at (Fraction n (v * 10 ^ (6 - k)) k) f) a (ds ++ xs)
    ≡ read (at (Fraction n (value_on v ds * 10 ^ (6 - (k + length ds))) (k + length ds)) f) (a + length ds) xs
more_fraction f n v k a [] xs h l m =
    let x : k ≡ k + 0 = omega arith in
    let y : a ≡ a + 0 = omega arith in
    ap (λ (z : ℕ × ℕ). read (at (Fraction n (v * 10 ^ (6 - z.0)) z.0) f) z.1 xs) (pair x y)
more_fraction f n v k a (b ∷ bs) xs h l m =
    let s = fraction_digit f n (v * 10 ^ (6 - k)) k a b h.0 h.1 (omega arith) (padded_small v k m (omega arith)) in
    let e = padded_more v k (b - 48) (omega arith) in
    let next = more_fraction f n (v * 10 + (b - 48)) (k + 1) (a + 1) bs xs h.2 (omega arith) (digit_more v k (b - 48) m (omega arith)) in
    let x : (k + 1) + length bs ≡ k + suc (length bs) = omega arith in
    let y : (a + 1) + length bs ≡ a + suc (length bs) = omega arith in
    go (at (Fraction n (v * 10 ^ (6 - k)) k) f) _ a b (bs ++ xs) s
    ∙ (ap (λ z. read (at (Fraction n z (k + 1)) f) (a + 1) (bs ++ xs)) e
    ∙ (next ∙ ap (λ (z : ℕ × ℕ). read (at (Fraction n (value_on v (b ∷ bs) * 10 ^ (6 - z.0)) z.0) f) z.1 xs) (pair x y)))

point_digit : (f : Fields) (n a b : ℕ) → 48 ≤ b → b ≤ 57 → stepped (at (Point n) f) a b ≡ Some (at (Fraction n ((b - 48) * 100000) 1) f)
point_digit f n a b p q = grind (arith, nat_tests)

after_point : (f : Fields) (n a : ℕ) (ds xs : List ℕ) → Digits 6 ds
    → read (at (Point n) f) a (ds ++ xs) ≡ read (at (Fraction n (micros_of ds) (length ds)) f) (a + length ds) xs
after_point f n a [] xs h = absurd (omega (arith, h.some))
after_point f n a (b ∷ bs) xs h =
    let s = point_digit f n a b h.all.0 h.all.1 in
    let next = more_fraction f n (b - 48) 1 (a + 1) bs xs h.all.2 (omega (arith, h.few)) (omega (arith, h.all.1)) in
    let v : b - 48 ≡ 0 * 10 + (b - 48) = omega arith in
    let x : 1 + length bs ≡ suc (length bs) = omega arith in
    let y : (a + 1) + length bs ≡ a + suc (length bs) = omega arith in
    go (at (Point n) f) _ a b (bs ++ xs) s
    ∙ (next ∙ ap (λ (z : ℕ × ℕ × ℕ). read (at (Fraction n (value_on z.2 bs * 10 ^ (6 - z.0)) z.0) f) z.1 xs) (three x y v))

point : (f : Fields) (d : Designator) (n k a : ℕ) → 5 ≤ rank_of d → stepped (at (Number d n k) f) a 46 ≡ Some (at (Point n) f)
point f d n k a h = grind (arith, nat_tests)

fraction_end : (f : Fields) (n m k a : ℕ) → stepped (at (Fraction n m k) f) a 83 ≡ Some (at (After Seconds) (put_seconds f n m))
fraction_end f n m k a = grind (arith, nat_tests)

turn : (f : Fields) (d : Designator) (a : ℕ) → rank_of d < 5 → stepped (at (After d) f) a 84 ≡ Some (at (After Time) f)
turn f d a h = grind (arith, nat_tests)

-- ── the whole ──

-- where a number may stand
pub closes_some : {d e : Designator} {l : ℕ} → Closes d e l → (rank_of d ≡ 4 → ⊥) × (rank_of d < 8)
closes_some (years h) = (λ e. omega arith, omega arith)
closes_some (months h) = (λ e. omega arith, omega arith)
closes_some (weeks h) = (λ e. omega arith, omega arith)
closes_some (days h) = (λ e. omega arith, omega arith)
closes_some (hours h g) = (λ e. omega arith, omega arith)
closes_some (minutes h g) = (λ e. omega arith, omega arith)
closes_some (seconds h g) = (λ e. omega arith, omega arith)

-- the reader goes along with what is spelt
goes : {d : Designator} {p : List ℕ} {f : Fields} → Spelt d p f → (xs : List ℕ) → read start 0 (p ++ xs) ≡ read (at (After d) f) (length p) xs
goes plus xs = refl
goes minus xs = refl
goes (part {d} {e} {l} {p} {f} h c ds q) xs =
    let n : (length p + length ds) + 1 ≡ length (p ++ (ds ++ (l ∷ []))) = simp length-append (omega arith) in
    let t : (p ++ (ds ++ (l ∷ []))) ++ xs ≡ p ++ (ds ++ (l ∷ xs)) = simp append_assoc in
    ap (read start 0) t ∙ (goes h (ds ++ (l ∷ xs)) ∙ (number f d (length p) ds (l ∷ xs) (closes_some c).0 (closes_some c).1 q
    ∙ (go (at (Number d (value_on 0 ds) (length ds)) f) _ (length p + length ds) l xs (letter_read f (value_on 0 ds) (length ds) (length p + length ds) c)
    ∙ ap (λ z. read (at (After e) (put f e (value_on 0 ds))) z xs) n)))
goes (time {d} {p} {f} h l) xs =
    let n : length p + 1 ≡ length (p ++ (84 ∷ [])) = simp length-append (omega arith) in
    ap (read start 0) (append_assoc p (84 ∷ []) xs) ∙ (goes h (84 ∷ xs) ∙ (go (at (After d) f) _ (length p) 84 xs (turn f d (length p) l)
    ∙ ap (λ z. read (at (After Time) f) z xs) n))
goes (fraction {d} {p} {f} h i j ds fs q o) xs =
    let n : (((length p + length ds) + 1) + length fs) + 1 ≡ length (p ++ (ds ++ (46 ∷ (fs ++ (83 ∷ []))))) = simp length-append (omega arith) in
    let t : (p ++ (ds ++ (46 ∷ (fs ++ (83 ∷ []))))) ++ xs ≡ p ++ (ds ++ (46 ∷ (fs ++ (83 ∷ xs)))) = simp append_assoc in
    ap (read start 0) t ∙ (goes h (ds ++ (46 ∷ (fs ++ (83 ∷ xs)))) ∙ (number f d (length p) ds (46 ∷ (fs ++ (83 ∷ xs))) (λ e. omega arith) j q
    ∙ (go (at (Number d (value_on 0 ds) (length ds)) f) _ (length p + length ds) 46 (fs ++ (83 ∷ xs)) (point f d (value_on 0 ds) (length ds) (length p + length ds) i)
    ∙ (after_point f (value_on 0 ds) ((length p + length ds) + 1) fs (83 ∷ xs) o
    ∙ (go (at (Fraction (value_on 0 ds) (micros_of fs) (length fs)) f) _ (((length p + length ds) + 1) + length fs) 83 xs (fraction_end f (value_on 0 ds) (micros_of fs) (length fs) (((length p + length ds) + 1) + length fs))
    ∙ ap (λ z. read (at (After Seconds) (put_seconds f (value_on 0 ds) (micros_of fs))) z xs) n)))))

-- where a text may end
ends : (d : Designator) (f : Fields) → (d ≡ Period → ⊥) → (d ≡ Time → ⊥) → ended (at (After d) f) ≡ Some f
ends Period f p q = absurd (p refl)
ends Years f p q = refl
ends Months f p q = refl
ends Weeks f p q = refl
ends Days f p q = refl
ends Time f p q = absurd (q refl)
ends Hours f p q = refl
ends Minutes f p q = refl
ends Seconds f p q = refl

pub complete : (t : List ℕ) (f : Fields) → SpanText t f → read_fields t ≡ Ok f
complete t f h =
    let g = goes h.spelt [] in
    let e = ends h.last f h.any h.timed in
    ap (read start 0) (sym (append-nil t)) ∙ (g ∙ (rw (e, read_on) refl))
