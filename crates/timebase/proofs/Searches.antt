-- What the largest number that passes a test keeps.
use Rattle.std.proofs.Common.{◌≡◌, ℕ, zero, suc, ◌<◌, ◌≤◌, Bool, true, false, cond, ℤ, pos, ◌+ℤ◌, ◌≤ℤ◌, ◌<ℤ◌, Some, None, refl, ap, ◌∙◌, subst, ⊎_elim, arith}
use Rattle.std.proofs.lemmas.Int.{ints, by_lt_z}
use Rattle.std.proofs.lemmas.Bool.{cases_lt, both_ways}
use Rattle.timebase.specs.Searches.{most_to, first_from}

pub most_passes : (test : ℕ → Bool) (n : ℕ) → test 0 ≡ true → test (most_to test n) ≡ true
unfolding most_to
most_passes test zero h = h
most_passes test (suc n) h = by (test (suc n)) refl (most_passes test n h)
  where
    by : (t : Bool) → test (suc n) ≡ t → test (most_to test n) ≡ true → test (cond t (suc n) (most_to test n)) ≡ true
    by true e rest = e
    by false e rest = rest

pub most_bounded : (test : ℕ → Bool) (n : ℕ) → most_to test n ≤ n
unfolding most_to
most_bounded test zero = omega arith
most_bounded test (suc n) = by (test (suc n)) (most_bounded test n)
  where
    by : (t : Bool) → most_to test n ≤ n → cond t (suc n) (most_to test n) ≤ suc n
    by true rest = omega arith
    by false rest = omega arith

pub most_largest : (test : ℕ → Bool) (n k : ℕ) → k ≤ n → test k ≡ true → k ≤ most_to test n
unfolding most_to
most_largest test zero k h p = h
most_largest test (suc n) k h p = by (test (suc n)) refl (λ l. most_largest test n k l p)
  where
    by : (t : Bool) → test (suc n) ≡ t → (k ≤ n → k ≤ most_to test n) → k ≤ cond t (suc n) (most_to test n)
    by true e rest = h
    by false e rest =
        ⊎_elim (λ (l : k < suc n). rest (omega arith))
        (λ (l : suc n ≤ k). let s : k ≡ suc n = omega arith in absurd (both_ways (test k) (rw s e) p))
        (cases_lt k (suc n))

-- a test that passes wherever another does goes at least as far
pub most_more : (test more : ℕ → Bool) (n : ℕ) → test 0 ≡ true → ((k : ℕ) → test k ≡ true → more k ≡ true) → most_to test n ≤ most_to more n
most_more test more n h f = most_largest more n (most_to test n) (most_bounded test n) (f (most_to test n) (most_passes test n h))

-- the largest that passes is found where all above it fail
pub most_is : (test : ℕ → Bool) (n k : ℕ) → k ≤ n → test 0 ≡ true → test k ≡ true → ((j : ℕ) → k < j → j ≤ n → test j ≡ false) → most_to test n ≡ k
most_is test n k h z p f =
    let low = most_largest test n k h p in
    ⊎_elim (λ (l : k < most_to test n). absurd (both_ways (test (most_to test n)) (f (most_to test n) l (most_bounded test n)) (most_passes test n z)))
    (λ (l : most_to test n ≤ k). omega arith)
    (cases_lt k (most_to test n))

-- a test that passes below wherever it passes
passes_down : (test : ℕ → Bool) → ((j : ℕ) → test (suc j) ≡ true → test j ≡ true) → (k j : ℕ) → k ≤ j → test j ≡ true → test k ≡ true
passes_down test down k zero h p = let e : k ≡ 0 = omega arith in rw e p
passes_down test down k (suc j) h p =
    ⊎_elim (λ (l : k < suc j). passes_down test down k j (omega arith) (down j p)) (λ (l : suc j ≤ k). let e : k ≡ suc j = omega arith in rw e p) (cases_lt k (suc j))

-- so the largest is the one before the first that fails
pub most_next : (test : ℕ → Bool) (n k : ℕ) → ((j : ℕ) → test (suc j) ≡ true → test j ≡ true) → k ≤ n → test k ≡ true → test (suc k) ≡ false → most_to test n ≡ k
most_next test n k down h p f =
    most_is test n k h (passes_down test down 0 k (omega arith) p) p (λ j l m. fails j l (test j) refl)
  where
    fails : (j : ℕ) → k < j → (t : Bool) → test j ≡ t → t ≡ false
    fails j l true e = absurd (both_ways (test (suc k)) f (passes_down test down (suc k) j l e))
    fails j l false e = refl

-- the first that passes lies in the window and passes
pub first_found : (test : ℤ → Bool) (lo : ℤ) (n : ℕ) (j : ℤ) → first_from test lo n ≡ Some j → (lo ≤ℤ j) × (j <ℤ (lo +ℤ pos n)) × (test j ≡ true)
unfolding first_from
first_found test lo zero j e = let z : ◌≡◌ {A = ℕ} 0 1 = cc in absurd (omega arith)
first_found test lo (suc n) j e = by (test lo) refl (λ f. first_found test (lo +ℤ pos 1) n j f) e
  where
    by : (t : Bool) → test lo ≡ t → (first_from test (lo +ℤ pos 1) n ≡ Some j → ((lo +ℤ pos 1) ≤ℤ j) × (j <ℤ ((lo +ℤ pos 1) +ℤ pos n)) × (test j ≡ true)) →
        cond t (Some lo) (first_from test (lo +ℤ pos 1) n) ≡ Some j → (lo ≤ℤ j) × (j <ℤ (lo +ℤ pos (suc n))) × (test j ≡ true)
    by true f rest g =
        let s : lo ≡ j = cc in
        (omega (arith, ints), omega (arith, ints), subst (λ (z : ℤ). test z ≡ true) s f)
    by false f rest g = let r = rest g in (omega (arith, ints, r.0), omega (arith, ints, r.1), r.2)

-- it is found where all before it fail
pub first_is : (test : ℤ → Bool) (lo : ℤ) (n : ℕ) (j : ℤ) → lo ≤ℤ j → j <ℤ (lo +ℤ pos n) → test j ≡ true → ((i : ℤ) → lo ≤ℤ i → i <ℤ j → test i ≡ false) → first_from test lo n ≡ Some j
unfolding first_from
first_is test lo zero j h k p f = absurd (omega (arith, ints))
first_is test lo (suc n) j h k p f = by (test lo) refl (λ h k. first_is test (lo +ℤ pos 1) n j h k p (λ i l m. f i (omega (arith, ints)) m))
  where
    by : (t : Bool) → test lo ≡ t → ((lo +ℤ pos 1) ≤ℤ j → j <ℤ ((lo +ℤ pos 1) +ℤ pos n) → first_from test (lo +ℤ pos 1) n ≡ Some j) → cond t (Some lo) (first_from test (lo +ℤ pos 1) n) ≡ Some j
    by true e rest =
        by_lt_z lo j (λ (l : lo <ℤ j). absurd (both_ways (test lo) (f lo (omega (arith, ints)) l) e))
        (λ (l : j ≤ℤ lo). ap Some (omega (arith, ints)))
    by false e rest =
        by_lt_z lo j (λ (l : lo <ℤ j). rest (omega (arith, ints)) (omega (arith, ints)))
        (λ (l : j ≤ℤ lo). let s : lo ≡ j = omega (arith, ints) in absurd (both_ways (test j) (subst (λ (z : ℤ). test z ≡ false) s e) p))

pub none_found : (test : ℤ → Bool) (lo : ℤ) (n : ℕ) → ((i : ℤ) → lo ≤ℤ i → i <ℤ (lo +ℤ pos n) → test i ≡ false) → first_from test lo n ≡ None
unfolding first_from
none_found test lo zero f = refl
none_found test lo (suc n) f =
    let e : test lo ≡ false = f lo (omega (arith, ints)) (omega (arith, ints)) in
    ap (λ (t : Bool). cond t (Some lo) (first_from test (lo +ℤ pos 1) n)) e ∙ none_found test (lo +ℤ pos 1) n (λ i h k. f i (omega (arith, ints)) (omega (arith, ints)))
