-- A search among rising seconds, and what it finds.
use Rattle.std.proofs.Common.{◌≡◌, ℕ, zero, suc, ◌+◌, ◌-◌, ◌<◌, ◌≤◌, true, false, List, [], ◌∷◌, ℤ, ◌≤ℤ◌, ◌<ℤ◌, Some, None, sym, refl, ap, ◌∙◌, add-zero, add-one, arith}
use native.Mathlib.Nat.{sub-zero}
use lib.Signed.{lt_z, le_z}
use Rattle.std.proofs.lemmas.Int.{ints, by_lt_z}
use Rattle.zone_rule.specs.declared.step.Step.{Step}
use Rattle.zone_rule.specs.Steps.{offset_at, change_in, alters_at}
use Rattle.zone_rule.specs.StepLaws.{under, upon}
use Rattle.file_zone.specs.Blocks.{second_at, index_of, offset_of, offset_after, steps_from, Passed}

left : (n k : ℕ) → k < n → n - k ≡ suc (n - (k + 1))
left n k h = omega arith

-- the offset after the transitions k, k + 1 and so on, d of them
abbrev last_of : List ℕ → ℕ → ℤ → ℕ → ℕ → ℤ
last_of b n o k zero = o
last_of b n o k (suc d) = last_of b n (offset_of b n (index_of b n k)) (suc k) d

last_is : (b : List ℕ) (n : ℕ) (k d : ℕ) (o : ℤ) → last_of b n o k (suc d) ≡ offset_after b n (suc (k + d))
last_is b n k zero o = rw add-zero
last_is b n k (suc d) o = last_is b n (suc k) d (offset_of b n (index_of b n k)) ∙ ap (offset_after b n) (let e : suc (suc k + d) ≡ suc (k + suc d) = omega arith in e)

last_first : (b : List ℕ) (n d : ℕ) → last_of b n (offset_of b n 0) 0 d ≡ offset_after b n d
last_first b n zero = refl
last_first b n (suc d) = last_is b n 0 d (offset_of b n 0) ∙ ap (offset_after b n) (let e : suc (0 + d) ≡ suc d = omega arith in e)

offset_from : (b : List ℕ) (n : ℕ) (s : ℤ) (m k d : ℕ) (o : ℤ) → d ≤ m → ((j : ℕ) → k ≤ j → j < k + d → second_at b j ≤ℤ s) → ((j : ℕ) → k + d ≤ j → j < k + m → s <ℤ second_at b j) → offset_at o (steps_from b n k m) s ≡ last_of b n o k d
offset_from b n s zero k zero o h p q = refl
offset_from b n s zero k (suc d) o h p q = absurd (omega arith)
offset_from b n s (suc m) k zero o h p q =
    under (record { at = second_at b k; offset = offset_of b n (index_of b n k) }) (steps_from b n (suc k) m) o s (q k (omega arith) (omega arith))
offset_from b n s (suc m) k (suc d) o h p q =
    upon (record { at = second_at b k; offset = offset_of b n (index_of b n k) }) (steps_from b n (suc k) m) o s (p k (omega arith) (omega arith))
    ∙ offset_from b n s m (suc k) d (offset_of b n (index_of b n k)) (omega arith) (λ j i l. p j (omega arith) (omega arith)) (λ j i l. q j (omega arith) (omega arith))

-- the offset at a second is that after the transitions passed
pub offset_passed : (b : List ℕ) (n : ℕ) (s : ℤ) (r : ℕ) → Passed b n s r → offset_at (offset_of b n 0) (steps_from b n 0 n) s ≡ offset_after b n r
offset_passed b n s r p =
    offset_from b n s n 0 r (offset_of b n 0) p.most (λ j i l. p.before j (omega arith)) (λ j i l. p.after j (omega arith) (omega arith))
    ∙ last_first b n r

-- no change comes after a second and not after it
no_change : (cs : List Step) (o a b : ℤ) → b ≤ℤ a → change_in o cs a b ≡ None
no_change [] o a b h = refl
no_change (c ∷ cs) o a b h =
    by_lt_z c.at b
    (λ lt. let p : le_z b c.at ≡ false = grind (arith, ints) in let q : lt_z a c.at ≡ false = grind (arith, ints) in rw (p, q) (no_change cs c.offset a b h))
    (λ le. let p : le_z b c.at ≡ true = grind (arith, ints) in rw p)

-- a transition that is passed changes nothing
pub change_passed : (c : Step) (cs : List Step) (o a b : ℤ) → c.at ≤ℤ a → change_in o (c ∷ cs) a b ≡ change_in c.offset cs a b
change_passed c cs o a b h =
    by_lt_z c.at b
    (λ lt. let p : le_z b c.at ≡ false = grind (arith, ints) in let q : lt_z a c.at ≡ false = grind (arith, ints) in rw (p, q))
    (λ le. let p : le_z b c.at ≡ true = grind (arith, ints) in rw p (sym (no_change cs c.offset a b (grind (arith, ints)))))

change_from : (b : List ℕ) (n : ℕ) (s t : ℤ) (m k d : ℕ) (o : ℤ) → d ≤ m → ((j : ℕ) → k ≤ j → j < k + d → second_at b j ≤ℤ s) → change_in o (steps_from b n k m) s t ≡ change_in (last_of b n o k d) (steps_from b n (k + d) (m - d)) s t
change_from b n s t m k zero o h p = rw (add-zero, sub-zero)
change_from b n s t zero k (suc d) o h p = absurd (omega arith)
change_from b n s t (suc m) k (suc d) o h p =
    let e : suc k + d ≡ k + suc d = omega arith in
    let g : m - d ≡ suc m - suc d = omega arith in
    change_passed (record { at = second_at b k; offset = offset_of b n (index_of b n k) }) (steps_from b n (suc k) m) o s t (p k (omega arith) (omega arith))
    ∙ rw (← e, ← g) (change_from b n s t m (suc k) d (offset_of b n (index_of b n k)) (omega arith) (λ j i l. p j (omega arith) (omega arith)))

module _ (b : List ℕ) (n : ℕ) (s t : ℤ) where
  -- the search for a change starts after the transitions passed
  pub change_start : (r : ℕ) → Passed b n s r → change_in (offset_of b n 0) (steps_from b n 0 n) s t ≡ change_in (offset_after b n r) (steps_from b n r (n - r)) s t
  change_start r p =
      let e : 0 + r ≡ r = omega arith in
      change_from b n s t n 0 r (offset_of b n 0) p.most (λ j i l. p.before j (omega arith))
      ∙ rw (last_first b n r, e)

  -- and then goes from one to the next
  pub change_stop : (k : ℕ) (o : ℤ) → k < n → t ≤ℤ second_at b k → change_in o (steps_from b n k (n - k)) s t ≡ None
  change_stop k o h e = let q : le_z t (second_at b k) ≡ true = grind (arith, ints) in rw (left n k h, q)

  pub change_here : (k : ℕ) (o : ℤ) → k < n → second_at b k <ℤ t → s <ℤ second_at b k → (offset_of b n (index_of b n k) ≡ o → ⊥) → change_in o (steps_from b n k (n - k)) s t ≡ Some (second_at b k)
  change_here k o h e l d =
      let q : le_z t (second_at b k) ≡ false = grind (arith, ints) in
      let a : alters_at o s (second_at b k) (offset_of b n (index_of b n k)) ≡ true = grind (arith, ints) in
      rw (left n k h, q, a)

  pub change_more : (k : ℕ) (o : ℤ) → k < n → second_at b k <ℤ t → offset_of b n (index_of b n k) ≡ o → change_in o (steps_from b n k (n - k)) s t ≡ change_in o (steps_from b n (k + 1) (n - (k + 1))) s t
  change_more k o h e d =
      let q : le_z t (second_at b k) ≡ false = grind (arith, ints) in
      let a : alters_at o s (second_at b k) (offset_of b n (index_of b n k)) ≡ false = grind (arith, ints) in
      rw (left n k h, q, a, d, add-one)
