-- Which table has a number.
use Rattle.std.proofs.Common.{◌≡◌, ℕ, ◌+◌, ◌-◌, ◌<◌, ◌≤◌, Bool, true, false, cond, ltb, leb, ◌⊎◌, refl, inl, inr, arith, Some, None, Option}
use Rattle.std.proofs.lemmas.Bool.{ltb-true, ltb-false, lt-ltb, le-ltb, leb-true}
use Rattle.side_by_side.specs.declared.Place.{Place}
use Rattle.side_by_side.specs.declared.Place.TheVariants.{First, Second}
use Rattle.side_by_side.specs.Places.{joined_count, place_of, at_place}

module _ (a b : ℕ) where
  -- how many there are in all
  all_count : (c : Bool) → leb (a + b) 64 ≡ c → ((joined_count a b ≡ a + b) × ((a + b) ≤ 64)) ⊎ (joined_count a b ≡ a)
  all_count true h = inl (rw h refl, leb-true (a + b) 64 h)
  all_count false h = inr (rw h refl)

  pub low_count : a ≤ joined_count a b
  low_count = elim (all_count _ refl) [ inl e ↦ omega (arith, e.0) | inr e ↦ omega (arith, e) ]

  pub few : a ≤ 64 → joined_count a b ≤ 64
  few h = elim (all_count _ refl) [ inl e ↦ omega (arith, e.0, e.1) | inr e ↦ omega (arith, e) ]

  pub second_there : (k : ℕ) → a ≤ k → k < joined_count a b → k - a < b
  second_there k low high = elim (all_count _ refl) [ inl e ↦ omega (arith, e.0) | inr e ↦ absurd (omega (arith, e)) ]

  abbrev by_tests : Bool → Bool → ℕ → Option Place
  by_tests x y k = cond x (Some (First k)) (cond y (Some (Second (k - a))) None)

  first_tells : (k j : ℕ) (x y : Bool) → ltb k a ≡ x → Some (First j) ≡ by_tests x y k → (j ≡ k) × (k < a)
  first_tells k j true y h e = let same : j ≡ k = cc in (same, ltb-true k a h)
  first_tells k j false true h e = let z : ◌≡◌ {A = ℕ} 0 1 = cc in absurd (omega arith)
  first_tells k j false false h e = let z : ◌≡◌ {A = ℕ} 0 1 = cc in absurd (omega arith)

  second_tells : (k j : ℕ) (x y : Bool) → ltb k a ≡ x → ltb k (joined_count a b) ≡ y → Some (Second j) ≡ by_tests x y k → (j ≡ k - a) × (a ≤ k) × (k < joined_count a b)
  second_tells k j true y h g e = let z : ◌≡◌ {A = ℕ} 0 1 = cc in absurd (omega arith)
  second_tells k j false true h g e = let same : j ≡ k - a = cc in (same, ltb-false k a h, ltb-true k (joined_count a b) g)
  second_tells k j false false h g e = let z : ◌≡◌ {A = ℕ} 0 1 = cc in absurd (omega arith)

  nowhere_tells : (k : ℕ) (x y : Bool) → ltb k (joined_count a b) ≡ y → None ≡ by_tests x y k → joined_count a b ≤ k
  nowhere_tells k true y g e = let z : ◌≡◌ {A = ℕ} 0 1 = cc in absurd (omega arith)
  nowhere_tells k false true g e = let z : ◌≡◌ {A = ℕ} 0 1 = cc in absurd (omega arith)
  nowhere_tells k false false g e = ltb-false k (joined_count a b) g

  pub first_is : (k j : ℕ) → Some (First j) ≡ place_of a b k → (j ≡ k) × (k < a)
  first_is k j e = first_tells k j _ _ refl e

  pub second_is : (k j : ℕ) → Some (Second j) ≡ place_of a b k → (j ≡ k - a) × (a ≤ k) × (k < joined_count a b)
  second_is k j e = second_tells k j _ _ refl refl e

  pub nowhere_is : (k : ℕ) → None ≡ place_of a b k → joined_count a b ≤ k
  nowhere_is k e = nowhere_tells k _ _ refl e

-- what stands at a number of either table
module _ {X : Type 0} (a : ℕ) (f g : ℕ → X) (k : ℕ) where
  pub in_first : k < a → at_place a f g k ≡ f k
  in_first h = rw (lt-ltb k a h) refl

  pub in_second : a ≤ k → at_place a f g k ≡ g (k - a)
  in_second h = rw (le-ltb k a h) refl
