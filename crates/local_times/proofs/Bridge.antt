-- The meeting in the rule's own words is the meeting by bounded searches.
use Rattle.std.proofs.Common.{◌≡◌, Bool, true, false, cond, ℤ, pos, ◌+ℤ◌, ◌-ℤ◌, ◌≤ℤ◌, ◌<ℤ◌, Some, Ok, Err, Result, sym, refl, ap, ◌∙◌, inl, inr, arith}
use lib.Signed.{lt_z, le_z}
use Rattle.std.proofs.lemmas.Int.{ints}
use Rattle.std.proofs.lemmas.Bool.Decides.{nat_tests}
use Rattle.timebase.specs.declared.fault.Fault.{Fault}
use Rattle.timebase.proofs.Searches.{first_is, none_found}
use Rattle.zone.specs.declared.value.Value.{Value}
use Rattle.zone.specs.declared.value.Value.TheVariants.{Offset, Blank}
use Rattle.zone.specs.Zones.{Zone, is_blank}
use Rattle.local_times.specs.Meeting.{offset_known, fault_of, is, local_at, first_near, skipped, matched, known, meeting}
use Rattle.local_times.specs.Meets.{Exact, Skipped, Meets}
use Rattle.local_times.proofs.Walks.{ok_err}

is_same : (a b : ℤ) → a ≡ b → is a b ≡ true
is_same a b e = grind (arith, ints, nat_tests)

is_other : (a b : ℤ) → (a ≡ b → ⊥) → is a b ≡ false
is_other a b n = by (le_z a b) (le_z b a) refl refl
  where
    by : (t u : Bool) → le_z a b ≡ t → le_z b a ≡ u → cond t u false ≡ false
    by true true e f = absurd (n (omega (arith, ints)))
    by true false e f = refl
    by false u e f = refl

fault_is : (v : Value) (e : Fault) → Err e ≡ offset_known v → e ≡ fault_of v
fault_is (Offset o) e r = ok_err (sym r)
fault_is (Blank c d) e r = cc

module _ (f : Zone) (l : ℤ) where
  clear_known : ((t : ℤ) → ((l -ℤ pos 86399) ≤ℤ t) × (t ≤ℤ (l +ℤ pos 86399)) → is_blank (f t) ≡ false) →
      meeting f l ≡ matched f l (first_near l (λ i. is (local_at f i) l))
  unfolding meeting
  clear_known h = ap (known f l) (none_found (λ s. is_blank (f s)) (l -ℤ pos 86399) 172799 (λ t a b. h t (a, omega (arith, ints))))

  exact_first : (i : ℤ) → Exact f l i → first_near l (λ i. is (local_at f i) l) ≡ Some i
  exact_first i x =
      let w = x.within in
      first_is (λ i. is (local_at f i) l) (l -ℤ pos 86399) 172799 i w.0 (omega (arith, ints)) (is_same (local_at f i) l x.hits) (λ t a b. is_other (local_at f t) l (x.least t a b))

  skipped_first : (i : ℤ) → Skipped f l i → matched f l (first_near l (λ i. is (local_at f i) l)) ≡ Ok i
  skipped_first i x =
      let p = x.from in
      let w = p.within in
      ap (matched f l) (none_found (λ i. is (local_at f i) l) (l -ℤ pos 86399) 172799 (λ t a b. is_other (local_at f t) l (x.none t (a, omega (arith, ints)))))
      ∙ ap (skipped f l) (first_is (λ j. lt_z l (local_at f j)) (l -ℤ pos 86399) 172799 x.j w.0 (omega (arith, ints)) (sym (after x.j p.past)) (λ t a b. upto t (p.first t a b)))
      ∙ ap Ok (sym x.is)
    where
      after : (j : ℤ) → l <ℤ local_at f j → true ≡ lt_z l (local_at f j)
      after j h = omega (arith, ints)

      upto : (t : ℤ) → local_at f t ≤ℤ l → lt_z l (local_at f t) ≡ false
      upto t h = sym (omega (arith, ints))

  -- what meets is the meeting
  pub is_meeting : (r : Result ℤ Fault) → Meets f l r → r ≡ meeting f l
  unfolding meeting
  is_meeting (Ok i) (h, inl x) = sym (clear_known h ∙ ap (matched f l) (exact_first i x))
  is_meeting (Ok i) (h, inr x) = sym (clear_known h ∙ skipped_first i x)
  is_meeting (Err e) (t, x, b) =
      let w = x.within in
      ap Err (fault_is (f t) e b)
      ∙ sym (ap (known f l) (first_is (λ s. is_blank (f s)) (l -ℤ pos 86399) 172799 t w.0 (omega (arith, ints)) x.blank x.clear))
