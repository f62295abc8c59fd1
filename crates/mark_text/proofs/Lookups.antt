-- The lowest number that bears a name, as a source finds it.
use Rattle.std.proofs.Common.{◌≡◌, ◌≢◌, ℕ, zero, suc, ◌<◌, ◌≤◌, Bool, true, false, cond, List, Some, None, Option, MatchOption, IfOk, sym, refl, ap, ◌∙◌, subst, ⊎_elim, arith}
use Rattle.std.proofs.lemmas.Bool.{cases_lt, cond_both, both_ways}
use Rattle.std.proofs.lemmas.Slice.Eq.{bytes_eq-Decides}
use Rattle.std.specs.Str.{bytes_eq}
use Rattle.std.specs.Prelude.{Decides, ok_or}
use Rattle.timebase.specs.declared.fault.Fault.{Fault}
use Rattle.mark_text.specs.Marks.{Lowest, number_of}

other_bytes : (t : Bool) (a b : List ℕ) → Decides t (a ≡ b) → a ≢ b → t ≡ false
other_bytes true a b d n = absurd (n (d.0 refl))
other_bytes false a b d n = refl

module _ (name : ℕ → List ℕ) (n : List ℕ) where
  abbrev next : ℕ → Option ℕ → Option ℕ
  next c o = elim o [ Some i ↦ Some i | None ↦ cond (bytes_eq (name c) n) (Some c) None ]

  -- a name that none bears isn't found
  pub none_bears : (c : ℕ) → ((k : ℕ) → k < c → name k ≢ n) → number_of name c n ≡ None
  none_bears zero h = refl
  none_bears (suc c) h =
      ap (next c) (none_bears c (λ k l. h k (omega arith)))
      ∙ ap (λ (t : Bool). cond t (Some c) None) (other_bytes (bytes_eq (name c) n) (name c) n (bytes_eq-Decides (name c) n) (h c (omega arith)))

  one_bears : (c i : ℕ) → i < c → name i ≡ n → ((k : ℕ) → k < i → name k ≢ n) → number_of name c n ≡ Some i
  one_bears zero i l e h = absurd (omega arith)
  one_bears (suc c) i l e h =
      ⊎_elim
      (λ (m : i < c). ap (next c) (one_bears c i m e h))
      (λ (m : c ≤ i).
      let s : i ≡ c = omega arith in
      let f : name c ≡ n = ap name (sym s) ∙ e in
      ap (next c) (none_bears c (λ k q. h k (omega arith)))
      ∙ ap (λ (t : Bool). cond t (Some c) None) ((bytes_eq-Decides (name c) n).1 f)
      ∙ ap Some (sym s))
      (cases_lt i c)

  -- what a source finds
  pub found_is : (c : ℕ) (r : Option ℕ) → MatchOption r ((k : ℕ) → k < c → name k ≢ n) (λ i. (i < c) × (name i ≡ n) × ((k : ℕ) → k < i → name k ≢ n)) → r ≡ number_of name c n
  found_is c None h = sym (none_bears c h)
  found_is c (Some i) (l, e, h) = sym (one_bears c i l e h)

  -- a number that was found bears the name, lowest
  pub lowest_is : (c : ℕ) (r : Option ℕ) → MatchOption r ((k : ℕ) → k < c → name k ≢ n) (λ i. (i < c) × (name i ≡ n) × ((k : ℕ) → k < i → name k ≢ n)) → (e : Fault) → IfOk (ok_or r e) (Lowest name c n)
  lowest_is c None h e = tt
  lowest_is c (Some i) (l, b, h) e = record { there = l; bears = b; lowest = h }

  -- and the lowest is found
  pub lowest_found : (c i : ℕ) → Lowest name c n i → number_of name c n ≡ Some i
  lowest_found c i l = one_bears c i l.there l.bears l.lowest

  -- what is found bears the name, lowest; and where none is found, none bears it
  pub number_told : (c : ℕ) → MatchOption (number_of name c n) ((k : ℕ) → k < c → name k ≢ n) (Lowest name c n)
  number_told zero = λ k l. absurd (omega arith)
  number_told (suc c) = by (number_of name c n) (number_told c)
    where
      by : (o : Option ℕ) → MatchOption o ((k : ℕ) → k < c → name k ≢ n) (Lowest name c n) → MatchOption (next c o) ((k : ℕ) → k < suc c → name k ≢ n) (Lowest name (suc c) n)
      by (Some i) l = record { there = omega (arith, l.there); bears = l.bears; lowest = l.lowest }
      by None h =
          let same = bytes_eq-Decides (name c) n in
          cond_both (bytes_eq (name c) n) (Some c) None (λ (o : Option ℕ). MatchOption o ((k : ℕ) → k < suc c → name k ≢ n) (Lowest name (suc c) n))
          (λ t. record { there = omega arith; bears = same.0 t; lowest = h })
          (λ f k l e. ⊎_elim (λ (m : k < c). h k m e) (λ (m : c ≤ k). let s : c ≡ k = omega arith in both_ways (bytes_eq (name c) n) f (same.1 (ap name s ∙ e))) (cases_lt k c))

  pub number_lowest : (c i : ℕ) → number_of name c n ≡ Some i → Lowest name c n i
  number_lowest c i e = subst (λ (o : Option ℕ). MatchOption o ((k : ℕ) → k < c → name k ≢ n) (Lowest name c n)) e (number_told c)

-- what finding answers, at the bytes that were looked for
pub answers : (name : ℕ → List ℕ) (c : ℕ) (n m : List ℕ) (r : Option ℕ) (e : Fault) → n ≡ m → MatchOption r ((k : ℕ) → k < c → name k ≢ n) (λ i. (i < c) × (name i ≡ n) × ((k : ℕ) → k < i → name k ≢ n)) → ok_or r e ≡ ok_or (number_of name c m) e
answers name c n m r e f h = ap (λ (o : Option ℕ). ok_or o e) (found_is name n c r h ∙ ap (number_of name c) f)

-- a number that bears a name, lowest, bears its own name, lowest
pub own : {name : ℕ → List ℕ} {c : ℕ} {n : List ℕ} {i : ℕ} → Lowest name c n i → Lowest name c (name i) i
own l = record { there = l.there; bears = refl; lowest = λ k q e. l.lowest k q (e ∙ l.bears) }

pub number_own : (name : ℕ → List ℕ) (n : List ℕ) (c i : ℕ) → number_of name c n ≡ Some i → Lowest name c (name i) i
number_own name n c i e = own (number_lowest name n c i e)
