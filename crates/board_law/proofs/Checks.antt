-- What the checks tell when they pass, and by what they refuse.
use Rattle.std.proofs.Common.{◌≡◌, ℕ, ◌<◌, Bool, true, false, cond, ltb, Some, None, Ok, Err, Option, Result, ok_or, sym, refl, ap, ◌∙◌, subst}
use Rattle.std.proofs.lemmas.Bool.{ltb-true, lt-ltb}
use Rattle.timebase.specs.declared.fault.Fault.{Fault}
use Rattle.timebase.specs.declared.fault.Fault.TheVariants.{SlotOff, SlotEmpty}
use Rattle.local_times.specs.Chains.{◌>>=◌}
use Rattle.local_times.proofs.Results.{err_ok, ok_same}
use Rattle.span_law.proofs.Steps.{none_some, some_same}
use Rattle.board_law.specs.Boards.{kept, on_shelf, filled}

-- ── chains ──

pub then_is : {A B : Type 0} (r : Result A Fault) (k : A → Result B Fault) (a : A) → r ≡ Ok a → (r >>= k) ≡ k a
then_is r k a e = ap (λ o. o >>= k) e

-- what is refused was refused by a step, and then by what follows it
pub then_refused : {A B : Type 0} (P : Fault → Type 0) (r : Result A Fault) (k : A → Result B Fault) (x : Fault) →
    ((y : Fault) → r ≡ Err y → P y) → ((a : A) → r ≡ Ok a → k a ≡ Err x → P x) → (r >>= k) ≡ Err x → P x
then_refused P (Ok a) k x f g e = g a refl e
then_refused P (Err y) k x f g e = let s : y ≡ x = cc in subst P s (f y refl)

-- what came through three checks
pub three : {A : Type 0} (p q r : Result (Unit {0}) Fault) (k : Result A Fault) (a : A) → (p >>= λ _. q >>= λ _. r >>= λ _. k) ≡ Ok a →
    (p ≡ Ok tt) × (q ≡ Ok tt) × (r ≡ Ok tt) × (k ≡ Ok a)
three (Ok t) (Ok u) (Ok v) k a e = (refl, refl, refl, e)
three (Ok t) (Ok u) (Err x) k a e = err_ok e
three (Ok t) (Err x) r k a e = err_ok e
three (Err x) q r k a e = err_ok e

-- ── slots ──

pub on_shelf_tells : (slots n which : ℕ) (u : Unit {0}) → on_shelf slots n which ≡ Ok u → n < slots
on_shelf_tells slots n which u e = by (ltb n slots) refl e
  where
    by : (t : Bool) → ltb n slots ≡ t → ◌≡◌ {A = Result (Unit {0}) Fault} (cond t (Ok tt) (Err (SlotOff which))) (Ok u) → n < slots
    by true f g = ltb-true n slots f
    by false f g = err_ok g

pub on_shelf_is : (slots n which : ℕ) → n < slots → on_shelf slots n which ≡ Ok tt
on_shelf_is slots n which h = ap (λ (t : Bool). cond t (Ok tt) (Err (SlotOff which))) (lt-ltb n slots h)

pub on_shelf_refused : (P : Fault → Type 0) (slots n which : ℕ) (x : Fault) → P (SlotOff which) → on_shelf slots n which ≡ Err x → P x
on_shelf_refused P slots n which x p e = by (ltb n slots) e
  where
    by : (t : Bool) → ◌≡◌ {A = Result (Unit {0}) Fault} (cond t (Ok tt) (Err (SlotOff which))) (Err x) → P x
    by true f = err_ok (sym f)
    by false f = let s : SlotOff which ≡ x = cc in subst P s p

module _ {A : Type 0} where
  pub filled_tells : (o : Option A) (which : ℕ) (a : A) → filled o which ≡ Ok a → o ≡ Some a
  filled_tells (Some x) which a e = ap Some (ok_same e)
  filled_tells None which a e = err_ok e

  pub filled_refused : (P : Fault → Type 0) (o : Option A) (which : ℕ) (x : Fault) → P (SlotEmpty which) → filled o which ≡ Err x → P x
  filled_refused P (Some a) which x p e = err_ok (sym e)
  filled_refused P None which x p e = let s : SlotEmpty which ≡ x = cc in subst P s p

  pub kept_tells : (there : A → Bool) (o : Option A) (a : A) → kept there o ≡ Some a → (o ≡ Some a) × (there a ≡ true)
  kept_tells there (Some x) a e = by (there x) refl e
    where
      by : (t : Bool) → there x ≡ t → cond t (Some x) None ≡ Some a → (Some x ≡ Some a) × (there a ≡ true)
      by true f g = (g, subst (λ (y : A). there y ≡ true) (some_same g) f)
      by false f g = none_some g
  kept_tells there None a e = none_some e

  pub kept_is : (there : A → Bool) (o : Option A) (a : A) → o ≡ Some a → there a ≡ true → kept there o ≡ Some a
  kept_is there o a e h = ap (kept there) e ∙ ap (λ (t : Bool). cond t (Some a) None) h

  -- what is found, by whatever refusal it would be missed
  pub found_tells : (o : Option A) (x : Fault) (a : A) → ok_or o x ≡ Ok a → o ≡ Some a
  found_tells (Some b) x a e = ap Some (ok_same e)
  found_tells None x a e = err_ok e
