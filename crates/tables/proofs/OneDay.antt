-- A date is that of one day alone.
use Rattle.std.proofs.Common.{◌≡◌, ℕ, ◌-◌, eqb, Decides, Some, None, Option, sym, ◌∙◌, subst, ⊎_elim, arith}
use Rattle.std.specs.Option.{option_eq}
use Rattle.std.proofs.lemmas.Bool.{cases_order, eqb-true, eq-eqb, false≢true}
use Rattle.years.specs.declared.date.Date.{Date}
use Rattle.years.specs.Dates.{Years, after, Before}
use Rattle.years.specs.Days.{HasDate, DayAnswer}
use Rattle.years.proofs.Order.{rises, before_irrefl}

module _ (ys : Years) where
  one_day : (i j : ℕ) → after ys.shape ys.origin i ≡ after ys.shape ys.origin j → i ≡ j
  one_day i j e =
      ⊎_elim (λ p. p)
      (⊎_elim (λ l. absurd (before_irrefl (after ys.shape ys.origin j) (subst (λ (x : Date). Before x (after ys.shape ys.origin j)) e (rises ys.shape ys.origin i j l))))
      (λ l. absurd (before_irrefl (after ys.shape ys.origin j) (subst (λ (x : Date). Before (after ys.shape ys.origin j) x) e (rises ys.shape ys.origin j i l)))))
      (cases_order i j)

  -- what is answered of a date is the only day that has it
  pub found_day : (d : Date) (m : ℕ) (r : Option ℕ) → DayAnswer ys d r → Decides (option_eq eqb r (Some m)) (HasDate ys m d)
  found_day d m (Some n) (p, e) = (
    λ t. subst (λ (k : ℕ). HasDate ys k d) (eqb-true n m t) (p, e),
    λ (q, f). let h = one_day (n - 1) (m - 1) (sym e ∙ f) in let a = p.low in let b = q.low in eq-eqb n m (omega arith),
  )
  found_day d m None a = (λ t. absurd (false≢true t), λ h. absurd (a m h.0 h.1))
