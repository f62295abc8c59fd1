-- What a source of one zone answers: the values and changes of its rule in the range, whose ends hold beyond it.
use Rattle.std.proofs.Common.{◌≡◌, ℕ, ◌<◌, ◌≤◌, ◌⊎◌, List, ℤ, pos, ◌-ℤ◌, ◌<ℤ◌, Some, None, Option, sym, ap, ◌∙◌, subst, inl, inr, arith, Bor}
use Rattle.std.proofs.lemmas.Int.{ints, by_lt_z}
use Rattle.zone.specs.declared.value.Value.{Value}
use Rattle.zone.specs.Zones.{Zone, FirstChange, NameIs, ValueIs, ChangeIs}
use Rattle.zone_rule.specs.Ranges.{held, cut_low, cut_high}
use Rattle.zone_rule.specs.Naming.{one_or_none, named_zone}

-- a zone whose ends hold changes only inside its range
module _ {X : Type 0} (f : ℤ → X) (a b : ℤ) where
  inside : (t : ℤ) → cut_low a <ℤ t → t <ℤ cut_high b → (held t ≡ t) × (held (t -ℤ pos 1) ≡ t -ℤ pos 1)
  inside t h k = (grind (arith, ints), grind (arith, ints))

  outside : (t : ℤ) → a <ℤ t → t <ℤ b → ((cut_low a <ℤ t) × (t <ℤ cut_high b)) ⊎ (held t ≡ held (t -ℤ pos 1))
  outside t h k = by_lt_z (cut_low a) t (λ p. by_lt_z t (cut_high b) (λ q. inl (p, q)) (λ q. inr (grind (arith, ints)))) (λ p. inr (grind (arith, ints)))

  steady_held : (t : ℤ) → a <ℤ t → t <ℤ b → (cut_low a <ℤ t → t <ℤ cut_high b → f t ≡ f (t -ℤ pos 1)) → f (held t) ≡ f (held (t -ℤ pos 1))
  steady_held t h k st =
      elim (outside t h k) [
        | inl p ↦ let i = inside t p.0 p.1 in ap f i.0 ∙ st p.0 p.1 ∙ sym (ap f i.1)
        | inr p ↦ ap f p
      ]

  pub held_change : (q : Option ℤ) → FirstChange f (cut_low a) (cut_high b) q → FirstChange (λ s. f (held s)) a b q
  held_change None st = λ t h k. steady_held t h k (st t)
  held_change (Some s) g =
      let i = inside s g.after g.before in
      let lo : a <ℤ s = let h = g.after in grind (arith, ints) in
      let hi : s <ℤ b = let h = g.before in grind (arith, ints) in
      record {
        after = lo;
        before = hi;
        steady = λ t h k. steady_held t h (omega (arith, ints)) (λ p _. g.steady t p k);
        differs = λ e. g.differs (sym (ap f i.0) ∙ e ∙ ap f i.1);
      }

-- ── a zone under a name ──

module _ (name : List ℕ) (told : Zone) where
  pub counted : (r : ℕ) → r ≡ one_or_none name → r ≡ (named_zone name told).count
  unfolding named_zone
  counted r e = e

  module _ (zone n : ℕ) (e : n ≡ one_or_none name) where
    pub out : n ≤ zone → (named_zone name told).count ≤ zone
    unfolding named_zone
    out h = rw (← e) h

    there : zone < n → zone < (named_zone name told).count
    unfolding named_zone
    there h = rw (← e) h

    pub name_is : (x : Bor (List ℕ)) → zone < n → x.now ≡ name → NameIs (named_zone name told) zone (Some x)
    unfolding named_zone
    name_is x h k = (there h, k)

    pub value_is : (s t : ℤ) (v : Value) → zone < n → v ≡ told t → t ≡ held s → ValueIs (named_zone name told) zone s (Some v)
    unfolding named_zone
    value_is s t v h k e = (there h, k ∙ ap told e)

    change_held : (a b : ℤ) (q : Option ℤ) → zone < n → FirstChange told (cut_low a) (cut_high b) q → ChangeIs (named_zone name told) zone a b q
    unfolding named_zone
    change_held a b None h f = λ _. held_change told a b None f
    change_held a b (Some s) h f = (there h, held_change told a b (Some s) f)

    pub change_is : (a b x y : ℤ) (q : Option ℤ) → zone < n → FirstChange told x y q → x ≡ cut_low a → y ≡ cut_high b → ChangeIs (named_zone name told) zone a b q
    change_is a b x y q h f ex ey = change_held a b q h (subst (λ (z : ℤ). FirstChange told (cut_low a) z q) ey (subst (λ (z : ℤ). FirstChange told z y q) ex f))
