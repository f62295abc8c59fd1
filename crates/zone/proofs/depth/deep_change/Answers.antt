use Rattle.std.proofs.Common.{rules}
use Rattle.std.proofs.Common.{◌≡◌, ℤ, pos, ◌-ℤ◌, sym, ap, subst, arith, w64, to_z, of_z}
use Rattle.std.proofs.lemmas.Int.{ints, by_lt_z}
use Rattle.zone.specs.declared.value.Value.{Value}
use Rattle.zone.specs.Zones.{FirstAt}
use Rattle.zone.specs.Joining.{deeper_of}
use Rattle.zone.proofs.depth.deep_change.Goals as goal

-- the two values that were read at s and before it
deep_differs : (f : ℤ → Value) (s s₁ s₂ : ℤ) (v w p q : Value) → v ≡ f s₁ → w ≡ f s₂ → s₁ ≡ s → s₂ ≡ s -ℤ pos 1 → p ≡ deeper_of v → q ≡ deeper_of w → (p ≡ q → ⊥) → deeper_of (f s) ≡ deeper_of (f (s -ℤ pos 1)) → ⊥
deep_differs f s s₁ s₂ v w p q a b e₁ e₂ k l d e = d (cc)

deep_same : (f : ℤ → Value) (s s₁ s₂ t : ℤ) (v w p q : Value) → v ≡ f s₁ → w ≡ f s₂ → s₁ ≡ s → s₂ ≡ s -ℤ pos 1 → p ≡ deeper_of v → q ≡ deeper_of w → p ≡ q → t ≡ s → deeper_of (f t) ≡ deeper_of (f (t -ℤ pos 1))
deep_same f s s₁ s₂ t v w p q a b e₁ e₂ k l d e = cc

pub returns-then-ne : goal.returns-then-ne
returns-then-ne g c =
    let f = (g.Z.ZoneSource.zones c.args.source.now).value c.args.zone in
    let at = c.in-Some.ensures in
    let s = c.in-Some.s in
    let here : to_z w64 (of_z w64 s) ≡ s = omega (arith, ints) in
    let P : ℤ → Type 0 = λ x. FirstAt (λ t. deeper_of (f t)) c.args.after c.args.before x in (
      at.0,
      subst P (sym here) (record {
        after = omega (arith, ints);
        before = omega (arith, ints);
        steady = λ t a b. by_lt_z c.loop-s.from t
            (λ lt. ap deeper_of (at.1.steady t (omega (arith, ints)) b))
            (λ le. c.loop-s.invariant.1 t (omega (arith, ints)) (omega (arith, ints)) at.0);
        differs = deep_differs f s _ _ _ _ _ _ c.in-Some-Some.ensures.1 c.in-Some-Some.ensures'.1 here (omega (arith, ints)) c.deeper.ensures c.deeper-in-Some-Some.ensures (search rules);
      }),
    )

pub loop-s-preserved-else-ne : goal.loop-s-preserved-else-ne
loop-s-preserved-else-ne g c =
    let f = (g.Z.ZoneSource.zones c.args.source.now).value c.args.zone in
    let at = c.in-Some.ensures in
    let s = c.in-Some.s in
    let here : to_z w64 (of_z w64 s) ≡ s = omega (arith, ints) in (
      omega (arith, ints),
      λ t a b h. by_lt_z c.loop-s.from t
          (λ lt. by_lt_z t s
          (λ lo. ap deeper_of (at.1.steady t (omega (arith, ints)) (omega (arith, ints))))
          (λ hi. deep_same f s _ _ t _ _ _ _ c.in-Some-Some.ensures.1 c.in-Some-Some.ensures'.1 here (omega (arith, ints)) c.deeper.ensures c.deeper-in-Some-Some.ensures (search rules) (omega (arith, ints))))
          (λ le. c.loop-s.invariant.1 t (omega (arith, ints)) (omega (arith, ints)) h),
    )

pub returns : goal.returns
returns g c =
    λ h t a b. by_lt_z c.loop-s.from t
    (λ lt. ap deeper_of (c.in_default.ensures h t (omega (arith, ints)) (omega (arith, ints))))
    (λ le. c.loop-s.invariant.1 t (omega (arith, ints)) (omega (arith, ints)) h)
