-- A question to two tables side by side goes to the table that has the number.
use Rattle.std.proofs.Common.{◌≡◌, ℕ, ◌<◌, ◌≤◌, List, ℤ, Some, None, Option, sym, ap, ◌∙◌, subst, arith, Bor}
use Rattle.side_by_side.specs.declared.Place.{Place}
use Rattle.side_by_side.specs.declared.Place.TheVariants.{First, Second}
use Rattle.side_by_side.specs.Places.{place_of}
use Rattle.side_by_side.proofs.Placed.{low_count, second_there, first_is, second_is, nowhere_is}
use Rattle.zone.specs.declared.value.Value.{Value}
use Rattle.zone.specs.Zones.{Zone, Zones, Steady, FirstAt, NameIs, ValueIs, ChangeIs}
use Rattle.zone.specs.Joining.{deepened, joined}
use Rattle.zone.specs.Joins.{counted, first_name, second_name, first_zone, second_zone}

-- ── tables that tell the same of a zone answer alike ──

module _ (y z : Zones) (j i : ℕ) (there : j < y.count) (here : i < z.count) where
  pub name_like : (r : Option (Bor (List ℕ))) → z.name i ≡ y.name j → NameIs y j r → NameIs z i r
  name_like None e n = absurd (omega arith)
  name_like (Some x) e n = (here, n.1 ∙ sym e)

  pub value_like : (s : ℤ) (r : Option Value) → z.value i ≡ y.value j → ValueIs y j s r → ValueIs z i s r
  value_like s None e n = absurd (omega arith)
  value_like s (Some v) e n = (here, n.1 ∙ ap (λ (f : Zone). f s) (sym e))

  pub change_like : (a b : ℤ) (r : Option ℤ) → z.value i ≡ y.value j → ChangeIs y j a b r → ChangeIs z i a b r
  change_like a b None e n = λ _. subst (λ (f : Zone). Steady f a b) (sym e) (n there)
  change_like a b (Some s) e n = (here, subst (λ (f : Zone). FirstAt f a b s) (sym e) n.1)

-- ── questions ──

module _ (a b : Zones) where
  -- the zone of a number of both, in the table that has it
  pub record InFirst (k j : ℕ) : Type 0 where
    pub there : j < a.count
    pub here : k < (joined a b).count
    pub name : (joined a b).name k ≡ a.name j
    pub zone : (joined a b).value k ≡ (deepened a).value j

  pub record InSecond (k j : ℕ) : Type 0 where
    pub there : j < b.count
    pub here : k < (joined a b).count
    pub name : (joined a b).name k ≡ b.name j
    pub zone : (joined a b).value k ≡ (deepened b).value j

  -- a place that was found is that of the number, seen as the code finds it
  pub found_first : (k j : ℕ) (p : Place) (r : Option Place) → r ≡ place_of a.count b.count k → r ≡ Some p → p ≡ First j → InFirst k j
  found_first k j p r e o f =
      let at = first_is a.count b.count k j (cc) in
      let l = low_count a.count b.count in
      subst (InFirst k) (sym at.0) (record { there = at.1; here = omega (arith, counted a b, at.1); name = first_name a b k at.1; zone = first_zone a b k at.1 })

  pub found_second : (k j : ℕ) (p : Place) (r : Option Place) → r ≡ place_of a.count b.count k → r ≡ Some p → p ≡ Second j → InSecond k j
  found_second k j p r e o f =
      let at = second_is a.count b.count k j (cc) in
      subst (InSecond k) (sym at.0) (record { there = second_there a.count b.count k at.1 at.2; here = omega (arith, counted a b, at.2); name = second_name a b k at.1; zone = second_zone a b k at.1 })

  pub found_nowhere : (k : ℕ) (r : Option Place) → r ≡ place_of a.count b.count k → r ≡ None → (joined a b).count ≤ k
  found_nowhere k r e o = let out = nowhere_is a.count b.count k (cc) in omega (arith, counted a b, out)
