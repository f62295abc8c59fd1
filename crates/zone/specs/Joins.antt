-- Two lawful tables side by side are lawful.
use Rattle.std.proofs.Common.{◌≡◌, ℕ, ◌-◌, ◌<◌, ◌≤◌, is_ok, sym, refl, ap, ◌∙◌, subst, inl, inr, arith}
use Rattle.std.proofs.lemmas.Bool.{cases_lt}
use Rattle.names.specs.ZoneScanning.{read_zone_name}
use Rattle.side_by_side.specs.Places.{joined_count}
use Rattle.side_by_side.proofs.Placed.{few, second_there, in_first, in_second}
use Rattle.zone.specs.declared.value.Value.{Value}
use Rattle.zone.specs.declared.value.Value.TheVariants.{Offset, Blank}
use Rattle.zone.specs.Zones.{Zone, Zones, ZonesLaws, ZoneLaws, SoundValue}
use Rattle.zone.specs.Joining.{deeper_of, deepened, joined}

sound_deeper : (v : Value) → SoundValue v → SoundValue (deeper_of v)
sound_deeper (Offset o) h = h
sound_deeper (Blank cause depth) h = (h.0, omega arith)

deeper_laws : (f : Zone) → ZoneLaws f → ZoneLaws (λ s. deeper_of (f s))
deeper_laws f l = record {
  sound = λ s. sound_deeper (f s) (l.sound s);
  before = λ s h. ap deeper_of (l.before s h);
  after = λ s h. ap deeper_of (l.after s h);
}

module _ (a b : Zones) where
  pub counted : (joined a b).count ≡ joined_count a.count b.count
  unfolding joined
  counted = refl

  pub first_name : (k : ℕ) → k < a.count → (joined a b).name k ≡ a.name k
  unfolding joined
  first_name k h = in_first a.count a.name b.name k h

  pub second_name : (k : ℕ) → a.count ≤ k → (joined a b).name k ≡ b.name (k - a.count)
  unfolding joined
  second_name k h = in_second a.count a.name b.name k h

  pub first_zone : (k : ℕ) → k < a.count → (joined a b).value k ≡ (deepened a).value k
  unfolding joined
  first_zone k h = let seen : Zone → Zone = λ f s. deeper_of (f s) in ap seen (in_first a.count a.value b.value k h)

  pub second_zone : (k : ℕ) → a.count ≤ k → (joined a b).value k ≡ (deepened b).value (k - a.count)
  unfolding joined
  second_zone k h = let seen : Zone → Zone = λ f s. deeper_of (f s) in ap seen (in_second a.count a.value b.value k h)

  pub joined_laws : ZonesLaws a → ZonesLaws b → ZonesLaws (joined a b)
  joined_laws la lb = record {
    few = rw counted (few a.count b.count la.few);
    named = λ k h. elim (cases_lt k a.count) [
      | inl l ↦ ap (λ n. is_ok (read_zone_name n)) (first_name k l) ∙ la.named k l
      | inr g ↦ ap (λ n. is_ok (read_zone_name n)) (second_name k g) ∙ lb.named (k - a.count) (second_there a.count b.count k g (omega (arith, counted)))
    ];
    each = λ k h. elim (cases_lt k a.count) [
      | inl l ↦ subst ZoneLaws (sym (first_zone k l)) (deeper_laws (a.value k) (la.each k l))
      | inr g ↦ subst ZoneLaws (sym (second_zone k g)) (deeper_laws (b.value (k - a.count)) (lb.each (k - a.count) (second_there a.count b.count k g (omega (arith, counted)))))
    ];
  }
