-- A source of one zone keeps the laws of every source.
use Rattle.std.proofs.Common.{◌≡◌, ℕ, ◌<◌, List, ℤ, ◌≤ℤ◌, is_ok, ap, arith}
use Rattle.std.proofs.lemmas.Int.{ints}
use Rattle.names.specs.ZoneScanning.{read_zone_name}
use Rattle.zone.specs.Zones.{Zone, ZonesLaws, SoundValue, least_second, greatest_second}
use Rattle.zone_rule.specs.Ranges.{held}
use Rattle.zone_rule.specs.Naming.{named_zone}
use Rattle.zone_rule.specs.StepLaws.{by_test}

module _ (name : List ℕ) (told : Zone) where
  pub named_laws : ((s : ℤ) → SoundValue (told s)) → ZonesLaws (named_zone name told)
  unfolding named_zone
  named_laws sound = record {
    few = by_test (is_ok (read_zone_name name)) (λ e. rw e (omega arith)) (λ e. rw e (omega arith));
    named = λ i h. by_test (is_ok (read_zone_name name)) (λ e. e) (λ e. let no : i < 0 = rw e at h in absurd (omega arith));
    each = λ _ _. record {
      sound = λ s. sound (held s);
      before = λ s h. ap told (lower s h);
      after = λ s h. ap told (upper s h);
    };
  }
    where
      lower : (s : ℤ) → s ≤ℤ least_second → held s ≡ held least_second
      lower s h = grind (arith, ints)

      upper : (s : ℤ) → greatest_second ≤ℤ s → held s ≡ held greatest_second
      upper s h = grind (arith, ints)
