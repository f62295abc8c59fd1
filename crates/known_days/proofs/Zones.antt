-- The zones of the known moves as they come out, second by second.
use Rattle.std.proofs.Common.{◌≡◌, false, ◌⊎◌, [], codes, ℤ, pos, ◌≤ℤ◌, ◌<ℤ◌, refl, ap, ◌∙◌, inl, inr, arith}
use Rattle.std.proofs.lemmas.Int.{ints, by_lt_z}
use Rattle.zone.specs.declared.value.Value.TheVariants.{Offset}
use Rattle.zone.specs.Zones.{Zone, ZoneLaws, is_blank, offset}
use Rattle.zone_rule.specs.NamedLaws.{named_laws}
use Rattle.zone_rule.specs.Naming.{named_zone}
use Rattle.zone_rule.specs.Ranges.{held}
use Rattle.zone_rule.specs.StepLaws.{offsets_sound}
use Rattle.board_sources.specs.Sources.{utc as rule_utc, test_changes, test_h as rule_h}

-- ── Test/H ──

unfoldable pub test_h : Zone
test_h s = rule_h (held s)

abbrev offset_h : ℤ → ℤ
offset_h s = offset (rule_h (held s))

told_h : (s : ℤ) → test_h s ≡ Offset (offset_h s)
unfolding test_h
told_h s = refl

early_h : (s : ℤ) → s <ℤ pos 1000000 → offset_h s ≡ pos 3600
early_h s h = grind (arith, ints)

summer_h : (s : ℤ) → pos 1000000 ≤ℤ s → s <ℤ pos 2000000 → offset_h s ≡ pos 7200
summer_h s l h = grind (arith, ints)

late_h : (s : ℤ) → pos 2000000 ≤ℤ s → offset_h s ≡ pos 3600
late_h s h = grind (arith, ints)

-- the three stretches
abbrev pub Stretches : ℤ → ℤ → Type 0
Stretches s o =
    ((s <ℤ pos 1000000) × (o ≡ pos 3600))
    ⊎ (((pos 1000000 ≤ℤ s) × (s <ℤ pos 2000000) × (o ≡ pos 7200))
    ⊎ ((pos 2000000 ≤ℤ s) × (o ≡ pos 3600)))

pub stretches : (s : ℤ) → Stretches s (offset (test_h s))
stretches s =
    let e : offset (test_h s) ≡ offset_h s = ap offset (told_h s) in
    by_lt_z s (pos 1000000)
    (λ (h : s <ℤ pos 1000000). inl (h, e ∙ early_h s h))
    (λ (l : pos 1000000 ≤ℤ s).
    by_lt_z s (pos 2000000)
    (λ (h : s <ℤ pos 2000000). inr (inl (l, h, e ∙ summer_h s l h)))
    (λ (h : pos 2000000 ≤ℤ s). inr (inr (h, e ∙ late_h s h))))

pub in_summer : (s : ℤ) → pos 1000000 ≤ℤ s → s <ℤ pos 2000000 → offset (test_h s) ≡ pos 7200
in_summer s l h = ap offset (told_h s) ∙ summer_h s l h

pub in_autumn : (s : ℤ) → pos 2000000 ≤ℤ s → offset (test_h s) ≡ pos 3600
in_autumn s h = ap offset (told_h s) ∙ late_h s h

pub clear_h : (s : ℤ) → is_blank (test_h s) ≡ false
clear_h s = ap is_blank (told_h s)

pub laws_h : ZoneLaws test_h
unfolding test_h named_zone
laws_h = (named_laws (codes "Test/H") rule_h (λ s. offsets_sound test_changes (pos 3600) s refl refl)).each 0 (omega arith)

-- ── UTC ──

unfoldable pub utc : Zone
utc s = rule_utc (held s)

pub told_utc : (s : ℤ) → utc s ≡ Offset (pos 0)
unfolding utc
told_utc s = refl

pub laws_utc : ZoneLaws utc
unfolding utc named_zone
laws_utc = (named_laws (codes "UTC") rule_utc (λ s. offsets_sound [] (pos 0) s refl refl)).each 0 (omega arith)
