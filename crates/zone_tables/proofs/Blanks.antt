-- A zone without a change that is blank at one second is blank at every one.
use Rattle.std.proofs.Common.{◌≡◌, ◌<◌, Bool, true, false, ℤ, pos, negsuc, ◌-ℤ◌, Some, None, Option, Decides, sym, ◌∙◌, arith}
use Rattle.std.proofs.lemmas.Int.{ints, by_lt_z}
use Rattle.std.specs.Option.{is_none}
use Rattle.zone.specs.declared.value.Value.TheVariants.{Blank}
use Rattle.zone.specs.Zones.{Zones, ZonesLaws, Steady, ChangeIs, least_second, greatest_second}
use Rattle.zone.proofs.Stretches.{stretch}
use Rattle.zone_tables.specs.Rows.{IsBlankAt, IsBlank}

-- the seconds that can be asked
abbrev pub lowest : ℤ
lowest = negsuc 9223372036854775807

abbrev pub highest : ℤ
highest = pos 9223372036854775807

module _ (z : Zones) (laws : ZonesLaws z) where
  everywhere : 0 < z.count → Steady (z.value 0) lowest highest → Blank 1 0 ≡ z.value 0 lowest → (s : ℤ) → Blank 1 0 ≡ z.value 0 s
  everywhere there st b s =
      let l = laws.each 0 there in
      let low : Blank 1 0 ≡ z.value 0 least_second = b ∙ sym (stretch (z.value 0) lowest highest st least_second (omega (arith, ints)) (omega (arith, ints))) in
      let high : Blank 1 0 ≡ z.value 0 greatest_second = b ∙ sym (stretch (z.value 0) lowest highest st greatest_second (omega (arith, ints)) (omega (arith, ints))) in
      by_lt_z s least_second
      (λ h. low ∙ sym (l.before s (omega (arith, ints))))
      (λ h. by_lt_z s greatest_second
      (λ k. b ∙ sym (stretch (z.value 0) lowest highest st s (omega (arith, ints)) (omega (arith, ints))))
      (λ k. high ∙ sym (l.after s k)))

  pub blank_decided : (r : Option ℤ) (t : Bool) → t ≡ is_none r → ChangeIs z 0 lowest highest r → IsBlankAt z lowest → Decides t (IsBlank z)
  blank_decided None t e c b = (λ _. (b.0, everywhere b.0 (c b.0) b.1), λ _. e)
  blank_decided (Some s) t e c b = (λ h. absurd (let f : true ≡ false = sym h ∙ e in grind arith), λ h. absurd (c.1.differs (sym (h.1 s) ∙ h.1 (s -ℤ pos 1))))
