-- The first change of a zone of steps, as it is found, is the first change of what the steps tell, and what they tell is sound.
use Rattle.std.proofs.Common.{◌≡◌, Bool, true, false, ◌&&◌, leb, List, [], ◌∷◌, length, ℤ, pos, ◌-ℤ◌, ◌≤ℤ◌, ◌<ℤ◌, Some, None, Option, sym, refl, ap, ◌∙◌, arith}
use lib.Signed.{lt_z, le_z}
use Rattle.std.proofs.lemmas.Int.{ints, by_lt_z}
use Rattle.zone.specs.declared.value.Value.TheVariants.{Offset}
use Rattle.zone.specs.Offsets.{is_offset}
use Rattle.zone.specs.Zones.{SoundValue, FirstChange}
use Rattle.zone_rule.specs.declared.step.Step.{Step}
use Rattle.zone_rule.specs.declared.steps.Offsets.{Offsets}
use Rattle.zone_rule.specs.Telling.{offsets_tell}
use Rattle.zone_rule.specs.Steps.{offset_at, is_after, rising, change_in, alters_at, is_well_made}

-- a test with what it came to
pub by_test : {P : Type 0} (b : Bool) → (b ≡ true → P) → (b ≡ false → P) → P
by_test true t f = t refl
by_test false t f = f refl

pub and_left : (a b : Bool) → (a && b) ≡ true → a ≡ true
and_left true b e = refl
and_left false b e = e

pub and_right : (a b : Bool) → (a && b) ≡ true → b ≡ true
and_right true b e = e
and_right false b e = grind arith

-- the zone before and from its first change on
pub under : (c : Step) (cs : List Step) (o s : ℤ) → s <ℤ c.at → offset_at o (c ∷ cs) s ≡ o
under c cs o s h = let p : lt_z s c.at ≡ true = grind (arith, ints) in rw p

pub upon : (c : Step) (cs : List Step) (o s : ℤ) → c.at ≤ℤ s → offset_at o (c ∷ cs) s ≡ offset_at c.offset cs s
upon c cs o s h = let p : lt_z s c.at ≡ false = grind (arith, ints) in rw p

pub early : (cs : List Step) (o a s : ℤ) → rising (Some a) cs ≡ true → s ≤ℤ a → offset_at o cs s ≡ o
early [] o a s r h = refl
early (c ∷ cs) o a s r h =
    let k : lt_z a c.at ≡ true = and_left _ _ r in
    under c cs o s (grind (arith, ints))

same_offset : (o a t n : ℤ) → a <ℤ t → alters_at o a t n ≡ false → o ≡ n
same_offset o a t n h e = grind (arith, ints)

module _ (c : Step) (cs : List Step) (o a : ℤ) (r : rising (Some c.at) cs ≡ true) (k : alters_at o a c.at c.offset ≡ false) where
  steady_one : (t : ℤ) → a <ℤ t → offset_at c.offset cs t ≡ offset_at c.offset cs (t -ℤ pos 1) → offset_at o (c ∷ cs) t ≡ offset_at o (c ∷ cs) (t -ℤ pos 1)
  steady_one t h e =
      by_lt_z t c.at
      (λ lt. under c cs o t lt ∙ sym (under c cs o (t -ℤ pos 1) (omega (arith, ints))))
      (λ ge. by_lt_z c.at t
      (λ gt. upon c cs o t ge ∙ e ∙ sym (upon c cs o (t -ℤ pos 1) (omega (arith, ints))))
      (λ le. upon c cs o t ge ∙ early cs c.offset c.at t r le ∙ sym (same_offset o a c.at c.offset (omega (arith, ints)) k) ∙ sym (under c cs o (t -ℤ pos 1) (omega (arith, ints)))))

  differs_too : (s : ℤ) → (offset_at c.offset cs s ≡ offset_at c.offset cs (s -ℤ pos 1) → ⊥) → offset_at o (c ∷ cs) s ≡ offset_at o (c ∷ cs) (s -ℤ pos 1) → ⊥
  differs_too s d e =
      by_lt_z c.at s
      (λ gt. d (sym (upon c cs o s (omega (arith, ints))) ∙ e ∙ upon c cs o (s -ℤ pos 1) (omega (arith, ints))))
      (λ le. d (early cs c.offset c.at s r le ∙ sym (early cs c.offset c.at (s -ℤ pos 1) r (omega (arith, ints)))))

  carried : (b : ℤ) (q : Option ℤ) → FirstChange (offset_at c.offset cs) a b q → FirstChange (offset_at o (c ∷ cs)) a b q
  carried b None st = λ t h l. steady_one t h (st t h l)
  carried b (Some s) f = record {
    after = f.after;
    before = f.before;
    steady = λ t h l. steady_one t h (f.steady t h l);
    differs = differs_too s f.differs;
  }

pub first_change : (cs : List Step) (o a b : ℤ) (m : Option ℤ) → rising m cs ≡ true → FirstChange (offset_at o cs) a b (change_in o cs a b)
first_change [] o a b m r = λ t _ _. refl
first_change (c ∷ cs) o a b m r =
    let r₁ : rising (Some c.at) cs ≡ true = and_right (is_offset c.offset) _ (and_right (is_after m c.at) _ r) in
    by_test (le_z b c.at)
    (λ e. rw e (λ t h l. under c cs o t (grind (arith, ints)) ∙ sym (under c cs o (t -ℤ pos 1) (grind (arith, ints)))))
    (λ e. by_test (alters_at o a c.at c.offset)
    (λ k. rw (e, k) (record {
      after = grind (arith, ints);
      before = grind (arith, ints);
      steady = λ t h l. under c cs o t l ∙ sym (under c cs o (t -ℤ pos 1) (omega (arith, ints)));
      differs = λ d. let p : c.offset ≡ o = sym (early cs c.offset c.at c.at r₁ (omega (arith, ints))) ∙ sym (upon c cs o c.at (omega (arith, ints))) ∙ d ∙ under c cs o (c.at -ℤ pos 1) (omega (arith, ints)) in grind (arith, ints);
    }))
    (λ k. rw (e, k) (carried c cs o a r₁ k b (change_in c.offset cs a b) (first_change cs c.offset a b (Some c.at) r₁))))

-- a change of a function is one of what is made of it one to one
pub first_made : {X Y : Type 0} (k : X → Y) (f : ℤ → X) → ((x y : X) → k x ≡ k y → x ≡ y) → (a b : ℤ) (q : Option ℤ) → FirstChange f a b q → FirstChange (λ s. k (f s)) a b q
first_made k f inj a b None st = λ t h l. ap k (st t h l)
first_made k f inj a b (Some s) g = record {
  after = g.after;
  before = g.before;
  steady = λ t h l. ap k (g.steady t h l);
  differs = λ e. g.differs (inj (f s) (f (s -ℤ pos 1)) e);
}

-- the offsets of a well made zone are within a day
pub offset_within : (cs : List Step) (o s : ℤ) (m : Option ℤ) → is_offset o ≡ true → rising m cs ≡ true → is_offset (offset_at o cs s) ≡ true
offset_within [] o s m w r = w
offset_within (c ∷ cs) o s m w r =
    let r₀ : (is_offset c.offset && rising (Some c.at) cs) ≡ true = and_right (is_after m c.at) _ r in
    let w₁ : is_offset c.offset ≡ true = and_left _ (rising (Some c.at) cs) r₀ in
    let r₁ : rising (Some c.at) cs ≡ true = and_right (is_offset c.offset) _ r₀ in
    by_lt_z s c.at
    (λ lt. rw (under c cs o s lt) w)
    (λ ge. rw (upon c cs o s ge) (offset_within cs c.offset s (Some c.at) w₁ r₁))

offset_inj : (x y : ℤ) → Offset x ≡ Offset y → x ≡ y
offset_inj x y e = cc

-- ── offsets that rise, as values ──

pub offsets_change : (cs : List Step) (o a b : ℤ) (q : Option ℤ) → rising None cs ≡ true → q ≡ change_in o cs a b → FirstChange (λ s. Offset (offset_at o cs s)) a b q
offsets_change cs o a b q r e = rw e (first_made Offset (offset_at o cs) offset_inj a b (change_in o cs a b) (first_change cs o a b None r))

pub offsets_sound : (cs : List Step) (o s : ℤ) → is_offset o ≡ true → rising None cs ≡ true → SoundValue (Offset (offset_at o cs s))
offsets_sound cs o s w r = let p = offset_within cs o s None w r in bounded _ p
  where
    bounded : (x : ℤ) → is_offset x ≡ true → SoundValue (Offset x)
    bounded x e = grind (arith, ints)

-- ── what a zone of steps tells ──

module _ (o : ℤ) (cs : List Step) where
  made_rising : is_well_made o cs ≡ true → rising None cs ≡ true
  made_rising w = and_right (is_offset o) _ (and_right (leb (length cs) 8) _ w)

  made_first : is_well_made o cs ≡ true → is_offset o ≡ true
  made_first w = and_left (is_offset o) (rising None cs) (and_right (leb (length cs) 8) _ w)

pub told_change : (r : Option Offsets) (o : Offsets) (a b : ℤ) (q : Option ℤ) → r ≡ Some o → q ≡ change_in o.first o.changes.now a b → FirstChange (offsets_tell r) a b q
told_change r o a b q h e = rw h (offsets_change o.changes.now o.first a b q (made_rising o.first o.changes.now o.well_made) e)

pub told_sound : (r : Option Offsets) (s : ℤ) → SoundValue (offsets_tell r s)
told_sound None s = (omega arith, omega arith)
told_sound (Some o) s = offsets_sound o.changes.now o.first s (made_first o.first o.changes.now o.well_made) (made_rising o.first o.changes.now o.well_made)
