-- The walk through the window.
use Rattle.std.proofs.Common.{◌≡◌, ℕ, Bool, true, false, ◌⊎◌, ℤ, pos, ◌+ℤ◌, ◌-ℤ◌, ◌≤ℤ◌, ◌<ℤ◌, Ok, Err, Result, sym, refl, ap, ◌∙◌, subst, inl, inr, arith}
use lib.Signed.{lt_z}
use Rattle.std.proofs.lemmas.Int.{ints, by_lt_z}
use Rattle.zone.specs.declared.value.Value.{Value}
use Rattle.zone.specs.declared.value.Value.TheVariants.{Offset, Blank}
use Rattle.timebase.specs.declared.fault.Fault.{Fault}
use Rattle.zone.specs.Zones.{Zone, Steady, SoundValue, is_blank, offset}
use Rattle.zone.proofs.Stretches.{stretch}
use Rattle.local_times.specs.Meeting.{offset_known, local_at}
use Rattle.local_times.specs.Walk.{OffsetFits}
use Rattle.local_times.specs.Walk.{holds_in, land_of}
use Rattle.local_times.specs.Meets.{low, Meets}
use Rattle.local_times.proofs.Relations.{Reached, Sofar, Walked}
use Rattle.local_times.specs.declared.landing.Landing.{Landing}
use Rattle.local_times.specs.declared.landing.Landing.TheVariants.{Before, Gap, Hit}

by_test : {P : Type 0} (b : Bool) → (b ≡ true → P) → (b ≡ false → P) → P
by_test true t f = t refl
by_test false t f = f refl

pub fits_at : (v : Value) (o : ℤ) → SoundValue v → v ≡ Offset o → OffsetFits o
fits_at v o b e = rw e at b

fits_of : (v : Value) → SoundValue v → OffsetFits (offset v)
fits_of (Offset o) b = b
fits_of (Blank c d) b = omega (arith, ints)

module _ (f : Zone) (l a n o p : ℤ) (lt : a <ℤ n) (st : Steady f a n) (at : f a ≡ Offset o) (start : low l ≤ℤ a) where
  there : (t : ℤ) → a ≤ℤ t → t <ℤ n → local_at f t ≡ t +ℤ o
  there t h k = ap (λ v. t +ℤ offset v) (stretch f a n st t h k ∙ at)

  hit : ((t : ℤ) → low l ≤ℤ t → t <ℤ a → local_at f t ≡ l → ⊥) → holds_in a (l -ℤ o) n ≡ true → Reached f l n (l -ℤ o)
  hit none h =
      let i = l -ℤ o in
      let ge : a ≤ℤ i = grind (arith, ints) in
      let le : i <ℤ n = grind (arith, ints) in
      record {
        after = omega (arith, ints);
        before = le;
        hits = there i ge le ∙ omega (arith, ints);
        least = λ t s k e. by_lt_z t a (λ u. none t s u e) (λ u. let q : t +ℤ o ≡ l = sym (there t u (omega (arith, ints))) ∙ e in omega (arith, ints));
      }

  not_here : ((t : ℤ) → low l ≤ℤ t → t <ℤ a → local_at f t ≡ l → ⊥) → holds_in a (l -ℤ o) n ≡ false → (t : ℤ) → low l ≤ℤ t → t <ℤ n → local_at f t ≡ l → ⊥
  not_here none h t s k e =
      by_lt_z t a
      (λ u. none t s u e)
      (λ u. let q : t +ℤ o ≡ l = sym (there t u k) ∙ e in let i : l -ℤ o ≡ t = omega (arith, ints) in let h' : holds_in a t n ≡ false = rw i at h in grind (arith, ints))

  below : ((t : ℤ) → low l ≤ℤ t → t <ℤ a → local_at f t <ℤ l) → (t : ℤ) → low l ≤ℤ t → t <ℤ a → local_at f t ≡ l → ⊥
  below b t s u e = let q = b t s u in omega (arith, ints)

  module _ (fits : OffsetFits o) (last : low l <ℤ a → p ≡ offset (f (a -ℤ pos 1))) where
    pub sofar_step : (x : Landing) → Sofar f l a x → Sofar f l n (land_of l a n o p x)
    sofar_step (Hit i) r = record { after = r.after; before = omega (arith, ints); hits = r.hits; least = r.least }
    sofar_step (Gap g) r =
        by_test (holds_in a (l -ℤ o) n)
        (λ h. rw h (hit r.0 h))
        (λ h. rw h (not_here r.0 h, record { j = r.1.j; after = r.1.after; before = omega (arith, ints); past = r.1.past; first = r.1.first; is = r.1.is }))
    sofar_step Before r =
        by_test (holds_in a (l -ℤ o) n)
        (λ h. rw h (hit (below r) h))
        (λ h. by_test (lt_z (l -ℤ o) a)
        (λ k. rw (h, k) (
          not_here (below r) h,
          record {
            j = a;
            after = grind (arith, ints);
            before = lt;
            past = let q = there a (omega (arith, ints)) lt in grind (arith, ints);
            first = λ t s u. let q = r t s u in omega (arith, ints);
            is = ap (λ x. l -ℤ x) (last (grind (arith, ints)));
          },
        ))
        (λ k. rw (h, k) (λ t s u. by_lt_z t a (λ v. r t s v) (λ v. let q = there t v u in let m : n ≤ℤ (l -ℤ o) = grind (arith, ints) in omega (arith, ints)))))

pub walked_step : (f : Zone) (l a n o p : ℤ) (x : Landing) → Walked f l a p x → a <ℤ n → n ≤ℤ (l +ℤ pos 86400) → Steady f a n → f a ≡ Offset o → OffsetFits o → Walked f l n o (land_of l a n o p x)
walked_step f l a n o p x w lt le st at fits = record {
  start = omega (arith, ints);
  end = le;
  clear = λ t s u. by_lt_z t a (λ v. w.clear t s v) (λ v. ap is_blank (stretch f a n st t v u ∙ at));
  fits = fits;
  last = λ _. sym (ap offset (stretch f a n st (n -ℤ pos 1) (omega (arith, ints)) (omega (arith, ints)) ∙ at));
  landing = sofar_step f l a n o p lt st at w.start fits w.last x w.landing;
}

module _ (f : Zone) (l a p : ℤ) (done : (l +ℤ pos 86400) ≤ℤ a) where
  pub met_hit : (i : ℤ) → Walked f l a p (Hit i) → Meets f l (Ok i)
  met_hit i w = (
    λ t h. w.clear t h.0 (omega (arith, ints)),
    inl (record { within = omega (arith, ints); hits = w.landing.hits; least = w.landing.least }),
  )

  pub met_gap : (g : ℤ) → Walked f l a p (Gap g) → Meets f l (Ok g)
  met_gap g w =
      let r = w.landing.1 in (
        λ t h. w.clear t h.0 (omega (arith, ints)),
        inr (record {
          none = λ t h. w.landing.0 t h.0 (omega (arith, ints));
          j = r.j;
          from = record { within = omega (arith, ints); past = r.past; first = r.first };
          inside = r.after;
          is = r.is;
        }),
      )

  -- where the walk has ended, it has met the local time, or the gap in which it lies
  pub met_end : (x : Landing) (i : ℤ) → Walked f l a p x → (x ≡ Hit i) ⊎ (x ≡ Gap i) → Meets f l (Ok i)
  met_end x i w (inl e) = met_hit i (subst (Walked f l a p) e w)
  met_end x i w (inr e) = met_gap i (subst (Walked f l a p) e w)

  pub met_never : ((t : ℤ) → SoundValue (f t)) → Walked f l a p Before → ⊥
  met_never b w =
      let h = l +ℤ pos 86399 in
      let q = w.landing h (omega (arith, ints)) (omega (arith, ints)) in
      let k = fits_of (f h) (b h) in
      omega (arith, ints)

pub ok_err : {A E : Type 0} {e : E} {a : A} {X : Type 0} → ◌≡◌ {A = Result A E} (Ok a) (Err e) → X
ok_err h = let z : ◌≡◌ {A = ℕ} 0 1 = cc in absurd (omega arith)

-- what an answer for an offset tells of the value
blank_of : (v : Value) (e : Fault) → Err e ≡ offset_known v → is_blank v ≡ true
blank_of (Offset o) e r = ok_err (sym r)
blank_of (Blank c d) e r = refl

pub offset_is : (v : Value) (o : ℤ) → Ok o ≡ offset_known v → v ≡ Offset o
offset_is (Offset p) o r = cc
offset_is (Blank c d) o r = ok_err r

pub met_blank : (f : Zone) (l a p : ℤ) (x : Landing) (e : Fault) → Walked f l a p x → a <ℤ (l +ℤ pos 86400) → Err e ≡ offset_known (f a) → Meets f l (Err e)
met_blank f l a p x e w h r = (a, record { within = omega (arith, ints); blank = blank_of (f a) e r; clear = w.clear }, r)

-- the same facts at other terms for the same numbers
pub walked_same : (f : Zone) {l l' a a' p p' : ℤ} {x x' : Landing} → l' ≡ l → a' ≡ a → p' ≡ p → x' ≡ x → Walked f l a p x → Walked f l' a' p' x'
walked_same f e₁ e₂ e₃ e₄ w = rw (e₁, e₂, e₃, e₄) w

pub land_same : {l l' a a' n n' o o' p p' : ℤ} (x : Landing) → l' ≡ l → a' ≡ a → n' ≡ n → o' ≡ o → p' ≡ p → land_of l' a' n' o' p' x ≡ land_of l a n o p x
land_same x e₁ e₂ e₃ e₄ e₅ = rw (e₁, e₂, e₃, e₄, e₅)

pub walked_start : (f : Zone) (l : ℤ) → Walked f l (l -ℤ pos 86399) (pos 0) Before
walked_start f l = record {
  start = omega (arith, ints);
  end = omega (arith, ints);
  clear = λ t h k. absurd (omega (arith, ints));
  fits = omega (arith, ints);
  last = λ h. absurd (omega (arith, ints));
  landing = λ t h k. absurd (omega (arith, ints));
}
