-- A question has one answer over a table, so that sources are told apart by their meaning alone.
use Rattle.std.proofs.Common.{◌≡◌, ℕ, Bool, List, ℤ, Some, None, Decides, MatchOption, Option, ◌<◌, ◌≤◌, sym, refl, ap, ◌∙◌, subst, arith, Bor}
use Rattle.std.proofs.lemmas.Int.{ints, by_lt_z}
use Rattle.std.specs.Option.{option_eq}
use Rattle.zone.specs.declared.question.Question.{Question}
use Rattle.zone.specs.declared.question.Question.TheVariants.{Count, Name, Find, Value, Change}
use Rattle.zone.specs.declared.value.Value.{Value as AnyValue}
use Rattle.zone.specs.Zones.{Zones, FirstAt, Bears, NameIs, FoundIs, ChangeIs}
use Rattle.zone.specs.Questions.{seen, BytesAre, Alike}

-- ── one answer ──

module _ (z : Zones) where
  one_name : (i : ℕ) (r q : Option (List ℕ)) → BytesAre z i r → BytesAre z i q → r ≡ q
  one_name i None None h k = refl
  one_name i None (Some m) h k = absurd (omega (arith, h, k.0))
  one_name i (Some n) None h k = absurd (omega (arith, h.0, k))
  one_name i (Some n) (Some m) h k = ap Some (h.1 ∙ sym k.1)

  one_first : (f : ℤ → AnyValue) (a b s t : ℤ) → FirstAt f a b s → FirstAt f a b t → s ≡ t
  one_first f a b s t h k =
      by_lt_z s t
      (λ l. absurd (h.differs (k.steady s h.after l)))
      (λ m. by_lt_z t s (λ l. absurd (k.differs (h.steady t k.after l))) (λ l. omega (arith, ints)))

  one_change : (i : ℕ) (a b : ℤ) (r q : Option ℤ) → ChangeIs z i a b r → ChangeIs z i a b q → r ≡ q
  one_change i a b None None h k = refl
  one_change i a b None (Some t) h k = absurd (k.1.differs (h k.0 t k.1.after k.1.before))
  one_change i a b (Some s) None h k = absurd (h.1.differs (k h.0 s h.1.after h.1.before))
  one_change i a b (Some s) (Some t) h k = ap Some (one_first (z.value i) a b s t h.1 k.1)

-- ── so equal answers are all that two tables can show ──

decides : {X : Type 0} (R S : X → Type 0) → ((x w : X) → R x → R w → x ≡ w) → ((x w : X) → S x → S w → x ≡ w) → (a b : X) → R a → S b → (t : Bool) → Decides t (a ≡ b) → Decides t ((r : X) → R r → S r)
decides R S one other a b ra sb t d = (λ h r p. subst S (sym (one r a p ra ∙ d.0 h)) sb, λ k. d.1 (other a b (k a ra) sb))

bytes_are : (z : Zones) (i : ℕ) (r : Option (Bor (List ℕ))) → NameIs z i r → BytesAre z i (seen r)
bytes_are z i None h = h
bytes_are z i (Some x) h = h

module _ (y z : Zones) where
  pub name_decided : (i : ℕ) (r q : Option (Bor (List ℕ))) (t : Bool) → NameIs y i r → NameIs z i q → Decides t (seen r ≡ seen q) → Decides t (Alike y z (Name i))
  name_decided i r q t h k d = decides (BytesAre y i) (BytesAre z i) (one_name y i) (one_name z i) (seen r) (seen q) (bytes_are y i r h) (bytes_are z i q k) t d

  pub change_decided : (i : ℕ) (a b : ℤ) (r q : Option ℤ) (t : Bool) → ChangeIs y i a b r → ChangeIs z i a b q → Decides t (r ≡ q) → Decides t (Alike y z (Change i a b))
  change_decided i a b r q t h k d = decides (ChangeIs y i a b) (ChangeIs z i a b) (one_change y i a b) (one_change z i a b) r q h k t d

some_inj : (m n : List ℕ) → Some m ≡ Some n → m ≡ n
some_inj m n e = cc

none_some : (n : List ℕ) → ◌≡◌ {A = Option (List ℕ)} None (Some n) → ⊥
none_some n e = let z : ◌≡◌ {A = ℕ} 0 1 = cc in omega arith

some_none : (n : List ℕ) → ◌≡◌ {A = Option (List ℕ)} (Some n) None → ⊥
some_none n e = let z : ◌≡◌ {A = ℕ} 0 1 = cc in omega arith

-- what `==` says of two Options
pub option_decided : {X : Type 0} (same : X → X → Bool) → ((x w : X) → Decides (same x w) (x ≡ w)) → (r q : Option X) → Decides (option_eq same r q) (r ≡ q)
option_decided same d None None = (λ _. refl, λ _. refl)
option_decided same d None (Some w) = (λ h. absurd (let z : ◌≡◌ {A = ℕ} 0 1 = cc in omega arith), λ e. absurd (let z : ◌≡◌ {A = ℕ} 0 1 = cc in omega arith))
option_decided same d (Some x) None = (λ h. absurd (let z : ◌≡◌ {A = ℕ} 0 1 = cc in omega arith), λ e. absurd (let z : ◌≡◌ {A = ℕ} 0 1 = cc in omega arith))
option_decided same d (Some x) (Some w) = (λ h. ap Some ((d x w).0 h), λ k. (d x w).1 (cc))

-- what `==` says of two names
pub seen_decided : (same : Bor (List ℕ) → Bor (List ℕ) → Bool) → ((x w : Bor (List ℕ)) → Decides (same x w) (x.now ≡ w.now)) → (r q : Option (Bor (List ℕ))) → Decides (option_eq same r q) (seen r ≡ seen q)
seen_decided same d None None = (λ _. refl, λ _. refl)
seen_decided same d None (Some w) = (λ h. absurd (let z : ◌≡◌ {A = ℕ} 0 1 = cc in omega arith), λ e. absurd (none_some w.now e))
seen_decided same d (Some x) None = (λ h. absurd (let z : ◌≡◌ {A = ℕ} 0 1 = cc in omega arith), λ e. absurd (some_none x.now e))
seen_decided same d (Some x) (Some w) = (λ h. ap Some ((d x w).0 h), λ k. (d x w).1 (some_inj x.now w.now k))

self_alike : (y : Zones) (q : Question) → Alike y y q
self_alike y Count = refl
self_alike y (Name i) = λ r h. h
self_alike y (Find n) = λ r h. h
self_alike y (Value i s) = λ r h. h
self_alike y (Change i a b) = λ r h. h

-- tables of the same meaning answer every question alike
pub same_alike : (y z : Zones) (q : Question) → y ≡ z → Alike y z q
same_alike y z q e = subst (λ (x : Zones). Alike y x q) e (self_alike y q)

-- the first number in a range that bears a name is the lowest there is
pub found_is : (z : Zones) (n : List ℕ) (count : ℕ) (r : Option ℕ) → count ≡ z.count
    → MatchOption r ((k : ℕ) → 0 ≤ k → k < count → Bears z k n → ⊥) (λ i. (0 ≤ i) × (i < count) × Bears z i n × ((k : ℕ) → 0 ≤ k → k < i → Bears z k n → ⊥))
    → FoundIs z n r
found_is z n count None e h = λ k l same. h k (omega arith) (omega (arith, e)) (l, same)
found_is z n count (Some i) e h = (h.2.0, h.2.1, λ j l same. h.3 j (omega arith) l (omega (arith, h.2.0), same))
