-- A reader by steps, each of whose states can still come to an end, stops where the text stops.
use Rattle.std.proofs.Common.{◌≡◌, ℕ, ◌+◌, ◌<◌, Bool, true, false, cond, ltb, ◌⊎◌, List, [], ◌∷◌, ◌++◌, length, take, Some, None, Ok, Err, Option, Result, sym, refl, ap, ◌∙◌, subst, inl, inr, append_assoc, append-nil, arith, length-append}
use Rattle.std.proofs.lemmas.Bool.{ltb-true, ltb-false}
use Rattle.std.proofs.lemmas.List.{take_at, take_all}
use Rattle.reading.specs.declared.Misread.{Misread}
use Rattle.reading.specs.Reading.{misread, read_on, limited}
use Rattle.reading.specs.Places.{Begins, Longest, Answers, AnswersWithin}

-- ── values that differ in their constructor ──

pub none_some : {S A : Type 0} (t : S) → ◌≡◌ {A = Option S} None (Some t) → A
none_some t h = let z : ◌≡◌ {A = ℕ} 0 1 = cc in absurd (omega arith)

pub err_ok : {V A : Type 0} (v : V) (n : ℕ) → ◌≡◌ {A = Result V Misread} (Err (misread n)) (Ok v) → A
err_ok v n h = let z : ◌≡◌ {A = ℕ} 0 1 = cc in absurd (omega arith)

pub ok_err : {V A : Type 0} (v : V) (n : ℕ) → ◌≡◌ {A = Result V Misread} (Ok v) (Err (misread n)) → A
ok_err v n h = let z : ◌≡◌ {A = ℕ} 0 1 = cc in absurd (omega arith)

same_place : {V : Type 0} (m n : ℕ) → ◌≡◌ {A = Result V Misread} (Err (misread m)) (Err (misread n)) → m ≡ n
same_place m n h = let e : misread m ≡ misread n = cc in ap (λ (x : Misread). x.at) e

-- what a test that gave something says
pub cond_some : {S : Type 0} (c : Bool) (x : S) (o : Option S) (t : S) → cond c (Some x) o ≡ Some t → ((c ≡ true) × (x ≡ t)) ⊎ (o ≡ Some t)
cond_some true x o t h = inl (refl, cc)
cond_some false x o t h = inr h

-- ── the steps ──

module _ {S V : Type 0} (step : S → ℕ → ℕ → Option S) (end : S → Option V) where
  -- one step
  pub go : (s t : S) (a b : ℕ) (bs : List ℕ) → step s a b ≡ Some t → read_on step end s a (b ∷ bs) ≡ read_on step end t (a + 1) bs
  go s t a b bs h = rw (h, read_on) refl

  -- a reader that reads gets past its first byte
  pub first_step : (s : S) (a b : ℕ) (bs : List ℕ) (v : V) → read_on step end s a (b ∷ bs) ≡ Ok v → (t : S) × (step s a b ≡ Some t) × (read_on step end t (a + 1) bs ≡ Ok v)
  first_step s a b bs v h = by (step s a b) refl h
    where
      by : (o : Option S) → step s a b ≡ o → ◌≡◌ {A = Result V Misread} (elim o [ Some t ↦ read_on step end t (a + 1) bs | None ↦ Err (misread a) ]) (Ok v) → (t : S) × (step s a b ≡ Some t) × (read_on step end t (a + 1) bs ≡ Ok v)
      by (Some t) e k = (t, e, k)
      by None e k = err_ok v a k

  -- the reader stops at a place, after a beginning with which it can reach an end
  pub record Halts (s : S) (a : ℕ) (xs : List ℕ) (n : ℕ) : Type 0 where
    pub front : List ℕ
    pub back : List ℕ
    pub is : xs ≡ front ++ back
    pub place : a + length front ≡ n
    pub rest : List ℕ
    pub value : V
    pub reads : read_on step end s a (front ++ rest) ≡ Ok value
    pub stays : (b : ℕ) (us ws : List ℕ) → back ≡ b ∷ us → read_on step end s a (front ++ (b ∷ ws)) ≡ Err (misread n)

  module _ (live : (s : S) (a : ℕ) → (w : List ℕ) × ((v : V) × (read_on step end s a w ≡ Ok v))) where
    halts_byte : (s : S) (a b : ℕ) (bs : List ℕ) (n : ℕ) (o : Option S) → step s a b ≡ o
        → ((t : S) → read_on step end t (a + 1) bs ≡ Err (misread n) → Halts t (a + 1) bs n)
        → ◌≡◌ {A = Result V Misread} (elim o [ Some t ↦ read_on step end t (a + 1) bs | None ↦ Err (misread a) ]) (Err (misread n)) → Halts s a (b ∷ bs) n
    halts_byte s a b bs n (Some t) e next h =
        let r = next t h in
        record {
          front = b ∷ r.front;
          back = r.back;
          is = ap (λ l. b ∷ l) r.is;
          place = omega (arith, r.place);
          rest = r.rest;
          value = r.value;
          reads = go s t a b (r.front ++ r.rest) e ∙ r.reads;
          stays = λ c us ws q. go s t a b (r.front ++ (c ∷ ws)) e ∙ r.stays c us ws q;
        }
    halts_byte s a b bs n None e next h =
        let l = live s a in
        record {
          front = [];
          back = b ∷ bs;
          is = refl;
          place = omega (arith, same_place {V = V} a n h);
          rest = l.0;
          value = l.1.0;
          reads = l.1.1;
          stays = λ c us ws q. let same : b ≡ c = cc in subst (λ d. read_on step end s a (d ∷ ws) ≡ Err (misread n)) same (rw (e, read_on) h);
        }

    halts_end : (s : S) (a n : ℕ) (o : Option V) → ◌≡◌ {A = Result V Misread} (elim o [ Some v ↦ Ok v | None ↦ Err (misread a) ]) (Err (misread n)) → Halts s a [] n
    halts_end s a n (Some v) h = ok_err v n h
    halts_end s a n None h =
        let l = live s a in
        record {
          front = [];
          back = [];
          is = refl;
          place = omega (arith, same_place {V = V} a n h);
          rest = l.0;
          value = l.1.0;
          reads = l.1.1;
          stays = λ c us ws q. let z : ◌≡◌ {A = ℕ} 0 1 = cc in absurd (omega arith);
        }

    pub halts : (s : S) (a : ℕ) (xs : List ℕ) (n : ℕ) → read_on step end s a xs ≡ Err (misread n) → Halts s a xs n
    halts s a [] n h = halts_end s a n (end s) h
    halts s a (b ∷ bs) n h = halts_byte s a b bs n (step s a b) refl (λ t e. halts t (a + 1) bs n e) h

-- ── the theorem: what a live reader answers, by the texts that it is sound and complete for ──

module _ {S V : Type 0} (step : S → ℕ → ℕ → Option S) (end : S → Option V) (Text : List ℕ → V → Type 0)
    (live : (s : S) (a : ℕ) → (w : List ℕ) × ((v : V) × (read_on step end s a w ≡ Ok v)))
    (first : S)
    (sound : (t : List ℕ) (v : V) → read_on step end first 0 t ≡ Ok v → Text t v)
    (complete : (t : List ℕ) (v : V) → Text t v → read_on step end first 0 t ≡ Ok v) where
  further : (t : List ℕ) (n : ℕ) → Halts step end first 0 t n → n < length t → Begins Text (take (n + 1) t) → ⊥
  further t n k l (w, (v, x)) = by k.back refl
    where
      by : (back : List ℕ) → k.back ≡ back → ⊥
      by [] e = let m : length t ≡ length (k.front ++ k.back) = ap length k.is in let z : length (k.front ++ k.back) ≡ length k.front = rw (e, append-nil) refl in omega (arith, k.place)
      by (c ∷ us) e =
          let one : length (k.front ++ (c ∷ [])) ≡ n + 1 = simp length-append (omega (arith, k.place)) in
          let is : t ≡ (k.front ++ (c ∷ [])) ++ us = k.is ∙ (ap (λ (z : List ℕ). k.front ++ z) e ∙ sym (append_assoc k.front (c ∷ []) us)) in
          let cut : take (n + 1) t ≡ k.front ++ (c ∷ []) = ap (take (n + 1)) is ∙ take_at (k.front ++ (c ∷ [])) us (n + 1) one in
          let y : Text (k.front ++ (c ∷ w)) v = rw append_assoc at (subst (λ l. Text (l ++ w) v) cut x) in
          ok_err v n (sym (complete _ v y) ∙ k.stays c us w e)

  longest : (t : List ℕ) (n : ℕ) → Halts step end first 0 t n → Longest Text t n
  longest t n k =
      let m : length t ≡ length k.front + length k.back = ap length k.is ∙ length-append k.front k.back in
      let cut : take n t ≡ k.front = ap (take n) k.is ∙ take_at k.front k.back n (omega (arith, k.place)) in
      record {
        within = omega (arith, k.place);
        so_far = (k.rest, (k.value, subst (λ z. Text (z ++ k.rest) k.value) (sym cut) (sound _ _ k.reads)));
        no_further = further t n k;
      }

  at_answer : (t : List ℕ) (r : Result V Misread) → read_on step end first 0 t ≡ r → Answers Text t r
  at_answer t (Ok v) e = sound t v e
  at_answer t (Err m) e = record {
    no_text = λ v x. ok_err v m.at (sym (complete t v x) ∙ e);
    longest = longest t m.at (halts step end live first 0 t m.at e);
  }

  pub answers : (t : List ℕ) → Answers Text t (read_on step end first 0 t)
  answers t = at_answer t (read_on step end first 0 t) refl

-- ── with a limit on the length ──

module _ {V : Type 0} (Text : List ℕ → V → Type 0) (limit : ℕ) where
  whole : (t : List ℕ) (v : V) → Text t v → Longest Text t (length t)
  whole t v x = record {
    within = omega arith;
    so_far = ([], (v, subst (λ z. Text z v) (sym (take_all (length t) t (omega arith)) ∙ sym (append-nil (take (length t) t))) x));
    no_further = λ l b. omega arith;
  }

  at_ok : (t : List ℕ) (v : V) → Text t v → (c : Bool) → ltb limit (length t) ≡ c → AnswersWithin Text limit t (cond c (Err (misread limit)) (Ok v))
  at_ok t v x true h = record {
    no_text = λ w y l. omega (arith, ltb-true limit (length t) h);
    most = length t;
    longest = whole t v x;
    at = omega (arith, ltb-true limit (length t) h);
  }
  at_ok t v x false h = (x, ltb-false limit (length t) h)

  pub answers_within : (t : List ℕ) (r : Result V Misread) → Answers Text t r → AnswersWithin Text limit t (limited limit (length t) r)
  answers_within t (Ok v) a = at_ok t v a (ltb limit (length t)) refl
  answers_within t (Err m) a = record { no_text = λ v x l. a.no_text v x; most = m.at; longest = a.longest; at = refl }
