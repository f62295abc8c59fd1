-- A file that is cut before the place of its refusal is refused at its length.
use Rattle.std.proofs.Common.{◌≡◌, ℕ, zero, suc, ◌+◌, ◌-◌, ◌*◌, ◌<◌, ◌≤◌, min, Bool, true, false, cond, eqb, ltb, leb, ◌⊎◌, List, [], ◌∷◌, ◌++◌, length, take, drop, Some, None, Ok, Err, Option, sym, refl, ap, ◌∙◌, inl, inr, arith, length-take}
use native.Mathlib.Nat.{min-le_left, min-le_right, min-eq_left}
use Rattle.std.proofs.lemmas.Slice.{between_is}
use Rattle.std.proofs.lemmas.Bool.{le-leb, lt-leb, ltb-false, cases_lt, cases_Bool}
use Rattle.std.specs.Option.{option_or as or_else}
use Rattle.std.specs.List.{AllZip, AllByRecursion}
use Rattle.timebase.specs.declared.fault.Fault.TheVariants.{BadFile}
use Rattle.zone.specs.Offsets.{is_offset}
use Rattle.tzif.specs.Fields.{byte_at, number4, Field, anything, byte_in, number_in, is_within, each, wrong_at, first_wrong}
use Rattle.reading.specs.Lines.{line_length}
use Rattle.tzif.specs.File.{magic, times, types, others, first_block, second_header, rising_at, index_at, type_at, second_block, last_line, footer, footer_place, second_half, header_place, fields_of, layout_at, refused, answer, checked}
use Rattle.tzif.specs.Places.{Sound, CutsAreTold}
use Rattle.tzif.proofs.Judging.{first_append, sound_all}
use Rattle.tzif.proofs.Parts.{byte_part, number_part, offset_part, second_part}

module _ (f : List ℕ) (k : ℕ) (short : k < length f) where
  abbrev cut : List ℕ
  cut = take k f

  long : length cut ≡ k
  long = simp length-take (omega arith)

  -- no refusal at place k or before it
  abbrev Past : Option ℕ → Type 0
  Past o = (p : ℕ) → o ≡ Some p → k < p

  -- fields of the file, and those of the cut file in their place: the cut file is refused at its end, or none is wrong of either
  abbrev Cut : List Field → List Field → Type 0
  Cut xs ys = (first_wrong cut ys ≡ Some k) ⊎ ((first_wrong f xs ≡ None) × (first_wrong cut ys ≡ None))

  -- the same field, as far as it is whole in the cut file
  abbrev Alike : Field → Field → Type 0
  Alike x y = (x.place ≡ y.place) × (x.size ≡ y.size) × ((y.place + y.size) ≤ k → x.right ≡ y.right)

  past_first : (a b : Option ℕ) → Past (or_else a b) → Past a
  past_first None b u = λ p e. absurd (let z : ◌≡◌ {A = ℕ} 0 1 = cc in omega arith)
  past_first (Some q) b u = u

  cut_field : (x y : Field) → Alike x y → Past (wrong_at f x) → (wrong_at cut y ≡ Some k) ⊎ ((wrong_at f x ≡ None) × (wrong_at cut y ≡ None))
  cut_field x y s u =
      let e = s.0 in
      let d = s.1 in
      elim (cases_lt k (y.place + y.size)) [
        | inl h ↦ inl (rw (long, lt-leb (y.place + y.size) k h))
        | inr h ↦
            let r = s.2 h in
            let w : leb (x.place + x.size) (length f) ≡ true = le-leb _ _ (omega arith) in
            let v : leb (y.place + y.size) k ≡ true = le-leb _ _ h in
            elim (cases_Bool x.right) [
              | inl t ↦ inr (rw (w, t), rw (long, v, ← r, t))
              | inr t ↦ absurd (let p = u x.place (rw (w, t)) in omega arith)
            ]
      ]

  cut_alike : (xs ys : List Field) → AllZip Alike xs ys → Past (first_wrong f xs) → Cut xs ys
  cut_alike [] [] s u = inr (refl, refl)
  cut_alike [] (y ∷ ys) s u = absurd s
  cut_alike (x ∷ xs) [] s u = absurd s
  cut_alike (x ∷ xs) (y ∷ ys) s u =
      elim (cut_field x y s.0 (past_first (wrong_at f x) (first_wrong f xs) u)) [
        | inl e ↦ inl (rw e)
        | inr e ↦
            let a = e.0 in
            elim (cut_alike xs ys s.1 (λ p q. u p (rw a q))) [
              | inl d ↦ inl (rw e.1 d)
              | inr d ↦ inr (rw a d.0, rw e.1 d.1)
            ]
      ]

  -- alike as far as they go, and refused after that if at all
  stop : (xs ys xs' ys' : List Field) → AllZip Alike xs ys → Past (first_wrong f (xs ++ xs')) → (AllByRecursion (Sound cut) ys → Past (first_wrong f xs') → first_wrong cut ys' ≡ Some k) → first_wrong cut (ys ++ ys') ≡ Some k
  stop xs ys xs' ys' s u after =
      let v : Past (or_else (first_wrong f xs) (first_wrong f xs')) = λ p e. u p (first_append f xs xs' ∙ e) in
      first_append cut ys ys' ∙
      elim (cut_alike xs ys s (past_first (first_wrong f xs) (first_wrong f xs') v)) [
        | inl e ↦ rw e
        | inr e ↦ let a = e.0 in rw e.1 (after (sound_all cut ys e.1) (λ p q. v p (rw a q)))
      ]

  -- ── the parts ──

  byte_cut : (p : ℕ) → (p + 1) ≤ k → byte_at cut p ≡ byte_at f p
  byte_cut p h = byte_part f 0 k p p (omega arith) (omega arith)

  number_cut : (p : ℕ) → (p + 4) ≤ k → number4 cut p ≡ number4 f p
  number_cut p h = number_part f 0 k p p h (omega arith)

  bytes : (p a b : ℕ) → (p + 1) ≤ k → is_within a b (byte_at f p) ≡ is_within a b (byte_at cut p)
  bytes p a b h = ap (is_within a b) (sym (byte_cut p h))

  numbers : (p a b : ℕ) → (p + 4) ≤ k → is_within a b (number4 f p) ≡ is_within a b (number4 cut p)
  numbers p a b h = ap (is_within a b) (sym (number_cut p h))

  second : (h v : ℕ) → AllZip Alike (second_header f h v) (second_header cut h v)
  second h v = (
    (refl, refl, numbers h magic magic),
    (
      (refl, refl, bytes (h + 4) v v),
      (
        (refl, refl, λ _. refl),
        (
          (refl, refl, numbers (h + 28) 0 0),
          (
            (refl, refl, numbers (h + 32) 0 2000),
            (
              (refl, refl, numbers (h + 36) 1 256),
              ((refl, refl, λ _. refl), tt),
            ),
          ),
        ),
      ),
    ),
  )

  each_append : (xs ys xs' ys' : List Field) → AllZip Alike xs ys → AllZip Alike xs' ys' → AllZip Alike (xs ++ xs') (ys ++ ys')
  each_append [] [] xs' ys' a b = b
  each_append [] (y ∷ ys) xs' ys' a b = absurd a
  each_append (x ∷ xs) [] xs' ys' a b = absurd a
  each_append (x ∷ xs) (y ∷ ys) xs' ys' a b = (a.0, each_append xs ys xs' ys' a.1 b)

  elements : (xs ys : ℕ → List Field) (n i : ℕ) → ((j : ℕ) → AllZip Alike (xs j) (ys j)) → AllZip Alike (each xs i n) (each ys i n)
  elements xs ys zero i a = tt
  elements xs ys (suc n) i a = each_append (xs i) (ys i) (each xs (suc i) n) (each ys (suc i) n) (a i) (elements xs ys n (suc i) a)

  rising : (b j : ℕ) → AllZip Alike (rising_at f b j) (rising_at cut b j)
  rising b j = (
    (
      refl,
      refl,
      (λ h.
          let e = second_part f 0 k (b + 8 * j) (b + 8 * j) h (omega arith) in
          let d = second_part f 0 k (b + 8 * (j - 1)) (b + 8 * (j - 1)) (omega arith) (omega arith) in
          rw (e, d)),
    ),
    tt,
  )

  type : (b j : ℕ) → AllZip Alike (type_at f b j) (type_at cut b j)
  type b j = (
    (refl, refl, λ h. ap is_offset (sym (offset_part f 0 k (b + 6 * j) (b + 6 * j) h (omega arith)))),
    ((refl, refl, λ _. refl), tt),
  )

  block : (b n m o : ℕ) → AllZip Alike (second_block f b n m o) (second_block cut b n m o)
  block b n m o =
      each_append (each (rising_at f b) 0 n ++ each (index_at f (b + 8 * n) m) 0 n ++ each (type_at f (b + 9 * n)) 0 m) (each (rising_at cut b) 0 n ++ each (index_at cut (b + 8 * n) m) 0 n ++ each (type_at cut (b + 9 * n)) 0 m) _ _
      (each_append (each (rising_at f b) 0 n ++ each (index_at f (b + 8 * n) m) 0 n) (each (rising_at cut b) 0 n ++ each (index_at cut (b + 8 * n) m) 0 n) _ _
      (each_append (each (rising_at f b) 0 n) (each (rising_at cut b) 0 n) _ _
      (elements (rising_at f b) (rising_at cut b) n 0 (rising b))
      (elements (index_at f (b + 8 * n) m) (index_at cut (b + 8 * n) m) n 0 (λ j. ((refl, refl, bytes (b + 8 * n + j) 0 (m - 1)), tt))))
      (elements (type_at f (b + 9 * n)) (type_at cut (b + 9 * n)) m 0 (type (b + 9 * n))))
      ((refl, refl, λ _. refl), tt)

  -- ── the footer ──

  -- a line that is cut has no newline
  line_cut : (bs : List ℕ) (j : ℕ) → j ≤ line_length bs → line_length (take j bs) ≡ j
  line_cut bs zero h = refl
  line_cut [] (suc j) h = absurd (omega arith)
  line_cut (b ∷ bs) (suc j) h =
      elim (cases_Bool (eqb b 10)) [
        | inl t ↦ let no : suc j ≤ 0 = rw t at h in absurd (omega arith)
        | inr t ↦ let yes : suc j ≤ suc (line_length bs) = rw t at h in rw t (ap suc (line_cut bs j (omega arith)))
      ]

  -- the line reaches as far as the cut
  line_past : (t n : ℕ) → Past (first_wrong f (last_line f t n)) → k ≤ t + n
  line_past t n u =
      elim (cases_lt (t + n) k) [
        | inl h ↦
            let a : leb (t + n) (length f) ≡ true = le-leb _ _ (omega arith) in
            let b : leb (t + n + 1) (length f) ≡ true = le-leb _ _ (omega arith) in
            let c : leb (t + n + 1 + 0) (length f) ≡ true = le-leb _ _ (omega arith) in
            let d : leb (length f) (t + n + 1) ≡ false = lt-leb _ _ (omega arith) in
            absurd (elim (cases_Bool (is_within 10 10 (byte_at f (t + n)))) [
              | inl e ↦ let v = u (t + n + 1) (rw (a, b, e, c, d)) in omega arith
              | inr e ↦ let v = u (t + n) (rw (a, b, e)) in omega arith
            ])
        | inr h ↦ h
      ]

  last : (t : ℕ) → t ≤ k → Past (first_wrong f (last_line f t (line_length (drop t f)))) → first_wrong cut (last_line cut t (line_length (drop t cut))) ≡ Some k
  last t h u =
      let l = long in
      let n = line_past t (line_length (drop t f)) u in
      let m : line_length (drop t cut) ≡ k - t = ap line_length (sym (between_is f t k)) ∙ line_cut (drop t f) (k - t) (omega arith) in
      let a : leb (t + (k - t)) k ≡ true = le-leb _ _ (omega arith) in
      let b : leb (t + (k - t) + 1) k ≡ false = lt-leb _ _ (omega arith) in
      rw (m, l, a, b)

  end : (q : ℕ) → Past (first_wrong f (footer f q)) → first_wrong cut (footer cut q) ≡ Some k
  end q u =
      stop (byte_in f q 10 10 ∷ []) (byte_in cut q 10 10 ∷ []) (last_line f (q + 1) (line_length (drop (q + 1) f))) (last_line cut (q + 1) (line_length (drop (q + 1) cut))) ((refl, refl, bytes q 10 10), tt) u
      (λ s. let r = s.0.0 in let l = long in last (q + 1) (omega arith))

  -- ── the file ──

  -- what follows a second header at place h
  abbrev after : List ℕ → ℕ → List Field
  after g h = second_block g (h + 44) (times g h) (types g h) (others g h) ++ footer g (footer_place g h)

  after_cut : (h : ℕ) → (h + 44) ≤ k → Past (first_wrong f (after f h)) → first_wrong cut (after cut h) ≡ Some k
  after_cut h r u =
      rw (number_cut (h + 32) (omega arith), number_cut (h + 36) (omega arith), number_cut (h + 40) (omega arith), number_cut (h + 24) (omega arith), number_cut (h + 20) (omega arith))
      (stop (second_block f (h + 44) (times f h) (types f h) (others f h)) (second_block cut (h + 44) (times f h) (types f h) (others f h)) (footer f (footer_place f h)) (footer cut (footer_place f h)) (block (h + 44) (times f h) (types f h) (others f h)) u
      (λ _. end (footer_place f h)))

  first_block_cut : 44 ≤ k → first_block cut ≡ first_block f
  first_block_cut h =
      rw (
        number_cut 32 (omega arith),
        number_cut 36 (omega arith),
        number_cut 40 (omega arith),
        number_cut 28 (omega arith),
        number_cut 24 (omega arith),
        number_cut 20 (omega arith),
      )

  second_cut : (h v : ℕ) → Past (first_wrong f (second_half f h v)) → first_wrong cut (second_half cut h v) ≡ Some k
  second_cut h v u =
      stop (second_header f h v) (second_header cut h v) (after f h) (after cut h) (second h v) u
      (λ s. let r = s.1.1.1.1.1.1.0.0 in let l = long in after_cut h (omega arith))

  -- the first block, of b bytes, and what follows it
  abbrev rest : List ℕ → ℕ → ℕ → List Field
  rest g b v = anything 44 b ∷ second_half g (44 + b) v

  rest_cut : (b v : ℕ) → Past (first_wrong f (rest f b v)) → first_wrong cut (rest cut b v) ≡ Some k
  rest_cut b v u =
      stop (anything 44 b ∷ []) (anything 44 b ∷ []) (second_half f (44 + b) v) (second_half cut (44 + b) v) ((refl, refl, λ _. refl), tt) u
      (λ _. second_cut (44 + b) v)

  -- the first header
  abbrev first_header : List ℕ → List Field
  first_header g = number_in g 0 magic magic ∷ byte_in g 4 50 51 ∷ anything 5 39 ∷ []

  first : AllZip Alike (first_header f) (first_header cut)
  first = ((refl, refl, numbers 0 magic magic), ((refl, refl, bytes 4 50 51), ((refl, refl, λ _. refl), tt)))

  all_cut : Past (first_wrong f (fields_of f)) → first_wrong cut (fields_of cut) ≡ Some k
  all_cut u =
      stop (first_header f) (first_header cut) (rest f (first_block f) (byte_at f 4)) (rest cut (first_block cut) (byte_at cut 4)) first u (λ s w.
      let r = s.1.1.0.0 in
      let l = long in
      let h : 44 ≤ k = omega arith in
      ap (λ (b : ℕ). first_wrong cut (rest cut b (byte_at cut 4))) (first_block_cut h)
      ∙ ap (λ (v : ℕ). first_wrong cut (rest cut (first_block f) v)) (byte_cut 4 (omega arith))
      ∙ rest_cut (first_block f) (byte_at f 4) w)

  -- ── the answer ──

  by_length : (too_long : Bool) → ltb 65536 (length f) ≡ too_long → ((p : ℕ) → cond too_long (Err (refused 65536)) (Ok (layout_at f (header_place f))) ≡ Err (BadFile p) → k < p) → k < 65536
  by_length true e u = u 65536 refl
  by_length false e u = let l = ltb-false 65536 (length f) e in omega arith

  by_place : (o : Option ℕ) → ((p : ℕ) → answer f o ≡ Err (BadFile p) → k < p) → (k < 65536) × Past o
  by_place (Some q) u =
      let h = u (min q 65536) refl in
      let a = min-le_left q 65536 in
      let b = min-le_right q 65536 in
      (omega arith, λ p e. let d : q ≡ p = cc in omega arith)
  by_place None u = (by_length (ltb 65536 (length f)) refl u, λ p e. absurd (let z : ◌≡◌ {A = ℕ} 0 1 = cc in omega arith))

pub cuts : CutsAreTold
unfolding checked
cuts f k h u =
    let t = by_place f k h (first_wrong f (fields_of f)) u in
    let l = t.0 in
    let m : min k 65536 ≡ k = min-eq_left (omega arith) in
    rw (all_cut f k h t.1, m)
