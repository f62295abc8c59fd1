-- The laws of placing.
use Rattle.std.proofs.Common.{◌≡◌, ℕ, zero, suc, ◌+◌, ◌-◌, ◌≤◌, min, ◌⊎◌, List, [], ◌∷◌, ◌++◌, length, take, drop, sym, ap, ◌∙◌, inl, inr, append_assoc, append-nil, add-zero, zero-add, arith, length-append, length-drop, length-take}
use native.Mathlib.Nat.{zero-sub, sub-zero, suc-sub-suc}
use Rattle.std.proofs.lemmas.List.{take_all, take_at, drop_all, drop_at, drop-drop, take-append-drop}
use Rattle.std.proofs.lemmas.Bool.{cases_lt}
use Rattle.writing.specs.Placing.{fitting, Placed}

-- ── what fits ──

take_parts : (n : ℕ) (s t : List ℕ) → take n (s ++ t) ≡ take n s ++ take (n - length s) t
take_parts zero s t = rw zero-sub
take_parts (suc n) [] t = rw sub-zero
take_parts (suc n) (x ∷ s) t = rw suc-sub-suc (ap (λ (r : List ℕ). x ∷ r) (take_parts n s t))

-- how much fits
pub fits_length : (a : List ℕ) (i : ℕ) (s : List ℕ) → length (fitting a i s) ≡ min (length a - i) (length s)
unfolding fitting
fits_length a i s = length-take (length a - i) s

pub fits_whole : (a : List ℕ) (i : ℕ) (s : List ℕ) → i + length s ≤ length a → fitting a i s ≡ s
unfolding fitting
fits_whole a i s h = take_all (length a - i) s (omega arith)

pub fits_none : (a : List ℕ) (i : ℕ) → fitting a i [] ≡ []
unfolding fitting
fits_none a i = take_all (length a - i) [] (omega arith)

pub fits_past : (a : List ℕ) (i : ℕ) (s : List ℕ) → length a ≤ i → fitting a i s ≡ []
unfolding fitting
fits_past a i s h = let z : length a - i ≡ 0 = omega arith in rw z

-- ── placing ──

-- nothing is put
pub placed_none : (xs : List ℕ) (at : ℕ) → Placed xs at [] xs at
placed_none xs at = record { end = rw (fits_none xs at) (sym (add-zero at)); is = rw (fits_none xs at) (sym (take-append-drop at xs)) }

-- past the buffer's end nothing is put
pub placed_past : (xs : List ℕ) (at : ℕ) (text : List ℕ) → length xs ≤ at → Placed xs at text xs at
placed_past xs at text h =
    let none : fitting xs at text ≡ [] = fits_past xs at text h in
    record { end = rw none (sym (add-zero at)); is = rw none (sym (take-append-drop at xs)) }

-- the buffer keeps its length
pub placed_length : {a b s : List ℕ} {i j : ℕ} → Placed a i s b j → length b ≡ length a
placed_length {a} {b} {s} {i} {j} p =
    ap length p.is ∙ simp (length-append, length-take, length-drop) (omega (arith, p.end, fits_length a i s))

-- a cut right after the first part, or past all that there is
cut : (p q : List ℕ) (n : ℕ) → (length p ≡ n) ⊎ ((length p ≤ n) × (q ≡ [])) → (take n (p ++ q) ≡ p) × (drop n (p ++ q) ≡ q)
cut p q n (inl e) = (take_at p q n e, drop_at p q n e)
cut p q n (inr h) = rw (h.1, append-nil) (take_all n p h.0, drop_all n p h.0)

-- what was put and what stands before it, and the rest
placed_cut : {a b s : List ℕ} {i j : ℕ} → Placed a i s b j → (take j b ≡ take i a ++ fitting a i s) × (drop j b ≡ drop j a)
placed_cut {a} {b} {s} {i} {j} p =
    let whole : b ≡ (take i a ++ fitting a i s) ++ drop j a = p.is ∙ sym (append_assoc (take i a) (fitting a i s) (drop j a)) in
    let n : length (take i a ++ fitting a i s) ≡ min i (length a) + length (fitting a i s) = simp (length-append, length-take) in
    rw whole (cut _ _ j (elim (cases_lt (length a) i) [
      | inl h ↦ inr (omega (arith, n, p.end), drop_all j a (omega (arith, p.end)))
      | inr h ↦ inl (omega (arith, n, p.end))
    ]))

-- what is left of the room is for the text after
placed_room : {a b s : List ℕ} {i j : ℕ} → Placed a i s b j → (t : List ℕ) → fitting a i (s ++ t) ≡ fitting a i s ++ fitting b j t
unfolding fitting
placed_room {a} {b} {s} {i} {j} p t =
    let room : length a - i - length s ≡ length b - j = omega (arith, p.end, placed_length p, length-take (length a - i) s) in
    take_parts (length a - i) s t ∙ ap (λ n. take (length a - i) s ++ take n t) room

-- two texts, one after the other, are one text
pub placed_more : {a b c s t : List ℕ} {i j k : ℕ} → Placed a i s b j → Placed b j t c k → Placed a i (s ++ t) c k
placed_more {a} {b} {c} {s} {t} {i} {j} {k} p q =
    let fits : fitting a i (s ++ t) ≡ fitting a i s ++ fitting b j t = placed_room p t in
    let n : length (fitting a i s ++ fitting b j t) ≡ length (fitting a i s) + length (fitting b j t) = length-append _ _ in
    let rest : drop k b ≡ drop k a = rw (q.end, ← drop-drop (length (fitting b j t)) j b, (placed_cut p).1, drop-drop) in
    record {
      end = rw fits (omega (arith, p.end, q.end, n));
      is = q.is ∙ rw ((placed_cut p).0, rest, fits) (simp append_assoc);
    }

-- a text for which there is room
pub placed_whole : {a b s : List ℕ} {i j : ℕ} → Placed a i s b j → i + length s ≤ length a
    → (j ≡ i + length s) × (b ≡ take i a ++ (s ++ drop (i + length s) a))
placed_whole {a} {b} {s} {i} {j} p h =
    let whole : fitting a i s ≡ s = fits_whole a i s h in
    let end : j ≡ i + length s = rw whole at p.end in
    (end, p.is ∙ rw (whole, end))

-- a text for which there is room, at the start of the buffer
pub placed_start : {a b s : List ℕ} {j : ℕ} → Placed a 0 s b j → length s ≤ length a → (j ≡ length s) × (b ≡ s ++ drop (length s) a)
placed_start {a} {b} {s} {j} p h = rw zero-add at (placed_whole p (rw zero-add h))
