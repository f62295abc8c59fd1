-- Bytes that are copied into a part of the buffer.
use Rattle.std.proofs.Common.{◌≡◌, ℕ, ◌+◌, ◌-◌, min, List, length, take, drop, sym, ap, ◌∙◌, inl, inr, arith}
use borrow.Rule.Slice.PartMut.{put_mid}
use Rattle.std.proofs.lemmas.List.{take_all, drop-drop}
use Rattle.std.proofs.lemmas.Bool.{cases_lt}
use Rattle.writing.specs.Placing.{fitting, Placed}
use Rattle.writing.proofs.Placings.{fits_length}

-- as many bytes as there is room for are what fits
fits_count : (xs bs : List ℕ) (at n : ℕ) → n ≡ min (length bs) (length xs - at) → take n bs ≡ fitting xs at bs
unfolding fitting
fits_count xs bs at n e = elim (cases_lt (length xs - at) (length bs)) [
  | inl h ↦ ap (λ k. take k bs) (omega arith)
  | inr h ↦ take_all n bs (omega arith) ∙ sym (take_all (length xs - at) bs h)
]

-- after `out[at..at + n].copy_from_slice(&bytes[..n])`
pub placed_copy : (xs bs ys : List ℕ) (at n k m : ℕ) → n ≡ min (length bs) (length xs - at) → ys ≡ take m bs → m ≡ n → k ≡ n
    → Placed xs at bs (put_mid at k xs ys) (at + n)
placed_copy xs bs ys at n k m e copied f g =
    let fits : ys ≡ fitting xs at bs = copied ∙ (ap (λ z. take z bs) f ∙ fits_count xs bs at n e) in
    let rest : drop k (drop at xs) ≡ drop (at + n) xs = drop-drop k at xs ∙ ap (λ z. drop (at + z) xs) g in
    record { end = omega (arith, fits_length xs at bs); is = rw (fits, rest) }
