-- A text is its first line and the lines after it.
use Rattle.std.proofs.Common.{◌≡◌, ℕ, suc, ◌+◌, ◌-◌, ◌<◌, ◌≤◌, Bool, true, false, cond, eqb, List, [], ◌∷◌, ◌++◌, length, take, drop, sym, refl, ap, ◌∙◌, append_assoc, append-nil, arith, length-append, length-drop}
use Rattle.std.proofs.lemmas.List.{drop-drop, drop_all, take_rest}
use Rattle.reading.specs.Lines.{line_length}
use Rattle.script.specs.Scripts.{lines_on, lines_of}

-- ── the lines ──

-- one byte of a line, or its end
step : (line : List ℕ) (b : ℕ) (bs : List ℕ) (x : Bool) → eqb b 10 ≡ x
    → lines_on (line ++ (b ∷ [])) bs ≡ ((line ++ (b ∷ [])) ++ take (line_length bs) bs) ∷ lines_on [] (drop (line_length bs + 1) bs)
    → lines_on line (b ∷ bs) ≡ (line ++ take (line_length (b ∷ bs)) (b ∷ bs)) ∷ lines_on [] (drop (line_length (b ∷ bs) + 1) (b ∷ bs))
step line b bs true h next = rw h (ap (λ (z : List ℕ). z ∷ lines_on [] bs) (sym (append-nil line)))
step line b bs false h next =
    let e : suc (line_length bs) + 1 ≡ suc (line_length bs + 1) = omega arith in
    rw (h, e) (next ∙ ap (λ (z : List ℕ). z ∷ lines_on [] (drop (line_length bs + 1) bs)) (append_assoc line (b ∷ []) (take (line_length bs) bs)))

-- after the bytes of a line that has begun
first_on : (c : ℕ) (cs text : List ℕ) → lines_on (c ∷ cs) text ≡ ((c ∷ cs) ++ take (line_length text) text) ∷ lines_on [] (drop (line_length text + 1) text)
first_on c cs [] = ap (λ (z : List ℕ). z ∷ []) (sym (append-nil (c ∷ cs)))
first_on c cs (b ∷ bs) = step (c ∷ cs) b bs (eqb b 10) refl (first_on c (cs ++ (b ∷ [])) bs)

pub first_line : (text : List ℕ) → 0 < length text → lines_of text ≡ take (line_length text) text ∷ lines_of (drop (line_length text + 1) text)
unfolding lines_of
first_line [] h = absurd (omega arith)
first_line (b ∷ bs) h = step [] b bs (eqb b 10) refl (first_on b [] bs)

pub nothing : (text : List ℕ) → length text ≡ 0 → text ≡ []
nothing [] h = refl
nothing (b ∷ bs) h = absurd (omega arith)

-- ── what `next_line` hands out ──

module _ (text line rest : List ℕ) (end : ℕ) (some : 0 < length text) (is : end ≡ line_length text) (front : line ≡ take end text) where
  cut : rest ≡ drop (end + 1) text → lines_of text ≡ line ∷ lines_of rest
  cut back = first_line text some ∙ (ap (λ n. take n text ∷ lines_of (drop (n + 1) text)) (sym is) ∙ rw (front, back) refl)

  pub cut_at : (back : List ℕ) → back ≡ drop end text → 0 < length back → rest ≡ take (length back - 1) (drop 1 back) → lines_of text ≡ line ∷ lines_of rest
  cut_at back e m r = cut (r ∙ (take_rest back 1 ∙ (ap (drop 1) e ∙ drop-drop 1 end text)))

  pub cut_all : rest ≡ drop end text → length rest ≡ 0 → lines_of text ≡ line ∷ lines_of rest
  cut_all e z =
      let l : length text ≤ end + 1 = omega (arith, ap length e, length-drop end text) in
      cut (nothing rest z ∙ sym (drop_all (end + 1) text l))

pub no_lines : lines_of [] ≡ []
unfolding lines_of
no_lines = refl

-- ── how many lines a text has at most ──

few_on : (line bs : List ℕ) → length (lines_on line bs) ≤ length line + length bs
few_on [] [] = omega arith
few_on (c ∷ cs) [] = omega arith
few_on line (b ∷ bs) = by (eqb b 10) (few_on [] bs) (few_on (line ++ (b ∷ [])) bs)
  where
    by : (x : Bool) → length (lines_on [] bs) ≤ 0 + length bs → length (lines_on (line ++ (b ∷ [])) bs) ≤ length (line ++ (b ∷ [])) + length bs
        → length (cond x (line ∷ lines_on [] bs) (lines_on (line ++ (b ∷ [])) bs)) ≤ length line + length (b ∷ bs)
    by true h k = omega (arith, h)
    by false h k = omega (arith, k, length-append line (b ∷ []))

pub few_lines : (text : List ℕ) → length (lines_of text) ≤ length text
unfolding lines_of
few_lines text = omega (arith, few_on [] text)
