-- A list of the marks, one slot more at a time.
use Rattle.std.proofs.Common.{◌≡◌, ℕ, zero, suc, ◌+◌, ◌*◌, ◌<◌, ◌≤◌, Bool, true, false, cond, eqb, ltb, List, [], ◌∷◌, ◌++◌, length, take, get_or, Some, None, Option, sym, refl, ap, ◌∙◌, subst, append_assoc, append-nil, ⊎_elim, is_some, decimal, arith, length-append}
use Rattle.std.proofs.lemmas.Bool.{lt-ltb, le-ltb, eq-eqb, ne_eqb, cases_lt}
use Rattle.std.proofs.lemmas.List.Sums.{fold-append}
use Rattle.std.proofs.lemmas.Fmt.{length-decimal-le}
use Rattle.std.proofs.lemmas.List.{take_all, get_or_past}
use Rattle.mark_text.specs.declared.mark.Mark.{Mark}
use Rattle.mark_text.specs.Marks.{mark_there}
use Rattle.mark_text.specs.Shown.{TextOf}
use Rattle.writing.specs.declared.Writer.{Writer}
use Rattle.writing.specs.Putting.{Puts}
use Rattle.writing.proofs.Puttings.{puts_none, puts_more}
use Rattle.shelf.specs.Slots.{in_use}
use Rattle.board_law.specs.Boards.{Sources, State, mark_at, kept, one_if, marks_in}
use Rattle.board_law.specs.Texts.{occurrences, LineOf, Lines}
use Rattle.board_law.specs.Texts.Lines.{none, line}
use Rattle.planboard.specs.Lists.{PutsOne, SlotText, LinePut, ListPut}

cond_same : (t : Bool) → ◌≡◌ {A = ℕ} (cond t 0 0) 0
cond_same true = refl
cond_same false = refl

occurrences_last : (j : ℕ) (ks : List ℕ) (k : ℕ) → occurrences j (ks ++ (k ∷ [])) ≡ occurrences j ks + cond (eqb k j) 1 0
occurrences_last j ks k = fold-append (λ (a n : ℕ). a + cond (eqb n j) 1 0) 0 ks (k ∷ [])

module _ (src : Sources) where
  -- one mark more
  marks_more : (xs : List (Option Mark)) (k : ℕ) → k < length xs →
      marks_in src (take (suc k) xs) ≡ marks_in src (take k xs) + one_if (kept (mark_there src.zones src.calendars) (get_or xs k None))
  marks_more [] k h = absurd (omega arith)
  marks_more (x ∷ xs) zero h = omega arith
  marks_more (x ∷ xs) (suc k) h = let m = marks_more xs k (omega arith) in omega (arith, m)

  filled_one : (o : Option Mark) → one_if o ≡ cond (is_some o) 1 0
  filled_one (Some m) = refl
  filled_one None = refl

  pub count_next : (xs : List (Option Mark)) (k n next : ℕ) (t : Bool) → k < length xs → n ≡ marks_in src (take k xs)
      → t ≡ is_some (kept (mark_there src.zones src.calendars) (get_or xs k None)) → next ≡ n + cond t 1 0 → next ≡ marks_in src (take (k + 1) xs)
  count_next xs k n next t on e f h =
      let m = marks_more xs k on in
      let one : one_if (kept (mark_there src.zones src.calendars) (get_or xs k None)) ≡ cond t 1 0 = filled_one _ ∙ ap (λ (b : Bool). cond b 1 0) (sym f) in
      let same : k + 1 ≡ suc k = omega arith in
      rw same (omega (arith, m, one, e, h))

  module _ (st : State) where
    lines_last : (ks : List ℕ) (t : List ℕ) (k : ℕ) (u : List ℕ) → Lines src st ks t → LineOf src st k u → Lines src st (ks ++ (k ∷ [])) (t ++ u)
    lines_last _ _ k u none o = subst (λ (v : List ℕ). Lines src st (k ∷ []) v) (append-nil u) (line k u [] [] o none)
    lines_last _ _ k u (line i t order rest o more) p =
        subst (λ (v : List ℕ). Lines src st (i ∷ (order ++ (k ∷ []))) v) (sym (append_assoc t rest u)) (line i t (order ++ (k ∷ [])) (rest ++ u) o (lines_last order rest k u more p))

    -- ── one line ──

    pub nothing_put : (k : ℕ) (w : Writer) → mark_at src st k ≡ None → LinePut src st k w w
    nothing_put k w e =
        subst (λ (o : Option Mark). PutsOne (SlotText src st k o) (100 * one_if o) w w) (sym e) (record { text = []; is = refl; short = omega arith; put = puts_none w })

    pub line_put : (k : ℕ) (m : Mark) (before after : Writer) (t : List ℕ) → mark_at src st k ≡ Some m → k < 256 → TextOf src.zones src.calendars m t
        → Puts before (decimal k ++ (32 ∷ (t ++ (10 ∷ [])))) after → LinePut src st k before after
    line_put k m before after t e few x p =
        let d = length-decimal-le 3 k (omega arith) (omega arith) (omega arith) in
        subst (λ (o : Option Mark). PutsOne (SlotText src st k o) (100 * one_if o) before after) (sym e)
        (record {
          text = decimal k ++ (32 ∷ (t ++ (10 ∷ [])));
          is = record { mark = m; held = e; text = t; canonical = x; is = refl };
          short = omega (arith, length-append (decimal k) (32 ∷ (t ++ (10 ∷ []))), length-append t (10 ∷ []), d, x.short);
          put = p;
        })

    -- ── slot by slot ──

    abbrev slots : List (Option Mark)
    slots = in_use 256 st.marks

    -- the lines of the first k slots are put
    pub record Going (k : ℕ) (before now : Writer) : Type 0 where
      pub order : List ℕ
      pub text : List ℕ
      pub once : (j : ℕ) → occurrences j order ≡ cond (ltb j k) (one_if (mark_at src st j)) 0
      pub lines : Lines src st order text
      pub short : length text ≤ 100 * marks_in src (take k slots)
      pub put : Puts before text now

    pub going_first : (w : Writer) → Going 0 w w
    going_first w = record { order = []; text = []; once = λ j. ap (λ (t : Bool). cond t (one_if (mark_at src st j)) 0) (sym (le-ltb j 0 (omega arith))); lines = none; short = omega arith; put = puts_none w }

    -- slot k has its line
    once_more : (k : ℕ) (ks : List ℕ) (n : ℕ) → one_if (mark_at src st k) ≡ n → ((j : ℕ) → occurrences j ks ≡ cond (ltb j k) (one_if (mark_at src st j)) 0)
        → (j : ℕ) → occurrences j ks + cond (eqb k j) n 0 ≡ cond (ltb j (suc k)) (one_if (mark_at src st j)) 0
    once_more k ks n is h j =
        ⊎_elim
        (λ (l : j < k). rw (h j, lt-ltb j k l, lt-ltb j (suc k) (omega arith), ne_eqb k j (λ e. absurd (omega arith))) (omega arith))
        (λ (l : k ≤ j).
        ⊎_elim
        (λ (m : k < j). rw (h j, le-ltb j k l, le-ltb j (suc k) (omega arith), ne_eqb k j (λ e. absurd (omega arith))) refl)
        (λ (m : j ≤ k).
        let same : k ≡ j = omega arith in
        let x : n ≡ one_if (mark_at src st j) = sym is ∙ ap (λ (i : ℕ). one_if (mark_at src st i)) same in
        rw (h j, le-ltb j k l, lt-ltb j (suc k) (omega arith), eq-eqb k j same) (omega (arith, x)))
        (cases_lt k j))
        (cases_lt j k)

    pub going_on : {k : ℕ} {before now : Writer} → (next : Writer) → Going k before now → k < length slots → LinePut src st k now next → Going (k + 1) before next
    going_on {k} {before} {now} next g on p = by (mark_at src st k) refl p.text refl p.is p.put
      where
        n : ℕ
        n = one_if (mark_at src st k)

        one : k + 1 ≡ suc k
        one = omega arith

        room : length (g.text ++ p.text) ≤ 100 * marks_in src (take (k + 1) slots)
        room =
            let more : marks_in src (take (k + 1) slots) ≡ marks_in src (take k slots) + n = ap (λ (i : ℕ). marks_in src (take i slots)) one ∙ marks_more slots k on in
            omega (arith, length-append g.text p.text, more, g.short, p.short)

        by : (o : Option Mark) → mark_at src st k ≡ o → (t : List ℕ) → t ≡ p.text → SlotText src st k o t → Puts now t next → Going (k + 1) before next
        by (Some m) e t same is put = record {
          order = g.order ++ (k ∷ []);
          text = g.text ++ t;
          once = λ j. occurrences_last j g.order k ∙ once_more k g.order 1 (ap one_if e) g.once j ∙ ap (λ (i : ℕ). cond (ltb j i) (one_if (mark_at src st j)) 0) (sym one);
          lines = lines_last g.order g.text k t g.lines is;
          short = rw same room;
          put = puts_more g.put put;
        }
        by None e t same is put = record {
          order = g.order;
          text = g.text;
          once = λ j. let x = once_more k g.order 0 (ap one_if e) g.once j in let y : cond (eqb k j) 0 0 ≡ 0 = cond_same (eqb k j) in
              (omega (arith, x, y) ∙ ap (λ (i : ℕ). cond (ltb j i) (one_if (mark_at src st j)) 0) (sym one));
          lines = g.lines;
          short = let r = room in omega (arith, r, length-append g.text p.text);
          put = subst (λ (u : List ℕ). Puts before u next) (ap (λ (u : List ℕ). g.text ++ u) is ∙ append-nil g.text) (puts_more g.put put);
        }

    pub going_end : {k : ℕ} {before now : Writer} → Going k before now → length slots ≤ k → ListPut src st before now
    going_end {k} {before} {now} g all = record {
      text = g.text;
      is = record { order = g.order; once = λ j. g.once j ∙ all_told j; lines = g.lines };
      short = subst (λ (xs : List (Option Mark)). length g.text ≤ 100 * marks_in src xs) (take_all k slots all) g.short;
      put = g.put;
    }
      where
        -- past the slots, none holds a mark
        all_told : (j : ℕ) → cond (ltb j k) (one_if (mark_at src st j)) 0 ≡ one_if (mark_at src st j)
        all_told j =
            ⊎_elim
            (λ (l : j < k). ap (λ (t : Bool). cond t (one_if (mark_at src st j)) 0) (lt-ltb j k l))
            (λ (l : k ≤ j).
            let out : get_or slots j None ≡ None = get_or_past slots j None (omega (arith, l, all)) in
            ap (λ (t : Bool). cond t (one_if (mark_at src st j)) 0) (le-ltb j k l)
            ∙ sym (ap (λ (o : Option Mark). one_if (kept (mark_there src.zones src.calendars) o)) out))
            (cases_lt j k)
