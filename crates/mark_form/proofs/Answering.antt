-- What reading a mark text answers, by the grammar.
use Rattle.std.proofs.Common.{◌≡◌, ℕ, ◌+◌, ◌<◌, ◌≤◌, false, ltb, List, [], ◌∷◌, ◌++◌, length, take, drop, Ok, Err, Result, sym, refl, ap, ◌∙◌, subst, append_assoc, arith, length-append}
use Rattle.std.proofs.lemmas.Bool.{le-ltb}
use Rattle.std.proofs.lemmas.List.{drop_at}
use Rattle.reading.specs.declared.Misread.{Misread}
use Rattle.reading.specs.Places.{Begins, AnswersWithin}
use Rattle.reading.specs.Reading.{read_on, limited}
use Rattle.reading.proofs.Machines.{answers, answers_within}
use Rattle.mark_form.specs.declared.draft.Draft.{Draft}
use Rattle.mark_form.specs.declared.layout.Layout.{Layout}
use Rattle.mark_form.specs.Drafts.{draft_of, read_layout, read_draft}
use Rattle.mark_form.specs.Grammar.{FractionText, DraftText, layout_of, MarkText}
use Rattle.mark_form.specs.Scanning.{stepped, ended, begun}
use Rattle.mark_form.specs.TagLaws.{TagList, TagsSaid, LayoutTags, DraftTags}
use Rattle.mark_form.proofs.Complete.{complete}
use Rattle.mark_form.proofs.Live.{live}
use Rattle.mark_form.proofs.Sound.{sound}
use Rattle.mark_form.proofs.Forms.{clock_length}
use Rattle.mark_form.proofs.Values.{read_off}

-- ── where the parts stand ──

-- the answer to each text is the one by the grammar
layout_answers : (t : List ℕ) → AnswersWithin MarkText 128 t (read_layout t)
layout_answers t = answers_within MarkText 128 t (read_on stepped ended begun 0 t) (answers stepped ended MarkText live begun sound complete t)

-- the tags of a mark text are told by the list of them
tags_said : (t : List ℕ) (d : Draft) → DraftText t d → TagsSaid t d.name.to d.tags
tags_said t d m =
    let x = m.clock ++ (m.fraction ++ (m.offset ++ (91 ∷ (m.bang ++ (m.name ++ (93 ∷ [])))))) in
    let e : t ≡ x ++ m.tags = m.is ∙ simp append_assoc in
    let k : length x ≡ d.name.to + 1 = simp length-append (omega (arith, clock_length m.clock d m.clock_text, m.name_from, m.name_to)) in
    record { tags = m.each; there = subst (λ z. TagList (d.name.to + 1) z m.each) (sym (ap (drop (d.name.to + 1)) e ∙ drop_at x m.tags (d.name.to + 1) k)) m.tags_text; come = m.tags_told }

layout_tags : (t : List ℕ) (r : Result Layout Misread) → AnswersWithin MarkText 128 t r → LayoutTags t r
layout_tags t (Ok l) a = let m = a.0 in subst (λ (z : Layout). TagsSaid t z.name.to z.tags) (sym m.places) (tags_said t m.draft m.text)
layout_tags t (Err m) a = tt

-- the parts of a text stand at one place each
layout_one : (t : List ℕ) (f g : Layout) → MarkText t f → MarkText t g → f ≡ g
layout_one t f g a b = let e : Ok f ≡ Ok g = sym (complete t f a) ∙ complete t g b in cc

-- where the parts of a text stand
mark_of : (t : List ℕ) (d : Draft) (x : DraftText t d) → MarkText t (layout_of x)
mark_of t d x = record { draft = d; text = x; places = refl }

-- and what it says, read off there
says_of : (t : List ℕ) (l : Layout) → MarkText t l → DraftText t (draft_of t l)
says_of t l m = subst (DraftText t) (sym (ap (draft_of t) m.places ∙ read_off t m.draft m.text)) m.text

-- a text says one thing
draft_one : (t : List ℕ) (f g : Draft) → DraftText t f → DraftText t g → f ≡ g
draft_one t f g a b = sym (read_off t f a) ∙ (ap (draft_of t) (layout_one t (layout_of a) (layout_of b) (mark_of t f a) (mark_of t g b)) ∙ read_off t g b)

-- what `read_layout` ensures, of the answer that equals its definition
pub layout_lawful : (t : List ℕ) (r : Result Layout Misread) → r ≡ read_layout t
    → record { value : r ≡ read_layout t; law : AnswersWithin MarkText 128 t r; tags : LayoutTags t r; one : (f g : Layout) → MarkText t f → MarkText t g → f ≡ g }
layout_lawful t r e =
    let a = subst (AnswersWithin MarkText 128 t) (sym e) (layout_answers t) in
    record { value = e; law = a; tags = layout_tags t r a; one = layout_one t }

-- ── what the text says ──

-- a fraction has at most six digits after the point
fraction_short : {x : List ℕ} {u : ℕ} → FractionText x u → length x ≤ 7
fraction_short FractionText.none = omega arith
fraction_short (FractionText.some h) = omega (arith, h.few)

-- the sign stands near enough to the beginning
pub sign_low : (t : List ℕ) (l : Layout) → MarkText t l → l.sign < 90
sign_low t l m = omega (arith, ap (λ (z : Layout). z.sign) m.places, fraction_short m.text.fraction_text)

-- a beginning of a mark text, by what such a text says
begins_draft : (p : List ℕ) → Begins MarkText p → Begins DraftText p
begins_draft p (w, (l, m)) = (w, (m.draft, m.text))

-- and the other way
begins_mark : (p : List ℕ) → Begins DraftText p → Begins MarkText p
begins_mark p (w, (d, m)) = (w, (layout_of m, mark_of (p ++ w) d m))

-- the answer of a draft, from the answer of a layout
abbrev drafted : List ℕ → Result Layout Misread → Result Draft Misread
drafted t r = elim r [ Ok l ↦ Ok (draft_of t l) | Err m ↦ Err m ]

-- an answer by the grammar stays one when it is read off
draft_answers : (t : List ℕ) (r : Result Layout Misread) → AnswersWithin MarkText 128 t r → AnswersWithin DraftText 128 t (drafted t r)
draft_answers t (Ok l) a = (says_of t l a.0, a.1)
draft_answers t (Err n) a = record {
  no_text = λ d m l. a.no_text (layout_of m) (mark_of t d m) l;
  most = a.most;
  longest = record {
    within = a.longest.within;
    so_far = begins_draft (take a.most t) a.longest.so_far;
    no_further = λ l b. a.longest.no_further l (begins_mark (take (a.most + 1) t) b);
  };
  at = a.at;
}

-- reading off keeps the tags
draft_tags : (t : List ℕ) (r : Result Draft Misread) → AnswersWithin DraftText 128 t r → DraftTags t r
draft_tags t (Ok d) a = tags_said t d a.0
draft_tags t (Err n) a = tt

-- what `read_draft` ensures, of the answer that equals its definition
pub draft_lawful : (t : List ℕ) (r : Result Draft Misread) → r ≡ read_draft t
    → record { value : r ≡ read_draft t; law : AnswersWithin DraftText 128 t r; tags : DraftTags t r; one : (f g : Draft) → DraftText t f → DraftText t g → f ≡ g }
draft_lawful t r e =
    let a = subst (AnswersWithin DraftText 128 t) (sym e) (draft_answers t (read_layout t) (layout_answers t)) in
    record { value = e; law = a; tags = draft_tags t r a; one = draft_one t }

-- the answer where the text reads
pub draft_read : (t : List ℕ) (l : Layout) (d : Draft) → Ok l ≡ read_layout t → d ≡ draft_of t l → Ok d ≡ read_draft t
draft_read t l d e f = ap Ok f ∙ ap (drafted t) e

-- a mark text that isn't too long is read
pub draft_reads : (t : List ℕ) (d : Draft) → DraftText t d → length t ≤ 128 → read_draft t ≡ Ok d
draft_reads t d x h =
    let short : ltb 128 (length t) ≡ false = le-ltb 128 (length t) h in
    let e : read_layout t ≡ Ok (layout_of x) = ap (limited 128 (length t)) (complete t (layout_of x) (mark_of t d x)) ∙ rw short refl in
    sym (draft_read t (layout_of x) d (sym e) (sym (read_off t d x)))
