-- What reading a name answers, by its form.
use Rattle.std.proofs.Common.{◌≡◌, ℕ, ◌+◌, ◌≤◌, true, cond, ◌&&◌, eqb, leb, ◌⊎◌, List, [], ◌∷◌, Some, None, Ok, Result, sym, refl, ◌∙◌, subst, inl, inr}
use Rattle.std.proofs.lemmas.Bool.{and_parts, and_from, or_cases, or_left, or_right, leb-true, le-leb, eqb-true}
use Rattle.reading.specs.declared.Misread.{Misread}
use Rattle.reading.specs.Reading.{read_on}
use Rattle.reading.specs.Places.{Answers, AnswersWithin}
use Rattle.reading.proofs.Machines.{none_some, err_ok, cond_some, first_step, go, answers, answers_within}
use Rattle.names.specs.declared.Progress.{Progress}
use Rattle.names.specs.declared.Progress.TheVariants.{Begin, Run}
use Rattle.names.specs.declared.InForm.{InForm}
use Rattle.names.specs.Names.{LetterOrDigit, Runs, CalendarName}
use Rattle.names.specs.Names.Runs.{last, more, join}
use Rattle.names.specs.Scanning.{is_letter_or_digit, stepped, ended, scan_calendar_name, read_calendar_name}

-- ── letters and digits ──

pub between : (lo hi b : ℕ) → (leb lo b && leb b hi) ≡ true → (lo ≤ b) × (b ≤ hi)
between lo hi b h = let p = and_parts (leb lo b) (leb b hi) h in (leb-true lo b p.0, leb-true b hi p.1)

pub is_between : (lo hi b : ℕ) → (lo ≤ b) × (b ≤ hi) → (leb lo b && leb b hi) ≡ true
is_between lo hi b h = and_from (leb lo b) (leb b hi) (le-leb lo b h.0) (le-leb b hi h.1)

pub is_one : (b : ℕ) → is_letter_or_digit b ≡ true → LetterOrDigit b
is_one b h = elim (or_cases (leb 97 b && leb b 122) _ h) [
  | inl l ↦ inr (inl (between 97 122 b l))
  | inr k ↦ elim (or_cases (leb 65 b && leb b 90) (leb 48 b && leb b 57) k) [ inl u ↦ inl (between 65 90 b u) | inr d ↦ inr (inr (between 48 57 b d)) ]
]

pub one_is : (b : ℕ) → LetterOrDigit b → is_letter_or_digit b ≡ true
one_is b (inl u) = or_right (leb 97 b && leb b 122) _ (or_left (leb 65 b && leb b 90) _ (is_between 65 90 b u))
one_is b (inr (inl l)) = or_left (leb 97 b && leb b 122) _ (is_between 97 122 b l)
one_is b (inr (inr d)) = or_right (leb 97 b && leb b 122) _ (or_right (leb 65 b && leb b 90) _ (is_between 48 57 b d))

-- ── every progress comes to an end ──

live : (s : Progress) (a : ℕ) → (w : List ℕ) × ((v : InForm) × (read_on stepped ended s a w ≡ Ok v))
live Begin a = (97 ∷ [], (_, refl))
live Run a = ([], (_, refl))

-- ── whatever is read is in form ──

-- what can follow inside a run
abbrev Rest : List ℕ → Type 0
Rest [] = Unit {0}
Rest (b ∷ bs) = Runs (b ∷ bs) ⊎ ((b ≡ 45) × Runs bs)

begun : (b : ℕ) (bs : List ℕ) → LetterOrDigit b → Rest bs → Runs (b ∷ bs)
begun b [] l r = last l
begun b (c ∷ cs) l (inl r) = more l r
begun b (c ∷ cs) l (inr (e, r)) = subst (λ z. Runs (b ∷ (z ∷ cs))) (sym e) (join l r)

mutual
  sound_begin : (a : ℕ) (t : List ℕ) (v : InForm) → read_on stepped ended Begin a t ≡ Ok v → Runs t
  sound_begin a [] v h = err_ok v a h
  sound_begin a (b ∷ bs) v h =
      let s = first_step stepped ended Begin a b bs v h in
      elim (cond_some (is_letter_or_digit b) Run None s.0 s.1) [
        | inl w ↦ begun b bs (is_one b w.0) (sound_run (a + 1) bs v (subst (λ z. read_on stepped ended z (a + 1) bs ≡ Ok v) (sym w.1) s.2))
        | inr n ↦ none_some s.0 n
      ]

  sound_run : (a : ℕ) (t : List ℕ) (v : InForm) → read_on stepped ended Run a t ≡ Ok v → Rest t
  sound_run a [] v h = tt
  sound_run a (b ∷ bs) v h =
      let s = first_step stepped ended Run a b bs v h in
      elim (cond_some (is_letter_or_digit b) Run (cond (eqb b 45) (Some Begin) None) s.0 s.1) [
        | inl w ↦ inl (begun b bs (is_one b w.0) (sound_run (a + 1) bs v (subst (λ z. read_on stepped ended z (a + 1) bs ≡ Ok v) (sym w.1) s.2)))
        | inr n ↦ elim (cond_some (eqb b 45) Begin None s.0 n) [
          | inl w ↦ inr (eqb-true b 45 w.0, sound_begin (a + 1) bs v (subst (λ z. read_on stepped ended z (a + 1) bs ≡ Ok v) (sym w.1) s.2))
          | inr m ↦ none_some s.0 m
        ]
      ]

-- ── every name in form is read ──

letter_step : (s : Progress) (a b : ℕ) → LetterOrDigit b → stepped s a b ≡ Some Run
letter_step Begin a b l = rw (one_is b l) refl
letter_step Run a b l = rw (one_is b l) refl

complete_from : (s : Progress) (a : ℕ) (t : List ℕ) (v : InForm) → Runs t → read_on stepped ended s a t ≡ Ok v
complete_from s a t v (last {b} l) = go stepped ended s Run a b [] (letter_step s a b l) ∙ refl
complete_from s a t v (more {b} {bs} l r) = go stepped ended s Run a b bs (letter_step s a b l) ∙ complete_from Run (a + 1) bs v r
complete_from s a t v (join {b} {bs} l r) =
    go stepped ended s Run a b (45 ∷ bs) (letter_step s a b l) ∙ (go stepped ended Run Begin (a + 1) 45 bs refl ∙ complete_from Begin (a + 1 + 1) bs v r)

pub scan_answers : (name : List ℕ) → Answers CalendarName name (scan_calendar_name name)
scan_answers name = answers stepped ended CalendarName live Begin (λ t v e. sound_begin 0 t v e) (λ t v x. complete_from Begin 0 t v x) name

name_answers : (name : List ℕ) → AnswersWithin CalendarName 16 name (read_calendar_name name)
name_answers name = answers_within CalendarName 16 name (scan_calendar_name name) (scan_answers name)

pub lawful : (name : List ℕ) (r : Result InForm Misread) → r ≡ read_calendar_name name
    → record { value : r ≡ read_calendar_name name; grammar : AnswersWithin CalendarName 16 name r }
lawful name r e = record { value = e; grammar = subst (AnswersWithin CalendarName 16 name) (sym e) (name_answers name) }
