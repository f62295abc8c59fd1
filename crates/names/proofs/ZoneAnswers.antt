-- What reading a zone's name answers, by its form.
use Rattle.std.proofs.Common.{◌≡◌, ℕ, ◌+◌, Bool, true, ◌&&◌, ◌||◌, eqb, leb, ◌⊎◌, List, [], ◌∷◌, Some, None, Ok, Result, sym, refl, ◌∙◌, subst, inl, inr}
use Rattle.std.proofs.lemmas.Bool.{or_cases, or_left, or_right, eqb-true, eq-eqb}
use Rattle.reading.specs.declared.Misread.{Misread}
use Rattle.reading.specs.Reading.{read_on}
use Rattle.reading.specs.Places.{Answers, AnswersWithin}
use Rattle.reading.proofs.Machines.{none_some, err_ok, cond_some, first_step, go, answers, answers_within}
use Rattle.names.specs.declared.zone_form.ZoneProgress.{ZoneProgress}
use Rattle.names.specs.declared.zone_form.ZoneProgress.TheVariants.{Begin, Inside}
use Rattle.names.specs.declared.InForm.{InForm}
use Rattle.names.specs.Scanning.{is_letter_or_digit}
use Rattle.names.specs.ZoneNames.{Letter, FirstOfZoneName, InZoneName, AllInZoneName, IsZoneName}
use Rattle.names.specs.ZoneScanning.{is_letter, is_first_of_zone_name, is_in_zone_name, zone_stepped as stepped, zone_ended as ended, scan_zone_name, read_zone_name}
use Rattle.names.proofs.NameAnswers.{between, is_between, is_one as letter_or_digit, one_is as is_a_letter_or_digit}

-- ── letters, by their tests ──

letter : (b : ℕ) → is_letter b ≡ true → Letter b
letter b h = elim (or_cases (leb 97 b && leb b 122) _ h) [ inl l ↦ inr (between 97 122 b l) | inr u ↦ inl (between 65 90 b u) ]

is_a_letter : (b : ℕ) → Letter b → is_letter b ≡ true
is_a_letter b (inl u) = or_right (leb 97 b && leb b 122) _ (is_between 65 90 b u)
is_a_letter b (inr l) = or_left (leb 97 b && leb b 122) _ (is_between 97 122 b l)

-- ── the bytes of a name, by their tests ──

-- one byte or else
either : {Else : Type 0} (b x : ℕ) (test : Bool) → (test ≡ true → Else) → (eqb b x || test) ≡ true → (b ≡ x) ⊎ Else
either b x test or_else h = elim (or_cases (eqb b x) test h) [ inl e ↦ inl (eqb-true b x e) | inr t ↦ inr (or_else t) ]

is_either : {Else : Type 0} (b x : ℕ) (test : Bool) → (Else → test ≡ true) → (b ≡ x) ⊎ Else → (eqb b x || test) ≡ true
is_either b x test or_else (inl e) = or_left (eqb b x) test (eq-eqb b x e)
is_either b x test or_else (inr t) = or_right (eqb b x) test (or_else t)

pub first_of : (b : ℕ) → is_first_of_zone_name b ≡ true → FirstOfZoneName b
first_of b h = elim (or_cases (is_letter b) _ h) [
  | inl l ↦ inl (letter b l)
  | inr t ↦ inr (either b 95 _ (eqb-true b 46) t)
]

pub is_first_of : (b : ℕ) → FirstOfZoneName b → is_first_of_zone_name b ≡ true
is_first_of b (inl l) = or_left (is_letter b) _ (is_a_letter b l)
is_first_of b (inr t) = or_right (is_letter b) _ (is_either b 95 _ (eq-eqb b 46) t)

pub inside : (b : ℕ) → is_in_zone_name b ≡ true → InZoneName b
inside b h = elim (or_cases (is_letter_or_digit b) _ h) [
  | inl l ↦ inl (letter_or_digit b l)
  | inr t ↦ inr (either b 46 _ (either b 95 _ (either b 45 _ (either b 43 _ (eqb-true b 47)))) t)
]

pub is_inside : (b : ℕ) → InZoneName b → is_in_zone_name b ≡ true
is_inside b (inl l) = or_left (is_letter_or_digit b) _ (is_a_letter_or_digit b l)
is_inside b (inr t) = or_right (is_letter_or_digit b) _ (is_either b 46 _ (is_either b 95 _ (is_either b 45 _ (is_either b 43 _ (eq-eqb b 47)))) t)

-- ── every progress comes to an end ──

live : (s : ZoneProgress) (a : ℕ) → (w : List ℕ) × ((v : InForm) × (read_on stepped ended s a w ≡ Ok v))
live Begin a = (97 ∷ [], (_, refl))
live Inside a = ([], (_, refl))

-- ── whatever is read is in form ──

sound_inside : (a : ℕ) (t : List ℕ) (v : InForm) → read_on stepped ended Inside a t ≡ Ok v → AllInZoneName t
sound_inside a [] v h = tt
sound_inside a (b ∷ bs) v h =
    let s = first_step stepped ended Inside a b bs v h in
    elim (cond_some (is_in_zone_name b) Inside None s.0 s.1) [
      | inl w ↦ (inside b w.0, sound_inside (a + 1) bs v (subst (λ z. read_on stepped ended z (a + 1) bs ≡ Ok v) (sym w.1) s.2))
      | inr n ↦ none_some s.0 n
    ]

sound : (t : List ℕ) (v : InForm) → read_on stepped ended Begin 0 t ≡ Ok v → IsZoneName t v
sound [] v h = err_ok v 0 h
sound (b ∷ bs) v h =
    let s = first_step stepped ended Begin 0 b bs v h in
    elim (cond_some (is_first_of_zone_name b) Inside None s.0 s.1) [
      | inl w ↦ (first_of b w.0, sound_inside 1 bs v (subst (λ z. read_on stepped ended z 1 bs ≡ Ok v) (sym w.1) s.2))
      | inr n ↦ none_some s.0 n
    ]

-- ── every name in form is read ──

begin_step : (a b : ℕ) → FirstOfZoneName b → stepped Begin a b ≡ Some Inside
begin_step a b f = rw (is_first_of b f) refl

inside_step : (a b : ℕ) → InZoneName b → stepped Inside a b ≡ Some Inside
inside_step a b i = rw (is_inside b i) refl

complete_inside : (a : ℕ) (t : List ℕ) (v : InForm) → AllInZoneName t → read_on stepped ended Inside a t ≡ Ok v
complete_inside a [] v x = refl
complete_inside a (b ∷ bs) v (i, x) = go stepped ended Inside Inside a b bs (inside_step a b i) ∙ complete_inside (a + 1) bs v x

complete : (t : List ℕ) (v : InForm) → IsZoneName t v → read_on stepped ended Begin 0 t ≡ Ok v
complete [] v x = absurd x
complete (b ∷ bs) v (f, x) = go stepped ended Begin Inside 0 b bs (begin_step 0 b f) ∙ complete_inside 1 bs v x

pub scan_answers : (name : List ℕ) → Answers IsZoneName name (scan_zone_name name)
scan_answers name = answers stepped ended IsZoneName live Begin sound complete name

name_answers : (name : List ℕ) → AnswersWithin IsZoneName 32 name (read_zone_name name)
name_answers name = answers_within IsZoneName 32 name (scan_zone_name name) (scan_answers name)

pub lawful : (name : List ℕ) (r : Result InForm Misread) → r ≡ read_zone_name name
    → record { value : r ≡ read_zone_name name; grammar : AnswersWithin IsZoneName 32 name r }
lawful name r e = record { value = e; grammar = subst (AnswersWithin IsZoneName 32 name) (sym e) (name_answers name) }
