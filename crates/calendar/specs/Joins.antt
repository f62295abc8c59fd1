-- Two lawful tables side by side are lawful.
use Rattle.std.specs.Prelude.{◌≡◌, ℕ, ◌-◌, ◌<◌, ◌≤◌, is_ok, refl}
use Rattle.std.proofs.Common.{sym, ap, ◌∙◌, subst, inl, inr, arith}
use Rattle.std.proofs.lemmas.Bool.{cases_lt}
use Rattle.names.specs.Scanning.{read_calendar_name}
use Rattle.side_by_side.specs.Places.{joined_count}
use Rattle.side_by_side.proofs.Placed.{few, second_there, in_first, in_second}
use Rattle.calendar.specs.Calendars.{CalendarLaws, Calendars, CalendarsLaws}
use Rattle.calendar.specs.Joining.{joined}

module _ (a b : Calendars) where
  pub counted : (joined a b).count ≡ joined_count a.count b.count
  unfolding joined
  counted = refl

  pub first_name : (k : ℕ) → k < a.count → (joined a b).name k ≡ a.name k
  unfolding joined
  first_name k h = in_first a.count a.name b.name k h

  pub second_name : (k : ℕ) → a.count ≤ k → (joined a b).name k ≡ b.name (k - a.count)
  unfolding joined
  second_name k h = in_second a.count a.name b.name k h

  pub first_calendar : (k : ℕ) → k < a.count → (joined a b).calendar k ≡ a.calendar k
  unfolding joined
  first_calendar k h = in_first a.count a.calendar b.calendar k h

  pub second_calendar : (k : ℕ) → a.count ≤ k → (joined a b).calendar k ≡ b.calendar (k - a.count)
  unfolding joined
  second_calendar k h = in_second a.count a.calendar b.calendar k h

  pub joined_laws : CalendarsLaws a → CalendarsLaws b → CalendarsLaws (joined a b)
  joined_laws la lb = record {
    few = rw counted (few a.count b.count la.few);
    named = λ k h. elim (cases_lt k a.count) [
      | inl l ↦ ap (λ n. is_ok (read_calendar_name n)) (first_name k l) ∙ la.named k l
      | inr g ↦ ap (λ n. is_ok (read_calendar_name n)) (second_name k g) ∙ lb.named (k - a.count) (second_there a.count b.count k g (omega (arith, counted)))
    ];
    each = λ k h. elim (cases_lt k a.count) [
      | inl l ↦ subst CalendarLaws (sym (first_calendar k l)) (la.each k l)
      | inr g ↦ subst CalendarLaws (sym (second_calendar k g)) (lb.each (k - a.count) (second_there a.count b.count k g (omega (arith, counted))))
    ];
  }
