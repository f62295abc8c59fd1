-- By what measuring is refused.
use Rattle.std.proofs.Common.{◌≡◌, ℕ, Bool, cond, ℤ, Some, Ok, Err, sym, refl, ap, ◌∙◌, subst, ◌⊎◌, inl, inr}
use Rattle.timebase.specs.declared.fault.Fault.{Fault}
use Rattle.timebase.specs.declared.fault.Fault.TheVariants.{InstantOut, Blank as NoOffset}
use Rattle.timebase.specs.Faults.{told}
use Rattle.zone.specs.declared.value.Value.{Value}
use Rattle.zone.specs.declared.value.Value.TheVariants.{Offset, Blank}
use Rattle.zone.specs.Zones.{Zone}
use Rattle.local_times.specs.Locals.{second_of, arriving, known_at, Known}
use Rattle.local_times.proofs.Results.{err_ok}
use Rattle.span_law.specs.declared.unit.Unit.{Unit as Measure}
use Rattle.span_law.specs.Measuring.{measure_answer}
use Rattle.mark_text.specs.declared.mark.Mark.{Mark}
use Rattle.mark_text.proofs.Trips.{in_range}
use Rattle.board_law.specs.Boards.{There, Sources, State, mark_slots, span_slots, put_span, mark_at, zone_of, calendar_of, on_shelf, filled, measured, measure, after}
use Rattle.board_law.proofs.Checks.{then_refused, on_shelf_refused, filled_refused}
use Rattle.board_law.proofs.Calls.{mark_filled}

module _ (src : Sources) where
  -- no such slot, an empty one, or a blank
  abbrev Refused : Fault → Type 0
  Refused e = ((told e).number ≡ 1) ⊎ (((told e).number ≡ 2) ⊎ ((told e).number ≡ 11))

  -- an instant in range is refused by a blank alone
  value_refused : (i : ℤ) (v : Value) (x : Fault) → known_at i v ≡ Err x → Refused x
  value_refused i (Offset o) x e = err_ok (sym e)
  value_refused i (Blank cause depth) x e = let s : NoOffset cause depth ≡ x = cc in subst Refused s (inr (inr refl))

  arriving_refused : (zone other : Zone) (i : ℤ) (x : Fault) → Known other i → arriving zone i ≡ Err x → Refused x
  arriving_refused zone other i x k e =
      let v = zone (second_of i) in
      value_refused i v x (sym (ap (λ (t : Bool). cond t (known_at i v) (Err InstantOut)) (in_range i k.low k.high)) ∙ e)

  answer_refused : (A B : Mark) (unit : Measure) (x : Fault) → There src A → There src B →
      measure_answer (zone_of src A) (calendar_of src A) unit A.instant B.instant ≡ Err x → Refused x
  answer_refused A B unit x ta tb e =
      let zone = zone_of src A in
      let v = zone (second_of B.instant) in
      then_refused Refused (arriving zone A.instant) _ x (λ y f. arriving_refused zone zone A.instant y ta.known f) (λ _ _.
      then_refused Refused (arriving zone B.instant) _ x (λ y f. arriving_refused zone (zone_of src B) B.instant y tb.known f) (λ _ _.
      then_refused Refused (known_at B.instant v) _ x (λ y f. value_refused B.instant v y f) (λ _ _ f. err_ok (sym f)))) e

  measured_refused : (st : State) (a b n : ℕ) (unit : Measure) (x : Fault) → measured src st a b unit n ≡ Err x → Refused x
  measured_refused st a b n unit x =
      then_refused Refused (on_shelf (mark_slots st) a 0) _ x (λ y. on_shelf_refused Refused (mark_slots st) a 0 y (inl refl)) (λ _ _.
      then_refused Refused (on_shelf (mark_slots st) b 1) _ x (λ y. on_shelf_refused Refused (mark_slots st) b 1 y (inl refl)) (λ _ _.
      then_refused Refused (on_shelf (span_slots st) n 2) _ x (λ y. on_shelf_refused Refused (span_slots st) n 2 y (inl refl)) (λ _ _.
      then_refused Refused (filled (mark_at src st a) 0) _ x (λ y. filled_refused Refused (mark_at src st a) 0 y (inr (inl refl))) (λ A ea.
      then_refused Refused (filled (mark_at src st b) 1) _ x (λ y. filled_refused Refused (mark_at src st b) 1 y (inr (inl refl))) (λ B eb.
      answer_refused A B unit x (mark_filled src st a 0 A ea) (mark_filled src st b 1 B eb))))))

  pub measure_refused : (st : State) (a b n : ℕ) (unit : Measure) (x : Fault) → after src st (measure a b unit n) ≡ Err x → Refused x
  unfolding after
  measure_refused st a b n unit x e =
      then_refused Refused (measured src st a b unit n) (λ s. Ok (put_span st n (Some s))) x (measured_refused st a b n unit) (λ s _ f. err_ok (sym f)) e
