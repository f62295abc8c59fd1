-- Carrying by a span, and what it tells of the span.
use Rattle.std.proofs.Common.{◌≡◌, ℕ, zero, suc, ◌<◌, ◌≤◌, Bool, true, false, cond, ◌&&◌, ◌⊎◌, ℤ, pos, ◌+ℤ◌, Some, None, Ok, Err, Option, Result, sym, refl, ap, ◌∙◌, subst, inl, inr, ⊎_elim, arith}
use Rattle.std.proofs.lemmas.Int.{ints}
use Rattle.std.proofs.lemmas.Bool.{cond-true, cond-false, cases_lt, and_from}
use Rattle.std.proofs.lemmas.Bool.Decides.{nat_tests}
use Rattle.zone.specs.declared.value.Value.{Value}
use Rattle.zone.specs.declared.value.Value.TheVariants.{Offset, Blank}
use Rattle.timebase.specs.declared.fault.Fault.{Fault}
use Rattle.timebase.specs.declared.fault.Fault.TheVariants.{NoSuchDate, InstantOut}
use Rattle.timebase.specs.declared.span.Span.{Span}
use Rattle.zone.specs.Zones.{Zone, is_blank}
use Rattle.local_times.specs.Meeting.{is}
use Rattle.calendar.specs.Calendars.{Calendar, within}
use Rattle.span_law.specs.declared.way.Way.{Way}
use Rattle.span_law.specs.declared.way.Way.TheVariants.{Onward as onward, Back as back}
use Rattle.local_times.specs.Chains.{◌>>=◌}
use Rattle.local_times.specs.Locals.{second_of, local_day, known_at, arriving, Known}
use Rattle.span_law.specs.Carrying.{met_on, natural, no_date_parts, carried}
use Rattle.span_law.specs.Measuring.{Parts, span_of}
use Rattle.span_law.specs.Stepping.{signed, day_on}
use Rattle.std.specs.Prelude.{ok_or}
use Rattle.timebase.specs.Instants.{first_instant, last_instant}
use Rattle.span_law.proofs.Steps.{within_is, false_true}
use Rattle.local_times.proofs.Results.{err_ok, ok_same}
use Rattle.span_law.proofs.Parting.{total, signed_none}

pub known_at_is : (zone : Zone) (i : ℤ) (v : Value) → is_blank v ≡ false → known_at i v ≡ Ok i
known_at_is zone i (Offset o) e = refl
known_at_is zone i (Blank cause depth) e = false_true (sym e)

known_at_same : (zone : Zone) (i b : ℤ) (v : Value) → known_at i v ≡ Ok b → i ≡ b
known_at_same zone i b (Offset o) e = ok_same e
known_at_same zone i b (Blank cause depth) e = err_ok e

pub arriving_known : (zone : Zone) (b : ℤ) → Known zone b → arriving zone b ≡ Ok b
arriving_known zone b k =
    cond-true (within first_instant last_instant b) (known_at b (zone (second_of b))) (Err InstantOut) (within_is first_instant last_instant b k.low k.high)
    ∙ known_at_is zone b (zone (second_of b)) k.sure

arriving_same : (zone : Zone) (i b : ℤ) → arriving zone i ≡ Ok b → i ≡ b
arriving_same zone i b e = by (within first_instant last_instant i) e
  where
    by : (t : Bool) → cond t (known_at i (zone (second_of i))) (Err InstantOut) ≡ Ok b → i ≡ b
    by true f = known_at_same zone i b (zone (second_of i)) f
    by false f = err_ok f

is_none : (way : Way) (n : ℕ) → n ≡ 0 → is (signed way n) (pos 0) ≡ true
is_none way n e = subst (λ (m : ℕ). is (signed way m) (pos 0) ≡ true) (sym e) (subst (λ (z : ℤ). is z (pos 0) ≡ true) (sym (signed_none way)) refl)

is_some : (way : Way) (n : ℕ) → 1 ≤ n → is (signed way n) (pos 0) ≡ false
is_some way zero h = absurd (omega arith)
is_some onward (suc n) h = grind (arith, ints, nat_tests)
is_some back (suc n) h = refl

pub parts_none : (way : Way) (p : Parts) (time : ℤ) → total p ≡ 0 → no_date_parts (span_of way p time) ≡ true
parts_none way p time e =
    and_from (is (signed way p.years) (pos 0)) _ (is_none way p.years (omega arith))
    (and_from (is (signed way p.months) (pos 0)) _ (is_none way p.months (omega arith))
    (and_from (is (signed way p.weeks) (pos 0)) (is (signed way p.days) (pos 0)) (is_none way p.weeks (omega arith)) (is_none way p.days (omega arith))))

one_fails : (y m w d : Bool) → (y ≡ false) ⊎ ((m ≡ false) ⊎ ((w ≡ false) ⊎ (d ≡ false))) → (y && (m && (w && d))) ≡ false
one_fails false m w d h = refl
one_fails true false w d h = refl
one_fails true true false d h = refl
one_fails true true true false h = refl
one_fails true true true true h = grind arith

pub parts_some : (way : Way) (p : Parts) (time : ℤ) → 1 ≤ total p → no_date_parts (span_of way p time) ≡ false
parts_some way p time h =
    one_fails (is (signed way p.years) (pos 0)) (is (signed way p.months) (pos 0)) (is (signed way p.weeks) (pos 0)) (is (signed way p.days) (pos 0))
    (⊎_elim (λ (k : 0 < p.years). inl (is_some way p.years k))
    (λ (ky : p.years ≤ 0).
    inr (⊎_elim (λ (k : 0 < p.months). inl (is_some way p.months k))
    (λ (km : p.months ≤ 0).
    inr (⊎_elim (λ (k : 0 < p.weeks). inl (is_some way p.weeks k))
    (λ (kw : p.weeks ≤ 0). inr (is_some way p.days (omega arith)))
    (cases_lt 0 p.weeks)))
    (cases_lt 0 p.months)))
    (cases_lt 0 p.years))

module _ (zone : Zone) (c : Calendar) (a : ℤ) (s : Span) where
  pub carried_none : no_date_parts s ≡ true → carried zone c a s ≡ arriving zone (a +ℤ s.time)
  carried_none e =
      cond-true (no_date_parts s) (arriving zone (a +ℤ s.time)) (ok_or (day_on c (natural (local_day zone a)) s) NoSuchDate >>= λ day. met_on zone a day >>= λ met. arriving zone (met +ℤ s.time)) e

  pub carried_some : (day met : ℤ) → no_date_parts s ≡ false → day_on c (natural (local_day zone a)) s ≡ Some day → met_on zone a day ≡ Ok met → carried zone c a s ≡ arriving zone (met +ℤ s.time)
  carried_some day met e f g =
      cond-false (no_date_parts s) (arriving zone (a +ℤ s.time)) (ok_or (day_on c (natural (local_day zone a)) s) NoSuchDate >>= λ day. met_on zone a day >>= λ met. arriving zone (met +ℤ s.time)) e
      ∙ ap (λ (o : Option ℤ). ok_or o NoSuchDate >>= λ day. met_on zone a day >>= λ met. arriving zone (met +ℤ s.time)) f
      ∙ ap (λ (o : Result ℤ Fault). o >>= λ met. arriving zone (met +ℤ s.time)) g

  -- how a span with date parts arrived
  pub record Came (b : ℤ) : Type 0 where
    pub day : ℤ
    pub met : ℤ
    pub day_is : day_on c (natural (local_day zone a)) s ≡ Some day
    pub met_is : met_on zone a day ≡ Ok met
    pub sum : met +ℤ s.time ≡ b

  met_came : (b day : ℤ) (o : Result ℤ Fault) → day_on c (natural (local_day zone a)) s ≡ Some day → met_on zone a day ≡ o → (o >>= λ met. arriving zone (met +ℤ s.time)) ≡ Ok b → Came b
  met_came b day (Ok met) f g h = record { day = day; met = met; day_is = f; met_is = g; sum = arriving_same zone (met +ℤ s.time) b h }
  met_came b day (Err e) f g h = err_ok h

  day_came : (b : ℤ) (o : Option ℤ) → day_on c (natural (local_day zone a)) s ≡ o → (ok_or o NoSuchDate >>= λ day. met_on zone a day >>= λ met. arriving zone (met +ℤ s.time)) ≡ Ok b → Came b
  day_came b (Some day) f h = met_came b day (met_on zone a day) f refl h
  day_came b None f h = err_ok h

  pub came : (b : ℤ) → no_date_parts s ≡ false → carried zone c a s ≡ Ok b → Came b
  came b e f =
      day_came b (day_on c (natural (local_day zone a)) s) refl
      (sym (cond-false (no_date_parts s) (arriving zone (a +ℤ s.time)) (ok_or (day_on c (natural (local_day zone a)) s) NoSuchDate >>= λ day. met_on zone a day >>= λ met. arriving zone (met +ℤ s.time)) e) ∙ f)

  pub stayed : (b : ℤ) → no_date_parts s ≡ true → carried zone c a s ≡ Ok b → a +ℤ s.time ≡ b
  stayed b e f = arriving_same zone (a +ℤ s.time) b (sym (carried_none e) ∙ f)
