-- The days that are reached from an instant.
use Rattle.std.proofs.Common.{◌≡◌, ℕ, zero, suc, ◌≤◌, Bool, true, false, cond, ℤ, pos, negsuc, ◌+ℤ◌, ◌-ℤ◌, nat_abs, ◌≤ℤ◌, Ok, Err, Result, sym, refl, ap, ◌∙◌, arith}
use Rattle.std.proofs.lemmas.Int.{ints}
use Rattle.std.proofs.lemmas.Bool.{cond-true}
use Rattle.timebase.specs.declared.fault.Fault.{Fault}
use Rattle.timebase.specs.declared.fault.Fault.TheVariants.{NoSuchDate}
use Rattle.zone.specs.Zones.{Zone}
use Rattle.calendar.specs.Calendars.{last_day, within}
use Rattle.span_law.specs.declared.way.Way.{Way}
use Rattle.span_law.specs.declared.way.Way.TheVariants.{Onward as onward, Back as back}
use Rattle.local_times.specs.Locals.{local_day}
use Rattle.span_law.specs.Carrying.{met_on, natural}
use Rattle.span_law.specs.Measuring.{not_past, result_not_past, far_day, reach, days_apart, start_day, end_day}
use Rattle.span_law.specs.Stepping.{signed}
use Rattle.span_law.specs.Standing.{Leads}
use Rattle.timebase.proofs.Searches.{most_passes, most_largest, most_more}
use Rattle.local_times.proofs.Results.{err_ok, ok_same}
use Rattle.span_law.proofs.Steps.{within_low, within_high, within_is, none_more}
use Rattle.span_law.proofs.Splits.{UpTo}

pub natural_is : (z : ℤ) → pos 0 ≤ℤ z → pos (natural z) ≡ z
natural_is (pos n) h = refl
natural_is (negsuc n) h = absurd (omega (arith, ints))

pub not_past_is : (way : Way) (r b : ℤ) → UpTo way r b → not_past way r b ≡ true
not_past_is onward r b h = sym (omega (arith, ints))
not_past_is back r b h = sym (omega (arith, ints))

pub not_past_tells : (way : Way) (r b : ℤ) → not_past way r b ≡ true → UpTo way r b
not_past_tells onward r b h = omega (arith, ints)
not_past_tells back r b h = omega (arith, ints)

up_to_on : (way : Way) (z w v : ℤ) → UpTo way z w → UpTo way w v → UpTo way z v
up_to_on onward z w v h k = omega (arith, ints)
up_to_on back z w v h k = omega (arith, ints)

past_more : (way : Way) (b e : ℤ) (o : Result ℤ Fault) → UpTo way b e → result_not_past way o b ≡ true → result_not_past way o e ≡ true
past_more way b e (Ok r) h f = not_past_is way r e (up_to_on way r b e (not_past_tells way r b f) h)
past_more way b e (Err x) h f = f

-- the instant reached on the farthest day
pub record Reached (zone : Zone) (a : ℤ) (way : Way) (b : ℤ) : Type 0 where
  pub at : ℤ
  pub is : reach zone a way (days_apart zone a way b) ≡ Ok at
  pub near : UpTo way at b

module _ (zone : Zone) (a : ℤ) (way : Way) where
  reached_by : (b : ℤ) (o : Result ℤ Fault) → reach zone a way (days_apart zone a way b) ≡ o → result_not_past way o b ≡ true → Reached zone a way b
  reached_by b (Ok r) e h = record { at = r; is = e; near = not_past_tells way r b h }
  reached_by b (Err x) e h = let z : ◌≡◌ {A = ℕ} 0 1 = cc in absurd (omega arith)

  pub start_near : (b : ℤ) → UpTo way a b → result_not_past way (reach zone a way 0) b ≡ true
  unfolding reach
  start_near b h = not_past_is way a b h

  pub reached : (b : ℤ) → UpTo way a b → Reached zone a way b
  unfolding days_apart
  reached b h = reached_by b (reach zone a way (days_apart zone a way b)) refl (most_passes (λ n. result_not_past way (reach zone a way n) b) last_day (start_near b h))

  pub days_largest : (b : ℤ) (n : ℕ) (r : ℤ) → n ≤ last_day → reach zone a way n ≡ Ok r → UpTo way r b → n ≤ days_apart zone a way b
  unfolding days_apart
  days_largest b n r h e k = most_largest (λ n. result_not_past way (reach zone a way n) b) last_day n h (ap (λ (o : Result ℤ Fault). result_not_past way o b) e ∙ not_past_is way r b k)

  pub days_more : (b e : ℤ) → UpTo way a b → UpTo way b e → days_apart zone a way b ≤ days_apart zone a way e
  unfolding days_apart
  days_more b e h k =
      most_more (λ n. result_not_past way (reach zone a way n) b) (λ n. result_not_past way (reach zone a way n) e) last_day (start_near b h)
      (λ n f. past_more way b e (reach zone a way n) k f)

  pub reach_none : (r : ℤ) → reach zone a way 0 ≡ Ok r → r ≡ a
  unfolding reach
  reach_none r e = sym (ok_same e)

  pub meets : (n : ℕ) (r : ℤ) → pos 1 ≤ℤ far_day zone a way (suc n) → far_day zone a way (suc n) ≤ℤ pos last_day → met_on zone a (far_day zone a way (suc n)) ≡ Ok r → reach zone a way (suc n) ≡ Ok r
  unfolding reach
  meets n r l h e = cond-true (within (pos 1) (pos last_day) (far_day zone a way (suc n))) (met_on zone a (far_day zone a way (suc n))) (Err NoSuchDate) (within_is (pos 1) (pos last_day) (far_day zone a way (suc n)) l h) ∙ e

  met : (n : ℕ) (r : ℤ) → reach zone a way (suc n) ≡ Ok r → (pos 1 ≤ℤ far_day zone a way (suc n)) × (far_day zone a way (suc n) ≤ℤ pos last_day) × (met_on zone a (far_day zone a way (suc n)) ≡ Ok r)
  unfolding reach
  met n r e = by (within (pos 1) (pos last_day) (far_day zone a way (suc n))) refl e
    where
      by : (t : Bool) → within (pos 1) (pos last_day) (far_day zone a way (suc n)) ≡ t → cond t (met_on zone a (far_day zone a way (suc n))) (Err NoSuchDate) ≡ Ok r →
          (pos 1 ≤ℤ far_day zone a way (suc n)) × (far_day zone a way (suc n) ≤ℤ pos last_day) × (met_on zone a (far_day zone a way (suc n)) ≡ Ok r)
      by true f g = (within_low (pos 1) (pos last_day) (far_day zone a way (suc n)) f, within_high (pos 1) (pos last_day) (far_day zone a way (suc n)) f, g)
      by false f g = err_ok g

  pub met_far : (n : ℕ) (r : ℤ) → 1 ≤ n → reach zone a way n ≡ Ok r → met_on zone a (far_day zone a way n) ≡ Ok r
  met_far zero r h e = absurd (omega arith)
  met_far (suc n) r h e = (met n r e).2

  pub far_inside : (n : ℕ) (r : ℤ) → (pos 1 ≤ℤ local_day zone a) × (local_day zone a ≤ℤ pos last_day) → reach zone a way n ≡ Ok r → (pos 1 ≤ℤ far_day zone a way n) × (far_day zone a way n ≤ℤ pos last_day)
  far_inside zero r h e = let s = none_more way (local_day zone a) in omega (arith, ints)
  far_inside (suc n) r h e = let m = met n r e in (m.0, m.1)

-- the start and the end as day numbers
pub record Ends (zone : Zone) (a : ℤ) (way : Way) (b : ℤ) : Type 0 where
  pub start_one : 1 ≤ start_day zone a way
  pub start_last : start_day zone a way ≤ last_day
  pub end_one : 1 ≤ end_day zone a way b
  pub end_last : end_day zone a way b ≤ last_day
  pub start_is : pos (start_day zone a way) ≡ local_day zone a
  pub end_is : pos (end_day zone a way b) ≡ far_day zone a way (days_apart zone a way b)

leads_by : (way : Way) (d x n : ℕ) → pos x ≡ pos d +ℤ signed way n → Leads way d x × (nat_abs (pos x -ℤ pos d) ≡ n)
leads_by onward d x n e = omega (arith, ints)
leads_by back d x n e = omega (arith, ints)

leads_more : (way : Way) (d x y n m : ℕ) → pos x ≡ pos d +ℤ signed way n → pos y ≡ pos d +ℤ signed way m → n ≤ m → Leads way x y
leads_more onward d x y n m e f h = omega (arith, ints)
leads_more back d x y n m e f h = omega (arith, ints)

module _ (zone : Zone) (a : ℤ) (way : Way) (inside : (pos 1 ≤ℤ local_day zone a) × (local_day zone a ≤ℤ pos last_day)) where
  pub ends : (b : ℤ) → Reached zone a way b → Ends zone a way b
  ends b r =
      let f = far_inside zone a way (days_apart zone a way b) r.at inside r.is in
      let s = natural_is (local_day zone a) (omega (arith, ints)) in
      let e = natural_is (far_day zone a way (days_apart zone a way b)) (omega (arith, ints)) in
      record {
        start_one = omega (arith, ints);
        start_last = omega (arith, ints);
        end_one = omega (arith, ints);
        end_last = omega (arith, ints);
        start_is = s;
        end_is = e;
      }

  end_from : (b : ℤ) → Ends zone a way b → pos (end_day zone a way b) ≡ pos (start_day zone a way) +ℤ signed way (days_apart zone a way b)
  end_from b e = e.end_is ∙ ap (λ (z : ℤ). z +ℤ signed way (days_apart zone a way b)) (sym e.start_is)

  pub end_leads : (b : ℤ) → Ends zone a way b → Leads way (start_day zone a way) (end_day zone a way b) × (nat_abs (pos (end_day zone a way b) -ℤ pos (start_day zone a way)) ≡ days_apart zone a way b)
  end_leads b e = leads_by way (start_day zone a way) (end_day zone a way b) (days_apart zone a way b) (end_from b e)

  pub ends_lead : (b e : ℤ) → Ends zone a way b → Ends zone a way e → days_apart zone a way b ≤ days_apart zone a way e → Leads way (end_day zone a way b) (end_day zone a way e)
  ends_lead b e m n h = leads_more way (start_day zone a way) (end_day zone a way b) (end_day zone a way e) (days_apart zone a way b) (days_apart zone a way e) (end_from b m) (end_from e n) h
