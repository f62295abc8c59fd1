-- Of two tables side by side, a question goes to the table that has the number.
use Rattle.std.proofs.Common.{◌≡◌, ℕ, ◌<◌, ◌≤◌, Bool, true, false, cond, ltb, ◌&&◌, List, Some, None, Option, sym, refl, ap, ◌∙◌, subst, arith, Bor}
use Rattle.std.proofs.lemmas.Bool.{lt-ltb, le-ltb}
use Rattle.years.specs.declared.date.Date.{Date}
use Rattle.side_by_side.specs.declared.Place.{Place}
use Rattle.side_by_side.specs.declared.Place.TheVariants.{First, Second}
use Rattle.side_by_side.specs.Places.{place_of}
use Rattle.side_by_side.proofs.Placed.{low_count, second_there, first_is, second_is, nowhere_is}
use Rattle.calendar.specs.Calendars.{Calendar, Calendars, asked, day_of, NameIs}
use Rattle.calendar.specs.Joining.{joined}
use Rattle.calendar.specs.Joins.{counted, first_name, second_name, first_calendar, second_calendar}

-- number j of one table means what number i of the other means
pub record SameAt (y z : Calendars) (j i : ℕ) : Type 0 where
  pub there : j < y.count
  pub here : i < z.count
  pub name : z.name i ≡ y.name j
  pub calendar : z.calendar i ≡ y.calendar j

-- ── which table has the number, seen as the code finds it ──

module _ (a b : Calendars) (k : ℕ) where
  pub found_first : (j : ℕ) (p : Place) (r : Option Place) → r ≡ place_of a.count b.count k → r ≡ Some p → p ≡ First j → SameAt a (joined a b) j k
  found_first j p r e o f =
      let at = first_is a.count b.count k j (cc) in
      let l = low_count a.count b.count in
      subst (λ (n : ℕ). SameAt a (joined a b) n k) (sym at.0) (record { there = at.1; here = omega (arith, counted a b, at.1); name = first_name a b k at.1; calendar = first_calendar a b k at.1 })

  pub found_second : (j : ℕ) (p : Place) (r : Option Place) → r ≡ place_of a.count b.count k → r ≡ Some p → p ≡ Second j → SameAt b (joined a b) j k
  found_second j p r e o f =
      let at = second_is a.count b.count k j (cc) in
      subst (λ (n : ℕ). SameAt b (joined a b) n k) (sym at.0)
      (record { there = second_there a.count b.count k at.1 at.2; here = omega (arith, counted a b, at.2); name = second_name a b k at.1; calendar = second_calendar a b k at.1 })

  pub found_nowhere : (r : Option Place) → r ≡ place_of a.count b.count k → r ≡ None → (joined a b).count ≤ k
  found_nowhere r e o = let out = nowhere_is a.count b.count k (cc) in omega (arith, counted a b, out)

-- ── answers ──

-- what a table answers of a number, or nothing where it has none
abbrev pub at : {X : Type 0} → Calendars → ℕ → (Calendar → Option X) → Option X
at z i answer = cond (ltb i z.count) (answer (z.calendar i)) None

asked_at : {X : Type 0} (z : Calendars) (i : ℕ) (there : Calendar → Bool) (answer : Calendar → X) → asked z i there answer ≡ at z i (λ c. cond (there c) (Some (answer c)) None)
asked_at z i there answer = by (ltb i z.count)
  where
    by : (t : Bool) → cond (t && there (z.calendar i)) (Some (answer (z.calendar i))) None ≡ cond t (cond (there (z.calendar i)) (Some (answer (z.calendar i))) None) None
    by true = refl
    by false = refl

module _ (y z : Calendars) (j i : ℕ) (same : SameAt y z j i) where
  pub at_same : {X : Type 0} (answer : Calendar → Option X) → at y j answer ≡ at z i answer
  at_same answer =
      ap (λ t. cond t (answer (y.calendar j)) None) (lt-ltb j y.count same.there ∙ sym (lt-ltb i z.count same.here))
      ∙ ap (λ c. cond (ltb i z.count) (answer c) None) (sym same.calendar)

  pub asked_same : {X : Type 0} (there : Calendar → Bool) (answer : Calendar → X) → asked y j there answer ≡ asked z i there answer
  asked_same there answer = asked_at y j there answer ∙ (at_same (λ c. cond (there c) (Some (answer c)) None) ∙ sym (asked_at z i there answer))

  pub day_same : (d : Date) → day_of y j d ≡ day_of z i d
  day_same d = at_same (λ (c : Calendar). c.number d)

  pub name_same : (r : Option (Bor (List ℕ))) → NameIs y j r → NameIs z i r
  name_same None n = let t = same.there in absurd (omega arith)
  name_same (Some x) n = (same.here, n.1 ∙ sym same.name)

module _ (z : Calendars) (i : ℕ) (out : z.count ≤ i) where
  pub at_nowhere : {X : Type 0} (answer : Calendar → Option X) → None ≡ at z i answer
  at_nowhere answer = sym (ap (λ t. cond t (answer (z.calendar i)) None) (le-ltb i z.count out))

  pub asked_nowhere : {X : Type 0} (there : Calendar → Bool) (answer : Calendar → X) → None ≡ asked z i there answer
  asked_nowhere there answer = at_nowhere (λ c. cond (there c) (Some (answer c)) None) ∙ sym (asked_at z i there answer)

  pub day_nowhere : (d : Date) → None ≡ day_of z i d
  day_nowhere d = at_nowhere (λ (c : Calendar). c.number d)
