-- What a source answers to the questions for a name and a number, and what `==` says of two answers.
use Rattle.std.proofs.Common.{◌≡◌, ℕ, ◌<◌, ◌≤◌, Bool, cond, eqb, List, Some, None, Decides, MatchOption, Option, sym, refl, ap, ◌∙◌, arith, rules, Bor}
use Rattle.std.proofs.lemmas.Bool.{lt-ltb, le-ltb}
use Rattle.std.specs.Option.{option_eq}
use Rattle.std.specs.Cmp.Lexicographic.{pointwise}
use Rattle.calendar.specs.Calendars.{Calendars, Bears, NameIs, FoundIs}
use Rattle.calendar.specs.Questions.{name_at}

-- the first number in a range that bears a name is the lowest there is
pub found_is : (s : Calendars) (n : List ℕ) (count : ℕ) (r : Option ℕ) → count ≡ s.count
    → MatchOption r ((k : ℕ) → 0 ≤ k → k < count → Bears s k n → ⊥) (λ i. (0 ≤ i) × (i < count) × Bears s i n × ((k : ℕ) → 0 ≤ k → k < i → Bears s k n → ⊥))
    → FoundIs s n r
found_is s n count None e h = λ k l same. h k (omega arith) (omega (arith, e)) (l, same)
found_is s n count (Some i) e h = (h.2.0, h.2.1, λ j l same. h.3 j (omega arith) l (omega (arith, h.2.0), same))

-- the bytes of a name, if there is one
abbrev seen : Option (Bor (List ℕ)) → Option (List ℕ)
seen None = None
seen (Some x) = Some x.now

named : (s : Calendars) (k : ℕ) (r : Option (Bor (List ℕ))) → NameIs s k r → seen r ≡ name_at s k
named s k None out = sym (ap (λ t. cond t (Some (s.name k)) None) (le-ltb k s.count out))
named s k (Some x) n = ap Some n.1 ∙ sym (ap (λ t. cond t (Some (s.name k)) None) (lt-ltb k s.count n.0))

by_bytes : (r q : Option (Bor (List ℕ))) → option_eq (λ x w. pointwise eqb x.now w.now) r q ≡ option_eq (pointwise eqb) (seen r) (seen q)
by_bytes None None = refl
by_bytes None (Some w) = refl
by_bytes (Some x) None = refl
by_bytes (Some x) (Some w) = refl

pub name_decided : (y z : Calendars) (k : ℕ) (r q : Option (Bor (List ℕ))) (t : Bool) → NameIs y k r → NameIs z k q
    → t ≡ option_eq (λ x w. pointwise eqb x.now w.now) r q → Decides t (name_at y k ≡ name_at z k)
name_decided y z k r q t m n e = let a = named y k r m in let b = named z k q n in let f = e ∙ by_bytes r q in search rules

pub month_decided : (a b r q : Option ℕ) (t : Bool) → r ≡ a → q ≡ b → t ≡ option_eq eqb r q → Decides t (a ≡ b)
month_decided a b r q t m n e = search rules
