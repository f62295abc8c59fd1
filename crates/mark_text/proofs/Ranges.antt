-- Numbers and their ranges: the first of two lists one after another that doesn't fit.
use Rattle.std.proofs.Common.{◌≡◌, refl, ℕ, List, [], ◌∷◌, ◌++◌}
use Rattle.mark_text.specs.Ranges.{Ranged, AllFit, FirstWrong}

pub all_append : (rs qs : List Ranged) → AllFit rs → AllFit qs → AllFit (rs ++ qs)
all_append [] qs h k = k
all_append (r ∷ rs) qs h k = (h.0, all_append rs qs h.1 k)

pub all_parts : (rs qs : List Ranged) → AllFit (rs ++ qs) → AllFit rs × AllFit qs
all_parts [] qs h = (tt, h)
all_parts (r ∷ rs) qs h = let p = all_parts rs qs h.1 in ((h.0, p.0), p.1)

pub wrong_first : {p : ℕ} (rs qs : List Ranged) → FirstWrong rs p → FirstWrong (rs ++ qs) p
wrong_first [] qs w = elim w [ ]
wrong_first (r ∷ rs) qs (FirstWrong.here n) = FirstWrong.here n
wrong_first (r ∷ rs) qs (FirstWrong.later f w) = FirstWrong.later f (wrong_first rs qs w)

pub wrong_after : {p : ℕ} (rs qs : List Ranged) → AllFit rs → FirstWrong qs p → FirstWrong (rs ++ qs) p
wrong_after [] qs h w = w
wrong_after (r ∷ rs) qs h w = FirstWrong.later h.0 (wrong_after rs qs h.1 w)

pub not_all : {p : ℕ} {rs : List Ranged} → FirstWrong rs p → AllFit rs → ⊥
not_all (FirstWrong.here n) h = n h.0
not_all (FirstWrong.later f w) h = not_all w h.1

-- the first that doesn't fit is one
pub first_one : {p q : ℕ} {rs : List Ranged} → FirstWrong rs p → FirstWrong rs q → p ≡ q
first_one (FirstWrong.here n) (FirstWrong.here m) = refl
first_one (FirstWrong.here n) (FirstWrong.later f w) = absurd (n f)
first_one (FirstWrong.later f w) (FirstWrong.here n) = absurd (n f)
first_one (FirstWrong.later f w) (FirstWrong.later g v) = first_one w v
