-- What an answer of the check says of its file.
use Rattle.std.proofs.Common.{◌≡◌, ℕ, ◌<◌, ◌≤◌, min, Bool, true, false, cond, ltb, List, length, Some, None, Ok, Err, Option, Result, sym, refl, ap, inl, inr, arith}
use Rattle.std.proofs.lemmas.Bool.{ltb-true, ltb-false, lt-ltb, le-ltb}
use Rattle.timebase.specs.declared.fault.Fault.{Fault}
use Rattle.tzif.specs.declared.layout.Layout.{Layout}
use Rattle.tzif.specs.Fields.{first_wrong}
use Rattle.tzif.specs.File.{header_place, fields_of, layout_at, refused, answer, checked}
use Rattle.tzif.specs.Good.{GoodFile, Judged}
use Rattle.tzif.specs.Places.{AllSound, Placed}
use Rattle.tzif.proofs.Judging.{sound_all, none_wrong, first_found}
use Rattle.tzif.proofs.Contents.{all_good}
use Rattle.tzif.proofs.Complete.{all_sound}

module _ (f : List ℕ) where
  abbrev Right : Result Layout Fault → Type 0
  Right r = Judged f r × Placed f r

  -- no field is wrong: the file is good if it is not too long
  by_length : (long : Bool) → ltb 65536 (length f) ≡ long → AllSound f → Right (cond long (Err (refused 65536)) (Ok (layout_at f (header_place f))))
  by_length true e a =
      let l = ltb-true 65536 (length f) e in
      ((λ _ g. let s = g.short in omega arith), (65536, refl, inr (a, l, refl)))
  by_length false e a =
      let l = ltb-false 65536 (length f) e in
      (all_good f _ l a refl, (a, l))

  by_place : (o : Option ℕ) → first_wrong f (fields_of f) ≡ o → Right (answer f o)
  by_place (Some p) e = (
    (λ l g. let n = none_wrong f (fields_of f) (all_sound f l g) in let z : ◌≡◌ {A = ℕ} 0 1 = cc in omega arith),
    (min p 65536, refl, inl (p, first_found f (fields_of f) p e, refl)),
  )
  by_place None e = by_length (ltb 65536 (length f)) refl (sound_all f (fields_of f) e)

  all_right : (r : Result Layout Fault) → r ≡ checked f → Right r
  unfolding checked
  all_right r e = rw e (by_place (first_wrong f (fields_of f)) refl)

  -- how it comes to its answer
  pub wrong_answer : {p : ℕ} → Some p ≡ first_wrong f (fields_of f) → Err (refused p) ≡ checked f
  unfolding checked
  wrong_answer e = ap (answer f) e

  by_size : (long : Bool) → None ≡ first_wrong f (fields_of f) → ltb 65536 (length f) ≡ long → cond long (Err (refused 65536)) (Ok (layout_at f (header_place f))) ≡ checked f
  unfolding checked
  by_size long n e = rw (← n, e)

  pub long_answer : None ≡ first_wrong f (fields_of f) → 65536 < length f → Err (refused 65536) ≡ checked f
  long_answer n h = by_size true n (lt-ltb _ _ h)

  pub good_answer : None ≡ first_wrong f (fields_of f) → length f ≤ 65536 → Ok (layout_at f (header_place f)) ≡ checked f
  good_answer n h = by_size false n (le-ltb _ _ h)

  pub judged : (r : Result Layout Fault) → r ≡ checked f → Judged f r
  judged r e = (all_right r e).0

  pub placed : (r : Result Layout Fault) → r ≡ checked f → Placed f r
  placed r e = (all_right r e).1

  -- an accepted file is good
  pub checked_ok : (l : Layout) → checked f ≡ Ok l → GoodFile f l
  checked_ok l e = judged (Ok l) (sym e)
