-- The second block of a good file is good for a look-up.
use Rattle.std.proofs.Common.{◌≡◌, ℕ, zero, suc, ◌+◌, ◌-◌, ◌*◌, ◌<◌, ◌≤◌, true, List, [], ◌∷◌, ◌++◌, length, drop, ℤ, ◌<ℤ◌, Ok, sym, refl, ap, subst, inl, inr, arith, length-drop, length-take}
use Rattle.std.proofs.lemmas.Int.{ints}
use Rattle.std.proofs.lemmas.Bool.{cases_lt}
use Rattle.std.specs.List.{between}
use Rattle.zone.specs.Offsets.{is_offset}
use Rattle.tzif.specs.declared.layout.Layout.{Layout}
use Rattle.tzif.specs.Fields.{byte_at, offset4, second8}
use Rattle.tzif.specs.File.{times, types, header_place, footer_place, checked}
use Rattle.tzif.proofs.Parts.{byte_part, offset_part, second_part}
use Rattle.tzif.proofs.Reading.{checked_ok}
use Rattle.tzif.specs.Good.{Block, GoodAt}
use Rattle.file_zone.specs.Blocks.{second_at, index_of, offset_of, GoodBlock}
use Rattle.file_zone.specs.Files.{part_of}

-- neighbours rise, so all do
rising_all : (at : ℕ → ℤ) (n : ℕ) → ((k : ℕ) → suc k < n → at k <ℤ at (suc k)) → (k j : ℕ) → j < k → k < n → at j <ℤ at k
rising_all at n r zero j h l = absurd (omega arith)
rising_all at n r (suc k) j h l =
    elim (cases_lt j k) [
      | inl lt ↦ let p = rising_all at n r k j lt (omega arith) in let q = r k l in omega (arith, ints)
      | inr ge ↦ let e : j ≡ k = omega arith in rw e (r k l)
    ]

module _ (f : List ℕ) (b n m : ℕ) (room : (b + 9 * n + 6 * m) ≤ length f) (few : n ≤ 2000) (some : 1 ≤ m) (good : Block f b n m) where
  part : List ℕ
  part = between b (b + 9 * n + 6 * m) f

  long : length part ≡ 9 * n + 6 * m
  unfolding part
  long = simp (length-take, length-drop) (omega arith)

  seconds : (k : ℕ) → k < n → second_at part k ≡ second8 f (b + 8 * k)
  unfolding part
  seconds k h = second_part f b (b + 9 * n + 6 * m - b) (8 * k) (b + 8 * k) (omega arith) refl

  indexes : (k : ℕ) → k < n → index_of part n k ≡ byte_at f (b + 8 * n + k)
  unfolding part
  indexes k h = byte_part f b (b + 9 * n + 6 * m - b) (8 * n + k) (b + 8 * n + k) (omega arith) (omega arith)

  offsets : (j : ℕ) → j < m → offset_of part n j ≡ offset4 f (b + 9 * n + 6 * j)
  unfolding part
  offsets j h = offset_part f b (b + 9 * n + 6 * m - b) (9 * n + 6 * j) (b + 9 * n + 6 * j) (omega arith) (omega arith)

  named : (k : ℕ) → k < n → index_of part n k < m
  named k h = rw (indexes k h) (good.named k h)

  bounded : (j : ℕ) → j < m → is_offset (offset_of part n j) ≡ true
  bounded j h = rw (offsets j h) (good.bounded j h)

  good_part : GoodBlock part n
  good_part = record {
    few = few;
    room = rw long (omega arith);
    rising = λ j k h l. rising_all (second_at part) n (λ i g. rw (seconds i (omega arith), seconds (suc i) g) (good.rising i g)) k j h l;
    named = λ k h. let i = named k h in rw long (omega arith);
    first = bounded 0 some;
    bounded = λ k h. bounded (index_of part n k) (named k h);
  }

  pub good_between : GoodBlock (between b (b + 9 * n + 6 * m) f) n
  unfolding part
  good_between = good_part

-- a look-up in a good file has its room, and a good block
abbrev pub Ready : List ℕ → Layout → Type 0
Ready f l = ((l.block + 9 * l.times + 6 * l.types) ≤ length f) × GoodBlock (part_of f l) l.times

pub ready : (f : List ℕ) (l : Layout) (h : ℕ) → GoodAt f l h → Ready f l
ready f l h g =
    let n : ℕ = times f h in
    let m : ℕ = types f h in
    let e : length (drop (footer_place f h) f) ≡ suc (length (g.footer.text ++ (10 ∷ []))) = ap length g.footer.ends in
    let d = length-drop (footer_place f h) f in
    let room : (h + 44 + 9 * n + 6 * m) ≤ length f = omega arith in
    subst (Ready f) (sym g.parts) (room, good_between f (h + 44) n m room g.headers.few_times g.headers.some_types g.block)

pub found : (f : List ℕ) (l : Layout) → checked f ≡ Ok l → Ready f l
found f l e = ready f l (header_place f) (checked_ok f l e)
