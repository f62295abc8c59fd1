-- A file whose fields are all sound is good.
use Rattle.std.proofs.Common.{◌≡◌, ℕ, suc, ◌+◌, ◌-◌, ◌*◌, ◌<◌, ◌≤◌, Bool, true, false, cond, eqb, leb, List, [], ◌∷◌, ◌++◌, length, drop, ◌<ℤ◌, refl, ap, ◌∙◌, add-one, arith, length-drop, drop-cons}
use lib.Signed.{lt_z}
use Rattle.std.proofs.lemmas.Int.{ints}
use Rattle.std.proofs.lemmas.Bool.{leb-true, eqb-true, eqb-false, ne_eqb, and_parts}
use Rattle.std.proofs.lemmas.List.{nil_from_length}
use Rattle.std.specs.List.{AllByRecursion}
use Rattle.tzif.specs.declared.layout.Layout.{Layout}
use Rattle.tzif.specs.Fields.{byte_at, number4, second8, Field, is_within, each}
use Rattle.reading.specs.Lines.{line_length}
use Rattle.tzif.specs.File.{magic, times, types, others, second_header, rising_at, index_at, type_at, second_block, footer, footer_place, header_place, layout_at}
use Rattle.tzif.specs.Good.{Headers, Block, Footer, GoodFile}
use Rattle.tzif.specs.Places.{Sound, AllSound}
use Rattle.tzif.proofs.Judging.{all_parts, each_parts}

within : (a b v : ℕ) → is_within a b v ≡ true → (a ≤ v) × (v ≤ b)
within a b v e = let t = and_parts (leb a v) (leb v b) e in (leb-true a v t.0, leb-true v b t.1)

exactly : (a v : ℕ) → is_within a a v ≡ true → v ≡ a
exactly a v e = let t = within a a v e in omega arith

module _ (f : List ℕ) where
  headers : (h : ℕ) → is_within magic magic (number4 f 0) ≡ true → is_within 50 51 (byte_at f 4) ≡ true → AllByRecursion (Sound f) (second_header f h (byte_at f 4)) → Headers f h
  headers h m v a = record {
    magic_first = exactly magic (number4 f 0) m;
    version = within 50 51 (byte_at f 4) v;
    magic_second = exactly magic (number4 f h) a.0.1;
    alike = exactly (byte_at f 4) (byte_at f (h + 4)) a.1.0.1;
    no_leap = exactly 0 (number4 f (h + 28)) a.1.1.1.0.1;
    few_times = (within 0 2000 (times f h) a.1.1.1.1.0.1).1;
    some_types = (within 1 256 (types f h) a.1.1.1.1.1.0.1).0;
    few_types = (within 1 256 (types f h) a.1.1.1.1.1.0.1).1;
  }

  rising : (b n : ℕ) → AllByRecursion (Sound f) (each (rising_at f b) 0 n) → (k : ℕ) → suc k < n → second8 f (b + 8 * k) <ℤ second8 f (b + 8 * suc k)
  rising b n a k h =
      let s = each_parts (Sound f) (rising_at f b) n 0 a (suc k) (omega arith) (omega arith) in
      let z : eqb (suc k) 0 ≡ false = ne_eqb (suc k) 0 (λ e. omega arith) in
      let d : suc k - 1 ≡ k = omega arith in
      let l : lt_z (second8 f (b + 8 * (suc k - 1))) (second8 f (b + 8 * suc k)) ≡ true = rw z at s.0.1 in
      let r : lt_z (second8 f (b + 8 * k)) (second8 f (b + 8 * suc k)) ≡ true = rw d at l in
      grind (arith, ints)

  named : (b m n : ℕ) → 1 ≤ m → AllByRecursion (Sound f) (each (index_at f b m) 0 n) → (k : ℕ) → k < n → byte_at f (b + k) < m
  named b m n s a k h =
      let t = each_parts (Sound f) (index_at f b m) n 0 a k (omega arith) (omega arith) in
      let w = (within 0 (m - 1) (byte_at f (b + k)) t.0.1).1 in
      omega arith

  block : (b n m o : ℕ) → 1 ≤ m → AllByRecursion (Sound f) (second_block f b n m o) → Block f b n m
  block b n m o s a =
      let t = (all_parts (Sound f) (each (rising_at f b) 0 n ++ each (index_at f (b + 8 * n) m) 0 n ++ each (type_at f (b + 9 * n)) 0 m) _ a).0 in
      let u = all_parts (Sound f) (each (rising_at f b) 0 n ++ each (index_at f (b + 8 * n) m) 0 n) _ t in
      let v = all_parts (Sound f) (each (rising_at f b) 0 n) _ u.0 in
      record {
        rising = rising b n v.0;
        named = named (b + 8 * n) m n s v.1;
        bounded = λ j h. (each_parts (Sound f) (type_at f (b + 9 * n)) m 0 u.1 j (omega arith) (omega arith)).0.1;
      }

-- ── the footer ──

abbrev OneLine : List ℕ → Type 0
OneLine bs = (t : List ℕ) × (AllByRecursion (λ x. x ≡ 10 → ⊥) t) × (bs ≡ t ++ 10 ∷ [])

line_by : (b : ℕ) (bs : List ℕ) (t : Bool) → eqb b 10 ≡ t → suc (cond t 0 (suc (line_length bs))) ≡ suc (length bs) → (suc (line_length bs) ≡ length bs → OneLine bs) → OneLine (b ∷ bs)
line_by b bs true q e r = ([], tt, ap (λ (x : ℕ). x ∷ bs) (eqb-true b 10 q) ∙ ap (λ (l : List ℕ). 10 ∷ l) (nil_from_length bs (omega arith)))
line_by b bs false q e r = let t = r (omega arith) in (b ∷ t.0, (eqb-false b 10 q, t.1), ap (λ l. b ∷ l) t.2)

-- a line and its newline, and no more
line : (bs : List ℕ) → suc (line_length bs) ≡ length bs → OneLine bs
line [] e = absurd (omega arith)
line (b ∷ bs) e = line_by b bs (eqb b 10) refl e (line bs)

split : (f : List ℕ) (q : ℕ) (t : List ℕ) → q < length f → byte_at f q ≡ 10 → drop (q + 1) f ≡ t ++ 10 ∷ [] → drop q f ≡ 10 ∷ (t ++ 10 ∷ [])
split f q t h e k = let k₁ : drop (suc q) f ≡ t ++ 10 ∷ [] = rw add-one at k in drop-cons f q 0 h ∙ rw (e, k₁)

end : (f : List ℕ) (q : ℕ) → AllByRecursion (Sound f) (footer f q) → Footer f q
end f q a =
    let n : ℕ = line_length (drop (q + 1) f) in
    let e = leb-true (length f) (q + 1 + n + 1) a.1.1.1.0.1 in
    let w : (q + 1 + n + 1) ≤ length f = a.1.1.0.0 in
    let g = length-drop (q + 1) f in
    let l = line (drop (q + 1) f) (omega arith) in
    record { text = l.0; one_line = l.1; ends = split f q l.0 (omega arith) (exactly 10 (byte_at f q) a.0.1) l.2 }

-- ── the file ──

pub all_good : (f : List ℕ) (l : Layout) → length f ≤ 65536 → AllSound f → l ≡ layout_at f (header_place f) → GoodFile f l
all_good f l short a e =
    let h : ℕ = header_place f in
    let fields : List Field = second_block f (h + 44) (times f h) (types f h) (others f h) in
    let t = all_parts (Sound f) (second_header f h (byte_at f 4)) (fields ++ footer f (footer_place f h)) a.1.1.1.1 in
    let u = all_parts (Sound f) fields (footer f (footer_place f h)) t.1 in
    let g = headers f h a.0.1 a.1.0.1 t.0 in
    record {
      short = short;
      headers = g;
      block = block f (h + 44) (times f h) (types f h) (others f h) g.some_types u.0;
      footer = end f (footer_place f h) u.1;
      parts = e;
    }
