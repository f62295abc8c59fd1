-- All fields of a good file are sound.
use Rattle.std.proofs.Common.{◌≡◌, ℕ, zero, suc, ◌+◌, ◌-◌, ◌*◌, ◌<◌, ◌≤◌, true, eqb, List, [], ◌∷◌, ◌++◌, length, get_or, drop, sym, refl, ap, ◌∙◌, add-one, arith, length-append, length-drop, get_or-drop, drop-cons}
use lib.Signed.{lt_z}
use Rattle.std.proofs.ByRecursion.{All-append}
use Rattle.std.proofs.lemmas.Int.{ints}
use Rattle.std.proofs.lemmas.Bool.{le-leb, ne_eqb, and_from, or_right}
use Rattle.std.specs.List.{AllByRecursion}
use Rattle.tzif.specs.declared.layout.Layout.{Layout}
use Rattle.tzif.specs.Fields.{byte_at, second8, Field, is_within, each}
use Rattle.reading.specs.Lines.{line_length}
use Rattle.tzif.specs.File.{times, types, others, second_header, rising_at, index_at, type_at, second_block, footer, header_place, footer_place}
use Rattle.tzif.specs.Good.{Headers, Block, Footer, GoodFile}
use Rattle.tzif.specs.Places.{Sound, AllSound}
use Rattle.tzif.proofs.Judging.{each_from}

within : (a b v : ℕ) → a ≤ v → v ≤ b → is_within a b v ≡ true
within a b v l m = and_from _ _ (le-leb a v l) (le-leb v b m)

exactly : (a v : ℕ) → v ≡ a → is_within a a v ≡ true
exactly a v e = within a a v (omega arith) (omega arith)

module _ (f : List ℕ) where
  second : (h : ℕ) → (h + 44) ≤ length f → Headers f h → AllByRecursion (Sound f) (second_header f h (byte_at f 4))
  second h l g = (
    (omega arith, exactly _ _ g.magic_second),
    (
      (omega arith, exactly _ _ g.alike),
      (
        (omega arith, refl),
        (
          (omega arith, exactly _ _ g.no_leap),
          (
            (omega arith, within 0 2000 _ (omega arith) g.few_times),
            (
              (omega arith, within 1 256 _ g.some_types g.few_types),
              ((omega arith, refl), tt),
            ),
          ),
        ),
      ),
    ),
  )

  module _ (b n m o : ℕ) (room : (b + 9 * n + 6 * m + o) ≤ length f) (some : 1 ≤ m) (good : Block f b n m) where
    rising : (k : ℕ) → k < n → AllByRecursion (Sound f) (rising_at f b k)
    rising zero h = ((omega arith, refl), tt)
    rising (suc k) h =
        let d : suc k - 1 ≡ k = omega arith in
        let r = good.rising k h in
        let l : lt_z (second8 f (b + 8 * k)) (second8 f (b + 8 * suc k)) ≡ true = grind (arith, ints) in
        let q : lt_z (second8 f (b + 8 * (suc k - 1))) (second8 f (b + 8 * suc k)) ≡ true = rw d l in
        ((omega arith, or_right (eqb (suc k) 0) _ q), tt)

    index : (k : ℕ) → k < n → AllByRecursion (Sound f) (index_at f (b + 8 * n) m k)
    index k h = let i = good.named k h in ((omega arith, within 0 (m - 1) _ (omega arith) (omega arith)), tt)

    type : (k : ℕ) → k < m → AllByRecursion (Sound f) (type_at f (b + 9 * n) k)
    type k h = ((omega arith, good.bounded k h), ((omega arith, refl), tt))

    block : AllByRecursion (Sound f) (second_block f b n m o)
    block =
        All-append (Sound f) (each (rising_at f b) 0 n ++ each (index_at f (b + 8 * n) m) 0 n ++ each (type_at f (b + 9 * n)) 0 m) _
        (All-append (Sound f) (each (rising_at f b) 0 n ++ each (index_at f (b + 8 * n) m) 0 n) _
        (All-append (Sound f) (each (rising_at f b) 0 n) _
        (each_from (Sound f) (rising_at f b) n 0 (λ k i h. rising k (omega arith)))
        (each_from (Sound f) (index_at f (b + 8 * n) m) n 0 (λ k i h. index k (omega arith))))
        (each_from (Sound f) (type_at f (b + 9 * n)) m 0 (λ k i h. type k (omega arith))))
        ((room, refl), tt)

-- ── the footer ──

line_long : (t : List ℕ) → AllByRecursion (λ x. x ≡ 10 → ⊥) t → line_length (t ++ 10 ∷ []) ≡ length t
line_long [] a = refl
line_long (b ∷ t) a = rw (ne_eqb b 10 a.0) (ap suc (line_long t a.1))

line_end : (t : List ℕ) → get_or (t ++ 10 ∷ []) (length t) 0 ≡ 10
line_end [] = refl
line_end (b ∷ t) = line_end t

tail_of : (f : List ℕ) (q : ℕ) (bs : List ℕ) → q < length f → drop q f ≡ 10 ∷ bs → (byte_at f q ≡ 10) × (drop (q + 1) f ≡ bs)
tail_of f q bs h e =
    let d = drop-cons f q 0 h in
    let c : get_or f q 0 ∷ drop (suc q) f ≡ 10 ∷ bs = sym d ∙ e in
    let t : drop (suc q) f ≡ bs = cc in
    (cc, rw add-one t)

pub footer_long : (f : List ℕ) (q : ℕ) (g : Footer f q) → length f ≡ q + 1 + length g.text + 1
footer_long f q g =
    let e : length (drop q f) ≡ suc (length (g.text ++ 10 ∷ [])) = ap length g.ends in
    let d = length-drop q f in
    let a = length-append g.text (10 ∷ []) in
    omega arith

end : (f : List ℕ) (q : ℕ) → Footer f q → AllByRecursion (Sound f) (footer f q)
end f q g =
    let l = footer_long f q g in
    let s = tail_of f q (g.text ++ 10 ∷ []) (omega arith) g.ends in
    let n : line_length (drop (q + 1) f) ≡ length g.text = ap line_length s.1 ∙ line_long g.text g.one_line in
    let z : byte_at f (q + 1 + line_length (drop (q + 1) f)) ≡ 10 =
    sym (get_or-drop (q + 1) f (line_length (drop (q + 1) f)) 0) ∙ rw (n, s.1) (line_end g.text) in (
      (omega arith, exactly _ _ s.0),
      (
        (omega arith, refl),
        (
          (omega arith, exactly _ _ z),
          ((omega arith, le-leb _ _ (omega arith)), tt),
        ),
      ),
    )

-- ── the file ──

pub all_sound : (f : List ℕ) (l : Layout) → GoodFile f l → AllSound f
all_sound f l g =
    let h : ℕ = header_place f in
    let w = footer_long f (footer_place f h) g.footer in
    let v = g.headers.version in
    let fields : List Field = second_block f (h + 44) (times f h) (types f h) (others f h) in (
      (omega arith, exactly _ _ g.headers.magic_first),
      (
        (omega arith, within 50 51 _ v.0 v.1),
        (
          (omega arith, refl),
          (
            (omega arith, refl),
            All-append (Sound f) (second_header f h (byte_at f 4)) (fields ++ footer f (footer_place f h)) (second f h (omega arith) g.headers)
                (All-append (Sound f) fields (footer f (footer_place f h))
                (block f (h + 44) (times f h) (types f h) (others f h) (omega arith) g.headers.some_types g.block)
                (end f (footer_place f h) g.footer)),
          ),
        ),
      ),
    )
