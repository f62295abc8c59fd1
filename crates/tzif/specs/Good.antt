-- What a good file holds, in its own terms.
use Rattle.std.specs.Prelude.{◌≡◌, ℕ, suc, ◌+◌, ◌*◌, ◌<◌, ◌≤◌, true, List, [], ◌∷◌, ◌++◌, length, drop, ◌<ℤ◌, Ok, Err, Result, ◌≢◌}
use Rattle.std.specs.List.{AllByRecursion}
use Rattle.timebase.specs.declared.fault.Fault.{Fault}
use Rattle.zone.specs.Offsets.{is_offset}
use Rattle.tzif.specs.declared.layout.Layout.{Layout}
use Rattle.tzif.specs.Fields.{byte_at, number4, offset4, second8}
use Rattle.tzif.specs.File.{magic, leaps, times, types, header_place, footer_place, layout_at}

-- both headers, the second one at place h
pub record Headers (f : List ℕ) (h : ℕ) : Type 0 where
  pub magic_first : number4 f 0 ≡ magic
  pub version : (50 ≤ byte_at f 4) × (byte_at f 4 ≤ 51)
  pub magic_second : number4 f h ≡ magic
  pub alike : byte_at f (h + 4) ≡ byte_at f 4
  pub no_leap : leaps f h ≡ 0
  pub few_times : times f h ≤ 2000
  pub some_types : 1 ≤ types f h
  pub few_types : types f h ≤ 256

-- the second block, at place b, of n transitions and m types
pub record Block (f : List ℕ) (b n m : ℕ) : Type 0 where
  pub rising : (k : ℕ) → suc k < n → second8 f (b + 8 * k) <ℤ second8 f (b + 8 * suc k)
  pub named : (k : ℕ) → k < n → byte_at f (b + 8 * n + k) < m
  pub bounded : (j : ℕ) → j < m → is_offset (offset4 f (b + 9 * n + 6 * j)) ≡ true

-- the footer, at place q: a newline, text without one, a newline, and the end of the file
pub record Footer (f : List ℕ) (q : ℕ) : Type 0 where
  pub text : List ℕ
  pub one_line : AllByRecursion (λ b. b ≢ 10) text
  pub ends : drop q f ≡ 10 ∷ (text ++ 10 ∷ [])

-- a good file and its parts; the second header stands at place h
pub record GoodAt (f : List ℕ) (l : Layout) (h : ℕ) : Type 0 where
  pub short : length f ≤ 65536
  pub headers : Headers f h
  pub block : Block f (h + 44) (times f h) (types f h)
  pub footer : Footer f (footer_place f h)
  pub parts : l ≡ layout_at f h

abbrev pub GoodFile : List ℕ → Layout → Type 0
GoodFile f l = GoodAt f l (header_place f)

-- the answer of a check: the parts of a good file, or a refusal of one that is not good
abbrev pub Judged : List ℕ → Result Layout Fault → Type 0
Judged f (Ok l) = GoodFile f l
Judged f (Err _) = (l : Layout) → GoodFile f l → ⊥
