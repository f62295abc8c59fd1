-- Local times that are met.
use Rattle.std.proofs.Common.{◌≡◌, ℤ, pos, ◌+ℤ◌, ◌-ℤ◌, ◌≤ℤ◌, ◌<ℤ◌, Ok, sym, ap, ◌∙◌, inl, inr, arith}
use Rattle.std.proofs.lemmas.Int.{ints}
use Rattle.zone.specs.Zones.{is_blank, offset}
use Rattle.local_times.specs.Meeting.{meeting}
use Rattle.local_times.specs.Meets.{Skipped}
use Rattle.local_times.proofs.Bridge.{is_meeting}
use Rattle.known_days.proofs.Zones.{test_h, utc, Stretches, stretches, clear_h, told_utc}

-- no second shows a local time of the gap
never : (t o : ℤ) → Stretches t o → t +ℤ o ≡ pos 1004400 → ⊥
never t o (inl k) e = omega (arith, ints)
never t o (inr (inl k)) e = omega (arith, ints)
never t o (inr (inr k)) e = omega (arith, ints)

upto : (t o : ℤ) → Stretches t o → t <ℤ pos 1000000 → (t +ℤ o) ≤ℤ pos 1004400
upto t o (inl k) h = omega (arith, ints)
upto t o (inr (inl k)) h = omega (arith, ints)
upto t o (inr (inr k)) h = omega (arith, ints)

past : (o : ℤ) → Stretches (pos 1000000) o → pos 1004400 <ℤ (pos 1000000 +ℤ o)
past o (inl k) = omega (arith, ints)
past o (inr (inl k)) = omega (arith, ints)
past o (inr (inr k)) = omega (arith, ints)

from_before : (o : ℤ) → Stretches (pos 999999) o → pos 1000800 ≡ pos 1004400 -ℤ o
from_before o (inl k) = omega (arith, ints)
from_before o (inr (inl k)) = omega (arith, ints)
from_before o (inr (inr k)) = omega (arith, ints)

gap : Skipped test_h (pos 1004400) (pos 1000800)
gap = record {
  none = λ t w e. never t (offset (test_h t)) (stretches t) e;
  j = pos 1000000;
  from = record {
    within = (omega (arith, ints), omega (arith, ints));
    past = past (offset (test_h (pos 1000000))) (stretches (pos 1000000));
    first = λ t l h. upto t (offset (test_h t)) (stretches t) h;
  };
  inside = omega (arith, ints);
  is = from_before (offset (test_h (pos 999999))) (stretches (pos 999999));
}

pub met_skipped : meeting test_h (pos 1004400) ≡ Ok (pos 1000800)
met_skipped = sym (is_meeting test_h (pos 1004400) (Ok (pos 1000800)) (λ t w. clear_h t, inr gap))

-- from second 1,000,000 up to second 2,000,000 a second is the first that shows its local time
shows : (i o : ℤ) → pos 1000000 ≤ℤ i → i <ℤ pos 2000000 → Stretches i o → i +ℤ o ≡ i +ℤ pos 7200
shows i o l h (inl k) = omega (arith, ints)
shows i o l h (inr (inl k)) = omega (arith, ints)
shows i o l h (inr (inr k)) = omega (arith, ints)

sooner : (i t o : ℤ) → pos 1000000 ≤ℤ i → i <ℤ pos 2000000 → t <ℤ i → Stretches t o → t +ℤ o ≡ i +ℤ pos 7200 → ⊥
sooner i t o l h k (inl m) e = omega (arith, ints)
sooner i t o l h k (inr (inl m)) e = omega (arith, ints)
sooner i t o l h k (inr (inr m)) e = omega (arith, ints)

pub met_first : (i L : ℤ) → pos 1000000 ≤ℤ i → i <ℤ pos 2000000 → L ≡ i +ℤ pos 7200 → meeting test_h L ≡ Ok i
met_first i L l h e =
    sym (is_meeting test_h L (Ok i) (
      λ t w. clear_h t,
      inl (record {
        within = (omega (arith, ints), omega (arith, ints));
        hits = shows i (offset (test_h i)) l h (stretches i) ∙ sym e;
        least = λ t m k f. sooner i t (offset (test_h t)) l h k (stretches t) (f ∙ e);
      }),
    ))

-- past the fold, once it is over, too
shows_late : (i o : ℤ) → pos 2003600 ≤ℤ i → Stretches i o → i +ℤ o ≡ i +ℤ pos 3600
shows_late i o l (inl k) = omega (arith, ints)
shows_late i o l (inr (inl k)) = omega (arith, ints)
shows_late i o l (inr (inr k)) = omega (arith, ints)

sooner_late : (i t o : ℤ) → pos 2003600 ≤ℤ i → t <ℤ i → Stretches t o → t +ℤ o ≡ i +ℤ pos 3600 → ⊥
sooner_late i t o l k (inl m) e = omega (arith, ints)
sooner_late i t o l k (inr (inl m)) e = omega (arith, ints)
sooner_late i t o l k (inr (inr m)) e = omega (arith, ints)

pub met_late : (i L : ℤ) → pos 2003600 ≤ℤ i → L ≡ i +ℤ pos 3600 → meeting test_h L ≡ Ok i
met_late i L l e =
    sym (is_meeting test_h L (Ok i) (
      λ t w. clear_h t,
      inl (record {
        within = (omega (arith, ints), omega (arith, ints));
        hits = shows_late i (offset (test_h i)) l (stretches i) ∙ sym e;
        least = λ t m k f. sooner_late i t (offset (test_h t)) l k (stretches t) (f ∙ e);
      }),
    ))

-- in UTC a local time is its own second
pub met_utc : (L : ℤ) → meeting utc L ≡ Ok L
met_utc L =
    sym (is_meeting utc L (Ok L) (
      λ t w. ap is_blank (told_utc t),
      inl (record {
        within = (omega (arith, ints), omega (arith, ints));
        hits = shows_own L (offset (utc L)) (ap offset (told_utc L));
        least = λ t m k f. shows_less t (offset (utc t)) k (ap offset (told_utc t)) f;
      }),
    ))
  where
    shows_own : (t o : ℤ) → o ≡ pos 0 → t +ℤ o ≡ t
    shows_own t o e = omega (arith, ints)

    shows_less : (t o : ℤ) → t <ℤ L → o ≡ pos 0 → t +ℤ o ≡ L → ⊥
    shows_less t o k e f = omega (arith, ints)
