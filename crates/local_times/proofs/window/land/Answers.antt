use Rattle.std.proofs.Common.{◌≡◌, ◌-ℤ◌, arith, w64, to_z, of_z}
use Rattle.std.proofs.lemmas.Int.{ints, to_z-of_z}
use Rattle.local_times.proofs.Landings.{gap_hit, gap_gap, before_hit, before_gap, before_before}
use Rattle.local_times.proofs.window.land.Goals as goal

pub returns-in-Gap : goal.returns-in-Gap
returns-in-Gap c =
    let k : to_z w64 (of_z w64 (c.args.local -ℤ c.args.stretch.offset)) ≡ c.args.local -ℤ c.args.stretch.offset = omega (arith, ints) in
    grind (arith, to_z-of_z, gap_hit)

pub returns-in-Gap-2 : goal.returns-in-Gap-2
returns-in-Gap-2 c =
    let k : to_z w64 (of_z w64 (c.args.local -ℤ c.args.stretch.offset)) ≡ c.args.local -ℤ c.args.stretch.offset = omega (arith, ints) in
    grind (arith, to_z-of_z, gap_gap)

pub returns-in-Before : goal.returns-in-Before
returns-in-Before c =
    let k : to_z w64 (of_z w64 (c.args.local -ℤ c.args.stretch.offset)) ≡ c.args.local -ℤ c.args.stretch.offset = omega (arith, ints) in
    grind (arith, to_z-of_z, before_hit)

pub returns-in-Before-2 : goal.returns-in-Before-2
returns-in-Before-2 c =
    let k : to_z w64 (of_z w64 (c.args.local -ℤ c.args.stretch.offset)) ≡ c.args.local -ℤ c.args.stretch.offset = omega (arith, ints) in
    let m : to_z w64 (of_z w64 (c.args.local -ℤ c.args.stretch.previous)) ≡ c.args.local -ℤ c.args.stretch.previous = omega (arith, ints) in
    grind (arith, to_z-of_z, before_gap)

pub returns-in-Before-3 : goal.returns-in-Before-3
returns-in-Before-3 c =
    let k : to_z w64 (of_z w64 (c.args.local -ℤ c.args.stretch.offset)) ≡ c.args.local -ℤ c.args.stretch.offset = omega (arith, ints) in
    grind (arith, to_z-of_z, before_before)
