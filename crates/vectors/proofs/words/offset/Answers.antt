-- `offset` works in 64 bits, where the sum is not negative. Assumes nothing.
use Prim.Native.Nat.{◌^◌}
use native.Mathlib.Omega.{arith}
use mathlib.Core.Path.{◌≡◌}
use lib.IntN.{pos, nat_abs, ◌+ℤ◌}
use mir.Syntax.{w32, w64}
use mir.Val.{SFits, to_z, of_z}
use mir.Facts.{to_z-of_z}
use Rattle.vectors.proofs.Signs.{raised, raised_low, wider}
use Rattle.vectors.proofs.words.offset.Goals as goal

pub overflow_cast-result : goal.overflow_cast-result
overflow_cast-result c = rw (to_z-of_z c.ranges.z) (wider c.ranges.z)

pub overflow_add-result : goal.overflow_add-result
overflow_add-result c =
    let wide_back : to_z w64 (of_z w64 (to_z w32 (of_z w32 c.args.z))) ≡ c.args.z = rw (to_z-of_z c.ranges.z) (to_z-of_z (wider c.ranges.z)) in
    let sum_fits : SFits w64 (pos (nat_abs (c.args.z +ℤ pos (2 ^ 31)))) = record { sfits = let k = raised_low c.args.z c.ranges.z in omega arith } in
    rw (wide_back, raised c.args.z c.ranges.z) (sum_fits)

pub overflow_cast-result-2 : goal.overflow_cast-result-2
overflow_cast-result-2 c =
    let wide_back : to_z w64 (of_z w64 (to_z w32 (of_z w32 c.args.z))) ≡ c.args.z = rw (to_z-of_z c.ranges.z) (to_z-of_z (wider c.ranges.z)) in
    let sum_fits : SFits w64 (pos (nat_abs (c.args.z +ℤ pos (2 ^ 31)))) = record { sfits = let k = raised_low c.args.z c.ranges.z in omega arith } in
    let low = raised_low c.args.z c.ranges.z in
    rw (wide_back, raised c.args.z c.ranges.z, to_z-of_z (sum_fits)) (tt, record { fits = omega arith })

pub returns : goal.returns
returns c =
    let wide_back : to_z w64 (of_z w64 (to_z w32 (of_z w32 c.args.z))) ≡ c.args.z = rw (to_z-of_z c.ranges.z) (to_z-of_z (wider c.ranges.z)) in
    let sum_fits : SFits w64 (pos (nat_abs (c.args.z +ℤ pos (2 ^ 31)))) = record { sfits = let k = raised_low c.args.z c.ranges.z in omega arith } in
    rw (wide_back, raised c.args.z c.ranges.z, to_z-of_z (sum_fits))
