-- `signed` works in 64 bits. Assumes nothing.
use Prim.Native.Nat.{◌%◌, ◌^◌}
use native.Mathlib.Omega.{arith}
use mathlib.Core.Path.{◌≡◌}
use lib.IntN.{pos}
use mir.Syntax.{w64}
use mir.Val.{to_z}
use mir.Facts.{to_z-of_z, to_z_pos}
use Rattle.vectors.proofs.Signs.{lowered_fits, wider}
use Rattle.vectors.proofs.words.signed.Goals as goal

pub overflow_sub-result : goal.overflow_sub-result
overflow_sub-result c =
    let low_is : to_z w64 (c.args.word % 2 ^ 32) ≡ pos (c.args.word % 2 ^ 32) = to_z_pos w64 (omega arith) in
    rw (low_is) (wider (lowered_fits (c.args.word % 2 ^ 32) (omega arith)))

pub overflow_cast-result : goal.overflow_cast-result
overflow_cast-result c =
    let low_is : to_z w64 (c.args.word % 2 ^ 32) ≡ pos (c.args.word % 2 ^ 32) = to_z_pos w64 (omega arith) in
    let fits = lowered_fits (c.args.word % 2 ^ 32) (omega arith) in rw (low_is, to_z-of_z (wider fits)) fits

pub returns : goal.returns
returns c =
    let low_is : to_z w64 (c.args.word % 2 ^ 32) ≡ pos (c.args.word % 2 ^ 32) = to_z_pos w64 (omega arith) in
    let fits = lowered_fits (c.args.word % 2 ^ 32) (omega arith) in rw (low_is, to_z-of_z (wider fits), to_z-of_z fits)
