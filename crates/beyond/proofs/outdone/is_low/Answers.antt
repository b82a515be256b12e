-- `is_low` compares the sum. Assumes nothing.
use Prim.Native.Nat.{◌^◌, ◌<◌}
use native.Mathlib.Omega.{arith}
use mathlib.Core.Path.{◌≡◌}
use mir.Syntax.{w32}
use mir.Val.{to_z, of_z}
use mir.Facts.{to_z_pos}
use borrow.Author.Rules.{rules}
use Rattle.sizes.proofs.Size.{read_back}
use Rattle.beyond.proofs.outdone.is_low.Goals as goal

pub sum-requires : goal.sum-requires
sum-requires c =
    let a : to_z w32 (of_z w32 c.args.score) ≡ c.args.score = search rules in
    let few : c.args.rest < 2 ^ 31 = omega arith in
    rw (a, to_z_pos w32 few) (omega arith)

pub returns : goal.returns
returns c =
    let a : to_z w32 (of_z w32 c.args.score) ≡ c.args.score = search rules in
    let b : to_z w32 (of_z w32 c.args.best) ≡ c.args.best = search rules in
    let few : c.args.rest < 2 ^ 31 = omega arith in
    rw (read_back _ c.sum.type_inv, c.sum.ensures, a, to_z_pos w32 few, b)
