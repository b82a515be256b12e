-- `line_through` meets its contract: the coordinates of pixels are small, so each difference and product fits. Assumes nothing.
use borrow.Author.Rules.{rules}
use native.Mathlib.Omega.{arith}
use native.Mathlib.Nat.{lt_of_le_of_lt}
use mathlib.Core.Path.{◌≡◌, ◌∙◌}
use Prim.Native.Nat.{◌≤◌}
use lib.Dec.{lit<}
use lib.IntN.{neg_ℤ, nat_abs, ◌-ℤ◌}
use mir.Syntax.{w32}
use mir.Val.{to_z, of_z}
use Rattle.refusals.specs.Limits.{longest_side}
use Rattle.sizes.proofs.Size.{products, size_neg, read_back}
use Rattle.lines.specs.Meet.{line_of}
use Rattle.lines.proofs.Bounds.{inside_low, diff_low}
use Rattle.lines.proofs.line_through.Goals as goal

pub diff-requires : goal.diff-requires
diff-requires c =
    let qy : to_z w32 (of_z w32 c.args.q.y) ≡ c.args.q.y = search rules in
    let py : to_z w32 (of_z w32 c.args.p.y) ≡ c.args.p.y = search rules in
    let h = inside_low _ c.requires.fact_2.y in
    let k = inside_low _ c.requires.fact_1.y in
    rw (qy, py) (omega arith)

pub opposite-a-requires : goal.opposite-a-requires
opposite-a-requires c =
    let qy : to_z w32 (of_z w32 c.args.q.y) ≡ c.args.q.y = search rules in
    let py : to_z w32 (of_z w32 c.args.p.y) ≡ c.args.p.y = search rules in
    let dy_is : to_z w32 (of_z w32 c.diff.result) ≡ c.args.q.y -ℤ c.args.p.y = read_back c.diff.result c.diff.type_inv ∙ rw (qy, py) at c.diff.ensures in
    let dy_low : nat_abs (c.args.q.y -ℤ c.args.p.y) ≤ longest_side = diff_low _ _ c.requires.fact_2.y c.requires.fact_1.y in
    rw (dy_is) (let h = dy_low in omega arith)

pub diff-b-requires : goal.diff-b-requires
diff-b-requires c =
    let qx : to_z w32 (of_z w32 c.args.q.x) ≡ c.args.q.x = search rules in
    let px : to_z w32 (of_z w32 c.args.p.x) ≡ c.args.p.x = search rules in
    let h = inside_low _ c.requires.fact_2.x in
    let k = inside_low _ c.requires.fact_1.x in
    rw (qx, px) (omega arith)

pub dot-e-requires : goal.dot-e-requires
dot-e-requires c =
    let qy : to_z w32 (of_z w32 c.args.q.y) ≡ c.args.q.y = search rules in
    let py : to_z w32 (of_z w32 c.args.p.y) ≡ c.args.p.y = search rules in
    let dy_is : to_z w32 (of_z w32 c.diff.result) ≡ c.args.q.y -ℤ c.args.p.y = read_back c.diff.result c.diff.type_inv ∙ rw (qy, py) at c.diff.ensures in
    let a_is : to_z w32 (of_z w32 c.opposite-a.result) ≡ neg_ℤ (c.args.q.y -ℤ c.args.p.y) = read_back c.opposite-a.result c.opposite-a.type_inv ∙ rw (dy_is) at c.opposite-a.ensures in
    let qx : to_z w32 (of_z w32 c.args.q.x) ≡ c.args.q.x = search rules in
    let px : to_z w32 (of_z w32 c.args.p.x) ≡ c.args.p.x = search rules in
    let b_is : to_z w32 (of_z w32 c.diff-b.result) ≡ c.args.q.x -ℤ c.args.p.x = read_back c.diff-b.result c.diff-b.type_inv ∙ rw (qx, px) at c.diff-b.ensures in
    let dy_low : nat_abs (c.args.q.y -ℤ c.args.p.y) ≤ longest_side = diff_low _ _ c.requires.fact_2.y c.requires.fact_1.y in
    let a_low : nat_abs (neg_ℤ (c.args.q.y -ℤ c.args.p.y)) ≤ longest_side = rw (size_neg (c.args.q.y -ℤ c.args.p.y)) (dy_low) in
    rw (a_is, b_is, qx, qy)
    (lt_of_le_of_lt (products longest_side longest_side longest_side longest_side (a_low) (inside_low _ c.requires.fact_2.x) (diff_low _ _ c.requires.fact_2.x c.requires.fact_1.x) (inside_low _ c.requires.fact_2.y)) (lit< tt))

pub returns : goal.returns
unfolding line_of
returns c =
    let qy : to_z w32 (of_z w32 c.args.q.y) ≡ c.args.q.y = search rules in
    let py : to_z w32 (of_z w32 c.args.p.y) ≡ c.args.p.y = search rules in
    let dy_is : to_z w32 (of_z w32 c.diff.result) ≡ c.args.q.y -ℤ c.args.p.y = read_back c.diff.result c.diff.type_inv ∙ rw (qy, py) at c.diff.ensures in
    let a_is : to_z w32 (of_z w32 c.opposite-a.result) ≡ neg_ℤ (c.args.q.y -ℤ c.args.p.y) = read_back c.opposite-a.result c.opposite-a.type_inv ∙ rw (dy_is) at c.opposite-a.ensures in
    let qx : to_z w32 (of_z w32 c.args.q.x) ≡ c.args.q.x = search rules in
    let px : to_z w32 (of_z w32 c.args.p.x) ≡ c.args.p.x = search rules in
    let b_is : to_z w32 (of_z w32 c.diff-b.result) ≡ c.args.q.x -ℤ c.args.p.x = read_back c.diff-b.result c.diff-b.type_inv ∙ rw (qx, px) at c.diff-b.ensures in
    rw (a_is, b_is, read_back c.dot-e.result c.dot-e.type_inv, c.dot-e.ensures, a_is, b_is, qx, qy)
