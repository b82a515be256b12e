-- How large the numbers of a line through two pixels are. Assumes nothing.
use Prim.Native.Nat.{◌≤◌}
use native.Mathlib.Omega.{arith}
use lib.IntN.{ℤ, neg_ℤ, nat_abs, ◌-ℤ◌}
use Rattle.refusals.specs.Limits.{longest_side}
use Rattle.points.specs.declared.Point.{Point}
use Rattle.points.specs.Range.{Inside, Within}
use Rattle.sizes.proofs.Size.{size_inside, size_neg, size_dot}
use Rattle.lines.specs.Meet.{line_of, Small}

pub inside_low : (x : ℤ) → Inside x → nat_abs x ≤ longest_side
inside_low x p = let k = p.low in rw p.is (omega arith)

pub diff_low : (x y : ℤ) → Inside x → Inside y → nat_abs (x -ℤ y) ≤ longest_side
diff_low x y p q =
    let h = size_inside p.n q.n in
    let k = p.low in
    let l = q.low in
    rw (p.is, q.is) (omega arith)

pub line_small : (p q : Point) → Within p → Within q → Small (line_of p q)
unfolding line_of
line_small p q f g =
    let a : nat_abs (neg_ℤ (q.y -ℤ p.y)) ≤ longest_side = rw (size_neg (q.y -ℤ p.y)) (diff_low q.y p.y g.y f.y) in
    let b = diff_low q.x p.x g.x f.x in
    record {
      a_low = a;
      b_low = b;
      e_low = size_dot (neg_ℤ (q.y -ℤ p.y)) q.x (q.x -ℤ p.x) q.y longest_side longest_side longest_side longest_side a (inside_low q.x g.x) b (inside_low q.y g.y);
    }
