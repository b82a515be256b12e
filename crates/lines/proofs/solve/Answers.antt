-- `solve` meets its contract: the numbers of both lines are small, so each product, sum and quotient fits. Assumes nothing.
use borrow.Author.Rules.{rules}
use borrow.Author.Tests.{ne_eqb}
use native.Mathlib.Omega.{arith}
use native.Mathlib.Nat.{lt_of_le_of_lt}
use mathlib.Core.Path.{◌≡◌, ◌∙◌}
use Prim.Native.Nat.{◌≤◌, ◌<◌}
use lib.Dec.{lit<}
use lib.IntN.{neg_ℤ, nat_abs}
use lib.Signed.{quot_z}
use mir.Syntax.{w32}
use mir.Val.{to_z, of_z}
use Rattle.refusals.specs.Limits.{longest_side}
use Rattle.sizes.proofs.Size.{products, size_dot, size_cross, size_neg, bits_zero, bits_not, read_back}
use Rattle.lines.specs.declared.Line.{Line}
use Rattle.lines.specs.Meet.{crossing, det, largest_sum, num_x, num_y}
use Rattle.lines.proofs.solve.Goals as goal

pub cross-det-requires : goal.cross-det-requires
cross-det-requires t =
    let l : Line = t.args.l in
    let a : to_z w32 (of_z w32 l.a) ≡ l.a = search rules in
    let m : Line = t.args.m in
    let d : to_z w32 (of_z w32 m.b) ≡ m.b = search rules in
    let b : to_z w32 (of_z w32 l.b) ≡ l.b = search rules in
    let c : to_z w32 (of_z w32 m.a) ≡ m.a = search rules in
    rw (a, d, b, c)
    (lt_of_le_of_lt (products longest_side longest_side longest_side longest_side t.requires.fact_1.a_low t.requires.fact_2.b_low t.requires.fact_1.b_low t.requires.fact_2.a_low) (lit< tt))

pub returns-then-det-eq0 : goal.returns-then-det-eq0
unfolding crossing
returns-then-det-eq0 t =
    let l : Line = t.args.l in
    let m : Line = t.args.m in
    let a : to_z w32 (of_z w32 l.a) ≡ l.a = search rules in
    let d : to_z w32 (of_z w32 m.b) ≡ m.b = search rules in
    let b : to_z w32 (of_z w32 l.b) ≡ l.b = search rules in
    let c : to_z w32 (of_z w32 m.a) ≡ m.a = search rules in
    let det_is : t.cross-det.result ≡ det (l) (m) = rw (a, d, b, c) at t.cross-det.ensures in
    let z = bits_zero {z = t.cross-det.result} (record { sfits = t.cross-det.type_inv }) t.if-det-eq0.true in
    rw (← det_is, z)

pub cross-requires : goal.cross-requires
cross-requires t =
    let m : Line = t.args.m in
    let d : to_z w32 (of_z w32 m.b) ≡ m.b = search rules in
    let l : Line = t.args.l in
    let e : to_z w32 (of_z w32 l.e) ≡ l.e = search rules in
    let b : to_z w32 (of_z w32 l.b) ≡ l.b = search rules in
    let f : to_z w32 (of_z w32 m.e) ≡ m.e = search rules in
    rw (d, e, b, f)
    (lt_of_le_of_lt (products longest_side largest_sum longest_side largest_sum t.requires.fact_2.b_low t.requires.fact_1.e_low t.requires.fact_1.b_low t.requires.fact_2.e_low) (lit< tt))

pub over-x-requires : goal.over-x-requires
over-x-requires t =
    let m : Line = t.args.m in
    let l : Line = t.args.l in
    let det_back : to_z w32 (of_z w32 t.cross-det.result) ≡ t.cross-det.result = read_back t.cross-det.result t.cross-det.type_inv in
    let d : to_z w32 (of_z w32 m.b) ≡ m.b = search rules in
    let e : to_z w32 (of_z w32 l.e) ≡ l.e = search rules in
    let b : to_z w32 (of_z w32 l.b) ≡ l.b = search rules in
    let f : to_z w32 (of_z w32 m.e) ≡ m.e = search rules in
    let x_is : t.cross.result ≡ num_x (l) (m) = rw (d, e, b, f) at t.cross.ensures in
    let det_not : 0 < nat_abs t.cross-det.result = bits_not t.cross-det.result t.if-det-eq0.false in
    let low = size_cross (m).b (l).e (l).b (m).e longest_side largest_sum longest_side largest_sum t.requires.fact_2.b_low t.requires.fact_1.e_low t.requires.fact_1.b_low t.requires.fact_2.e_low in
    rw (read_back t.cross.result t.cross.type_inv, det_back)
    (rw (x_is) (lt_of_le_of_lt low (lit< tt)), det_not)

pub opposite-requires : goal.opposite-requires
opposite-requires t =
    let m : Line = t.args.m in
    let c : to_z w32 (of_z w32 m.a) ≡ m.a = search rules in
    rw (c) (lt_of_le_of_lt t.requires.fact_2.a_low (lit< tt))

pub dot-requires : goal.dot-requires
dot-requires t =
    let m : Line = t.args.m in
    let c : to_z w32 (of_z w32 m.a) ≡ m.a = search rules in
    let c_is : to_z w32 (of_z w32 t.opposite.result) ≡ neg_ℤ (m).a = read_back t.opposite.result t.opposite.type_inv ∙ rw (c) at t.opposite.ensures in
    let l : Line = t.args.l in
    let e : to_z w32 (of_z w32 l.e) ≡ l.e = search rules in
    let a : to_z w32 (of_z w32 l.a) ≡ l.a = search rules in
    let f : to_z w32 (of_z w32 m.e) ≡ m.e = search rules in
    let c_low : nat_abs (neg_ℤ (m).a) ≤ longest_side = rw (size_neg (m).a) t.requires.fact_2.a_low in
    rw (c_is, e, a, f)
    (lt_of_le_of_lt (products longest_side largest_sum longest_side largest_sum (c_low) t.requires.fact_1.e_low t.requires.fact_1.a_low t.requires.fact_2.e_low) (lit< tt))

pub over-y-requires : goal.over-y-requires
over-y-requires t =
    let m : Line = t.args.m in
    let l : Line = t.args.l in
    let c_low : nat_abs (neg_ℤ (m).a) ≤ longest_side = rw (size_neg (m).a) t.requires.fact_2.a_low in
    let det_back : to_z w32 (of_z w32 t.cross-det.result) ≡ t.cross-det.result = read_back t.cross-det.result t.cross-det.type_inv in
    let c : to_z w32 (of_z w32 m.a) ≡ m.a = search rules in
    let c_is : to_z w32 (of_z w32 t.opposite.result) ≡ neg_ℤ (m).a = read_back t.opposite.result t.opposite.type_inv ∙ rw (c) at t.opposite.ensures in
    let e : to_z w32 (of_z w32 l.e) ≡ l.e = search rules in
    let a : to_z w32 (of_z w32 l.a) ≡ l.a = search rules in
    let f : to_z w32 (of_z w32 m.e) ≡ m.e = search rules in
    let y_is : t.dot.result ≡ num_y (l) (m) = rw (c_is, e, a, f) at t.dot.ensures in
    let det_not : 0 < nat_abs t.cross-det.result = bits_not t.cross-det.result t.if-det-eq0.false in
    let low = size_dot (neg_ℤ (m).a) (l).e (l).a (m).e longest_side largest_sum longest_side largest_sum (c_low) t.requires.fact_1.e_low t.requires.fact_1.a_low t.requires.fact_2.e_low in
    rw (read_back t.dot.result t.dot.type_inv, det_back)
    (rw (y_is) (lt_of_le_of_lt low (lit< tt)), det_not)

pub returns : goal.returns
unfolding crossing
returns t =
    let det_not : 0 < nat_abs t.cross-det.result = bits_not t.cross-det.result t.if-det-eq0.false in
    let det_back : to_z w32 (of_z w32 t.cross-det.result) ≡ t.cross-det.result = read_back t.cross-det.result t.cross-det.type_inv in
    let l : Line = t.args.l in
    let m : Line = t.args.m in
    let a : to_z w32 (of_z w32 l.a) ≡ l.a = search rules in
    let d : to_z w32 (of_z w32 m.b) ≡ m.b = search rules in
    let b : to_z w32 (of_z w32 l.b) ≡ l.b = search rules in
    let c : to_z w32 (of_z w32 m.a) ≡ m.a = search rules in
    let det_is : t.cross-det.result ≡ det (l) (m) = rw (a, d, b, c) at t.cross-det.ensures in
    let e : to_z w32 (of_z w32 l.e) ≡ l.e = search rules in
    let f : to_z w32 (of_z w32 m.e) ≡ m.e = search rules in
    let x_is : t.cross.result ≡ num_x (l) (m) = rw (d, e, b, f) at t.cross.ensures in
    let c_is : to_z w32 (of_z w32 t.opposite.result) ≡ neg_ℤ (m).a = read_back t.opposite.result t.opposite.type_inv ∙ rw (c) at t.opposite.ensures in
    let y_is : t.dot.result ≡ num_y (l) (m) = rw (c_is, e, a, f) at t.dot.ensures in
    let n : nat_abs t.cross-det.result ≡ 0 → ⊥ = let h = det_not in λ z. omega arith in
    let ex : t.over-x.result ≡ quot_z t.cross.result t.cross-det.result =
    rw (read_back t.cross.result t.cross.type_inv, det_back) at t.over-x.ensures in
    let ey : t.over-y.result ≡ quot_z t.dot.result t.cross-det.result =
    rw (read_back t.dot.result t.dot.type_inv, det_back) at t.over-y.ensures in
    rw (← det_is, ne_eqb _ 0 n, read_back t.over-x.result t.over-x.type_inv, read_back t.over-y.result t.over-y.type_inv, ex, ey, x_is, y_is)
