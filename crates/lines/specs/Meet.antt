-- Where two lines meet, as geometry.rs computes it. Assumes nothing.
use Rattle.std.specs.Prelude.{ℕ, ◌+◌, ◌*◌, ◌≤◌, cond, eqb, ℤ, neg_ℤ, nat_abs, ◌+ℤ◌, ◌-ℤ◌, ◌*ℤ◌, Option, Some, None}
use Rattle.std.specs.Int.Signed.{quot_z}
use Rattle.refusals.specs.Limits.{longest_side}
use Rattle.points.specs.declared.Point.{Point}
use Rattle.lines.specs.declared.Line.{Line}

-- the line a x + b y = e through p and q
unfoldable pub line_of : Point → Point → Line
line_of p q =
    let a = neg_ℤ (q.y -ℤ p.y) in
    let b = q.x -ℤ p.x in
    record { a = a; b = b; e = a *ℤ q.x +ℤ b *ℤ q.y }

-- the determinant of two lines, and the two numerators of Cramer's rule
abbrev pub det : Line → Line → ℤ
det l m = l.a *ℤ m.b -ℤ l.b *ℤ m.a

abbrev pub num_x : Line → Line → ℤ
num_x l m = m.b *ℤ l.e -ℤ l.b *ℤ m.e

abbrev pub num_y : Line → Line → ℤ
num_y l m = neg_ℤ m.a *ℤ l.e +ℤ l.a *ℤ m.e

-- nowhere where the determinant is 0, else Cramer's quotients, each cut toward zero
unfoldable pub crossing : Line → Line → Option Point
crossing l m =
    cond (eqb (nat_abs (det l m)) 0) None
    (Some (record { x = quot_z (num_x l m) (det l m); y = quot_z (num_y l m) (det l m) }))

unfoldable pub meet_of : Point → Point → Point → Point → Option Point
meet_of p0 p1 q0 q1 = crossing (line_of p0 p1) (line_of q0 q1)

-- two products of coordinates of a picture, and their sum
abbrev pub largest_sum : ℕ
largest_sum = longest_side * longest_side + longest_side * longest_side

-- the numbers of a line through two pixels: what keeps each number of the solution an `i32`
pub record Small (l : Line) : Type 0 where
  pub a_low : nat_abs l.a ≤ longest_side
  pub b_low : nat_abs l.b ≤ longest_side
  pub e_low : nat_abs l.e ≤ largest_sum
