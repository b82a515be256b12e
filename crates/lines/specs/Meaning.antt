-- What an answer of `line_intersect` means: said of the lines themselves, and not of how their point is found. The source is geometry. Assumes nothing.
use Rattle.std.specs.Prelude.{◌+◌, ◌*◌, ◌≤◌, ◌<◌, ◌≡◌, T, ℤ, nat_abs, ◌-ℤ◌, ◌*ℤ◌, Option, Some, None}
use Rattle.std.specs.Int.Signed.{non_neg}
use Rattle.points.specs.declared.Point.{Point}

-- the line through p0 and p1 has the direction of the one through q0 and q1; points that coincide make no line, and count as parallel to any
abbrev pub Parallel : Point → Point → Point → Point → Type 0
Parallel p0 p1 q0 q1 = (p1.x -ℤ p0.x) *ℤ (q1.y -ℤ q0.y) ≡ (p1.y -ℤ p0.y) *ℤ (q1.x -ℤ q0.x)

-- the point (x / w, y / w) is on the line through p and q: the way from p to it has the direction of the way from p to q
abbrev pub On : Point → Point → ℤ → ℤ → ℤ → Type 0
On p q x y w = (x -ℤ w *ℤ p.x) *ℤ (q.y -ℤ p.y) ≡ (y -ℤ w *ℤ p.y) *ℤ (q.x -ℤ p.x)

-- c is the quotient n / d, cut toward zero: c times d goes into n and one more would not (`low`, `high`), and c has the quotient's sign or is 0 (`side`)
pub record Cut (n d c : ℤ) : Type 0 where
  pub low : nat_abs c * nat_abs d ≤ nat_abs n
  pub high : nat_abs n < (nat_abs c + 1) * nat_abs d
  pub side : T (non_neg (c *ℤ (n *ℤ d)))

-- the lines are not parallel (`apart`), (x / w, y / w) with w not 0 is the point of both, and r is that point, each coordinate cut toward zero
pub record Crossing (p0 p1 q0 q1 r : Point) : Type 0 where
  pub apart : Parallel p0 p1 q0 q1 → ⊥
  pub x : ℤ
  pub y : ℤ
  pub w : ℤ
  pub whole : 0 < nat_abs w
  pub on_p : On p0 p1 x y w
  pub on_q : On q0 q1 x y w
  pub x_cut : Cut x w r.x
  pub y_cut : Cut y w r.y

-- what an answer says of the line through p0 and p1 and the one through q0 and q1
abbrev pub Said : Point → Point → Point → Point → Option Point → Type 0
Said p0 p1 q0 q1 None = Parallel p0 p1 q0 q1
Said p0 p1 q0 q1 (Some r) = Crossing p0 p1 q0 q1 r
