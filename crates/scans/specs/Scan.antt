-- A scan as a state and a step, taken from `BresenhamScan` of geometry.rs. Assumes nothing.
use Rattle.std.specs.Prelude.{ℕ, ◌+◌, ◌-◌, ◌≤◌, Bool, true, false, cond, ltb, leb, ℤ, pos, negsuc, nat_abs, ◌+ℤ◌, ◌-ℤ◌, Option, Some, None}
use Rattle.refusals.specs.Limits.{farthest}
use Rattle.points.specs.declared.Point.{Point}
use Rattle.scans.specs.declared.BresenhamScan.{BresenhamScan}

-- one step in a number's direction; 0 counts as positive
unfoldable pub way_of : ℤ → ℤ
way_of (pos n) = pos 1
way_of (negsuc n) = negsuc 0

-- at p, with `lead` to go in the leading direction, which is x's or not, and `side` in the other
unfoldable pub start_of : Point → ℤ → ℤ → Bool → BresenhamScan
start_of p lead side xleads =
    record {
      x = p.x;
      y = p.y;
      domstep = way_of lead;
      nonstep = way_of side;
      i = 0;
      d = nat_abs lead;
      n = nat_abs side;
      a = nat_abs side;
      xdom = xleads;
    }

-- from p to q: x leads only where its distance is the larger
unfoldable pub scan_of : Point → Point → BresenhamScan
scan_of p q =
    let across = q.x -ℤ p.x in
    let down = q.y -ℤ p.y in
    cond (ltb (nat_abs down) (nat_abs across)) (start_of p across down true) (start_of p down across false)

-- moved by (dx, dy), with `left` gathered
unfoldable pub placed_by : BresenhamScan → ℤ → ℤ → ℕ → BresenhamScan
placed_by s dx dy left =
    record {
      x = s.x +ℤ dx;
      y = s.y +ℤ dy;
      domstep = s.domstep;
      nonstep = s.nonstep;
      i = s.i + 1;
      d = s.d;
      n = s.n;
      a = left;
      xdom = s.xdom;
    }

-- one on in the leading direction, and `off` in the other
unfoldable pub moved_by : BresenhamScan → ℤ → ℕ → BresenhamScan
moved_by s off left = cond s.xdom (placed_by s s.domstep off left) (placed_by s off s.domstep left)

-- a step in the other direction costs d of what has gathered
unfoldable pub next_of : BresenhamScan → BresenhamScan
next_of s =
    let a = s.a + s.n in
    cond (leb s.d a) (moved_by s s.nonstep (a - s.d)) (moved_by s (pos 0) a)

-- the point where a scan stands
abbrev pub here : BresenhamScan → Point
here s = record { x = s.x; y = s.y }

-- the point where it stands, and the scan one step on; no point once i has passed d
unfoldable pub step_of : BresenhamScan → Option Point × BresenhamScan
step_of s = cond (ltb s.d s.i) (None, s) (Some (here s), next_of s)

-- what keeps a scan's numbers in range
pub record Good (s : BresenhamScan) : Type 0 where
  pub d_low : s.d ≤ farthest + farthest
  pub n_low : s.n ≤ s.d
  pub a_low : s.a ≤ s.d
  pub i_low : s.i ≤ s.d + 1
  pub x_low : nat_abs s.x ≤ farthest + s.i
  pub y_low : nat_abs s.y ≤ farthest + s.i
  pub dom_low : nat_abs s.domstep ≤ 1
  pub non_low : nat_abs s.nonstep ≤ 1
