-- What a step's answer says, for callers that do not open `step_of`: a scan stays in range, and comes nearer to its end. Assumes nothing.
use Prim.Native.Nat.{ℕ, zero, suc, ◌+◌, ◌-◌, ◌≤◌, ◌<◌, zero-le}
use native.Mathlib.Omega.{arith}
use borrow.Author.Tests.{le-ltb, ltb-true, ltb-false, leb-true, leb-false}
use mathlib.Core.Path.{◌≡◌, refl, sym, ap, ◌∙◌}
use mathlib.Core.Bool.{Bool, true, false, cond}
use mathlib.Core.Logic.{◌⊎◌, ⊎_elim, inl, inr}
use mathlib.Core.List.{[], ◌∷◌}
use lib.Dec.{leb, ltb, lit≤}
use lib.IntN.{ℤ, pos, nat_abs, ◌+ℤ◌, ◌-ℤ◌}
use Rattle.std.specs.Prelude.{Option, Some, None}
use Rattle.refusals.specs.Limits.{farthest}
use Rattle.points.specs.declared.Point.{Point}
use Rattle.points.specs.Range.{Near}
use Rattle.sizes.proofs.Size.{size_add, size_sub}
use Rattle.scans.specs.declared.BresenhamScan.{BresenhamScan}
use Rattle.scans.specs.Scan.{start_of, scan_of, placed_by, moved_by, next_of, here, step_of, Good}
use Rattle.scans.specs.Points.{after, points_of, points}
use Rattle.scans.proofs.Direction.{way_low}

-- ---- a scan stays in range
start_good : (p : Point) (lead side : ℤ) (xleads : Bool) → Near p → nat_abs lead ≤ farthest + farthest → nat_abs side ≤ nat_abs lead → Good (start_of p lead side xleads)
unfolding start_of
start_good p lead side xleads f g h =
    record {
      d_low = g;
      n_low = h;
      a_low = h;
      i_low = zero-le;
      x_low = f.x_low;
      y_low = f.y_low;
      dom_low = way_low lead;
      non_low = way_low side;
    }

pub new_good : (p q : Point) → Near p → Near q → Good (scan_of p q)
unfolding scan_of
new_good p q f g = go (ltb (nat_abs down) (nat_abs across)) (ltb-true (nat_abs down) (nat_abs across)) (ltb-false (nat_abs down) (nat_abs across))
  where
    across : ℤ
    across = q.x -ℤ p.x

    down : ℤ
    down = q.y -ℤ p.y

    go : (t : Bool) → (t ≡ true → nat_abs down < nat_abs across) → (t ≡ false → nat_abs across ≤ nat_abs down) → Good (cond t (start_of p across down true) (start_of p down across false))
    go true a b = let k = a refl in let h = size_sub q.x p.x in start_good p across down true f (omega arith) (omega arith)
    go false a b = let k = b refl in let h = size_sub q.y p.y in start_good p down across false f (omega arith) (omega arith)

module _ (s : BresenhamScan) (g : Good s) (more : s.i ≤ s.d) where
  placed_good : (dx dy : ℤ) (left : ℕ) → nat_abs dx ≤ 1 → nat_abs dy ≤ 1 → left ≤ s.d → Good (placed_by s dx dy left)
  unfolding placed_by
  placed_good dx dy left p q h =
      let sx = size_add s.x dx in
      let sy = size_add s.y dy in
      record {
        d_low = g.d_low;
        n_low = g.n_low;
        a_low = h;
        i_low = omega arith;
        x_low = let k = g.x_low in omega arith;
        y_low = let k = g.y_low in omega arith;
        dom_low = g.dom_low;
        non_low = g.non_low;
      }

  moved_good : (off : ℤ) (left : ℕ) → nat_abs off ≤ 1 → left ≤ s.d → Good (moved_by s off left)
  unfolding moved_by
  moved_good off left p h = go s.xdom
    where
      go : (t : Bool) → Good (cond t (placed_by s s.domstep off left) (placed_by s off s.domstep left))
      go true = placed_good s.domstep off left g.dom_low p h
      go false = placed_good off s.domstep left p g.dom_low h

  pub next_good : Good (next_of s)
  unfolding next_of
  next_good = go (leb s.d (s.a + s.n)) (leb-false s.d (s.a + s.n))
    where
      go : (t : Bool) → (t ≡ false → s.a + s.n < s.d) → Good (cond t (moved_by s s.nonstep (s.a + s.n - s.d)) (moved_by s (pos 0) (s.a + s.n)))
      go true f = let k = g.a_low in let l = g.n_low in moved_good s.nonstep (s.a + s.n - s.d) g.non_low (omega arith)
      go false f = let k = f refl in moved_good (pos 0) (s.a + s.n) (lit≤ tt) (omega arith)

-- ---- what a move changes, whichever direction leads
abbrev pub lead_of : Bool → Point → ℤ
lead_of xleads p = cond xleads p.x p.y

abbrev pub side_of : Bool → Point → ℤ
side_of xleads p = cond xleads p.y p.x

-- t is s, one on in the leading direction and `off` in the other, with `left` gathered
pub record Moved (s : BresenhamScan) (off : ℤ) (left : ℕ) (t : BresenhamScan) : Type 0 where
  pub d_same : t.d ≡ s.d
  pub n_same : t.n ≡ s.n
  pub dom_same : t.domstep ≡ s.domstep
  pub non_same : t.nonstep ≡ s.nonstep
  pub xdom_same : t.xdom ≡ s.xdom
  pub i_next : t.i ≡ s.i + 1
  pub a_left : t.a ≡ left
  pub lead_on : lead_of s.xdom (here t) ≡ lead_of s.xdom (here s) +ℤ s.domstep
  pub side_on : side_of s.xdom (here t) ≡ side_of s.xdom (here s) +ℤ off

moved_is : (s : BresenhamScan) (off : ℤ) (left : ℕ) → Moved s off left (moved_by s off left)
unfolding moved_by placed_by
moved_is s off left =
    let f = fields s.xdom in
    record { d_same = f.0; n_same = f.1; dom_same = f.2; non_same = f.3; xdom_same = f.4; i_next = f.5; a_left = f.6; lead_on = f.7; side_on = f.8 }
  where
    to : Bool → BresenhamScan
    to t = cond t (placed_by s s.domstep off left) (placed_by s off s.domstep left)

    fields : (t : Bool) → ((to t).d ≡ s.d) × ((to t).n ≡ s.n) × ((to t).domstep ≡ s.domstep) × ((to t).nonstep ≡ s.nonstep) × ((to t).xdom ≡ s.xdom) × ((to t).i ≡ s.i + 1) × ((to t).a ≡ left)
        × (lead_of t (here (to t)) ≡ lead_of t (here s) +ℤ s.domstep) × (side_of t (here (to t)) ≡ side_of t (here s) +ℤ off)
    fields true = (refl, refl, refl, refl, refl, refl, refl, refl, refl)
    fields false = (refl, refl, refl, refl, refl, refl, refl, refl, refl)

-- a step in the other direction is made exactly where enough has gathered
pub next_is : (s : BresenhamScan) → ((s.d ≤ s.a + s.n) × Moved s s.nonstep (s.a + s.n - s.d) (next_of s)) ⊎ ((s.a + s.n < s.d) × Moved s (pos 0) (s.a + s.n) (next_of s))
unfolding next_of
next_is s = go (leb s.d (s.a + s.n)) (leb-true s.d (s.a + s.n)) (leb-false s.d (s.a + s.n))
  where
    to : Bool → BresenhamScan
    to t = cond t (moved_by s s.nonstep (s.a + s.n - s.d)) (moved_by s (pos 0) (s.a + s.n))

    go : (t : Bool) → (t ≡ true → s.d ≤ s.a + s.n) → (t ≡ false → s.a + s.n < s.d)
        → ((s.d ≤ s.a + s.n) × Moved s s.nonstep (s.a + s.n - s.d) (to t)) ⊎ ((s.a + s.n < s.d) × Moved s (pos 0) (s.a + s.n) (to t))
    go true f g = inl (f refl, moved_is s s.nonstep (s.a + s.n - s.d))
    go false f g = inr (g refl, moved_is s (pos 0) (s.a + s.n))

pub next_d : (s : BresenhamScan) → (next_of s).d ≡ s.d
next_d s = ⊎_elim (λ m. m.1.d_same) (λ m. m.1.d_same) (next_is s)

pub next_i : (s : BresenhamScan) → (next_of s).i ≡ s.i + 1
next_i s = ⊎_elim (λ m. m.1.i_next) (λ m. m.1.i_next) (next_is s)

-- ---- what a step answers
pub record Next (s : BresenhamScan) (p : Point) (t : BresenhamScan) : Type 0 where
  pub more : s.i ≤ s.d
  pub seen : p ≡ here s
  pub next : t ≡ next_of s
  pub d_same : t.d ≡ s.d
  pub i_next : t.i ≡ s.i + 1

pub step_is : (s : BresenhamScan) → s.i ≤ s.d → step_of s ≡ (Some (here s), next_of s)
unfolding step_of
step_is s h = rw (le-ltb s.d s.i h)

pub step_seen : (s : BresenhamScan) (p : Point) (t : BresenhamScan) → step_of s ≡ (Some p, t) → Next s p t
unfolding step_of
step_seen s p t h = go (ltb s.d s.i) (ltb-false s.d s.i) h
  where
    from_next : s.i ≤ s.d → p ≡ here s → t ≡ next_of s → Next s p t
    from_next l ep et =
        record {
          more = l;
          seen = ep;
          next = et;
          d_same = ap (λ (u : BresenhamScan). u.d) et ∙ next_d s;
          i_next = ap (λ (u : BresenhamScan). u.i) et ∙ next_i s;
        }

    go : (b : Bool) → (b ≡ false → s.i ≤ s.d) → ◌≡◌ {A = Option Point × BresenhamScan} (cond b (None, s) (Some (here s), next_of s)) (Some p, t) → Next s p t
    go true f h =
        let none : ◌≡◌ {A = Option Point} None (Some p) = ap (λ (u : Option Point × BresenhamScan). u.0) h in
        let z : ◌≡◌ {A = ℕ} 0 1 = cc in
        let y : ⊥ = omega arith in absurd y
    go false f h =
        let some : Some (here s) ≡ Some p = ap (λ (u : Option Point × BresenhamScan). u.0) h in
        from_next (f refl) (cc) (sym (ap (λ (u : Option Point × BresenhamScan). u.1) h))

pub step_done : (s t : BresenhamScan) → step_of s ≡ (None, t) → s.d < s.i
unfolding step_of
step_done s t h = go (ltb s.d s.i) (ltb-true s.d s.i) h
  where
    go : (b : Bool) → (b ≡ true → s.d < s.i) → ◌≡◌ {A = Option Point × BresenhamScan} (cond b (None, s) (Some (here s), next_of s)) (None, t) → s.d < s.i
    go true f h = f refl
    go false f h =
        let none : ◌≡◌ {A = Option Point} (Some (here s)) None = ap (λ (u : Option Point × BresenhamScan). u.0) h in
        let z : ◌≡◌ {A = ℕ} 0 1 = cc in omega arith

pub step_good : (s : BresenhamScan) (p : Point) (t : BresenhamScan) → Good s → step_of s ≡ (Some p, t) → Good t
step_good s p t g h = let n = step_seen s p t h in rw n.next (next_good s g n.more)

-- ---- the points of a scan, by its steps: nothing is left out
pub points_seen : (s : BresenhamScan) (p : Point) (t : BresenhamScan) → step_of s ≡ (Some p, t) → points s ≡ p ∷ points t
unfolding points points_of after
points_seen s p t h =
    let n = step_seen s p t h in
    let e : s.d + 1 - s.i ≡ suc (t.d + 1 - t.i) = let m = n.more in let d = n.d_same in let i = n.i_next in omega arith in
    rw (e, h)

pub points_done : (s t : BresenhamScan) → step_of s ≡ (None, t) → points s ≡ []
unfolding points points_of
points_done s t h =
    let l = step_done s t h in
    let e : s.d + 1 - s.i ≡ zero = omega arith in
    rw e
