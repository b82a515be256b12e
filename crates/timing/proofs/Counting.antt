-- A scan counts its changes point by point: what is counted, and what is ahead, is all that its bytes change. Assumes nothing.
use Prim.Native.Nat.{ℕ, ◌+◌, ◌≤◌, zero-le}
use native.Mathlib.Nat.{add-zero, zero-add}
use native.Mathlib.Omega.{arith}
use borrow.Author.Tests.{eq-eqb}
use mathlib.Core.Path.{◌≡◌, refl, sym, ◌∙◌}
use mathlib.Core.Bool.{Bool, true, false, cond}
use mathlib.Core.List.{List, [], ◌∷◌, map}
use lib.Dec.{eqb}
use lib.ListN.{length, length-map}
use Rattle.std.specs.Prelude.{Some, None}
use Rattle.points.specs.declared.Point.{Point}
use Rattle.points.specs.Range.{Near}
use Rattle.sizes.proofs.Size.{size_sub}
use Rattle.pixels.specs.Nearest.{shown_at}
use Rattle.scans.specs.declared.BresenhamScan.{BresenhamScan}
use Rattle.scans.specs.Scan.{Good, scan_of, step_of}
use Rattle.scans.specs.Points.{points}
use Rattle.scans.proofs.Steps.{step_seen, step_good, points_seen, points_done}
use Rattle.scans.proofs.Walk.{scan_walks}
use Rattle.timing.specs.Changes.{change, changes_after, changes, bytes_along}
use Rattle.timing.specs.Counted.{most_changes}

one_at_most : (a b : ℕ) → change a b ≤ 1
one_at_most a b = go (eqb a b)
  where
    go : (t : Bool) → cond t 0 1 ≤ 1
    go true = zero-le
    go false = omega arith

-- the byte that a list starts with is no change
same_start : (b : ℕ) (bs : List ℕ) → changes_after b (b ∷ bs) ≡ changes (b ∷ bs)
unfolding changes_after changes
same_start b bs = rw (eq-eqb b b refl) (zero-add (changes_after b bs))

module _ (pic : List ℕ) (width height : ℕ) where
  -- the bytes at some points
  abbrev bytes : List Point → List ℕ
  bytes = map (shown_at pic width height)

  -- a scan that was s, and is t now, has counted so many changes from the byte `first` to `previous`
  pub record Counting (first previous count : ℕ) (s t : BresenhamScan) : Type 0 where
    pub all : count + changes_after previous (bytes (points t)) ≡ changes_after first (bytes (points s))
    pub few : count ≤ t.i
    pub good : Good t

  pub none_counted : (first : ℕ) (s : BresenhamScan) → Good s → Counting first first 0 s s
  none_counted first s good = record { all = zero-add (changes_after first (bytes (points s))); few = zero-le; good = good }

  module _ {first previous count : ℕ} {s t : BresenhamScan} (c : Counting first previous count s t) where
    -- a point that is seen counts where its byte differs from the one before
    pub one_counted : {p : Point} {u : BresenhamScan} {pixel one : ℕ} → step_of t ≡ (Some p, u) → pixel ≡ shown_at pic width height p → one ≡ change previous pixel → Counting first pixel (count + one) s u
    unfolding changes_after
    one_counted {p} {u} {pixel} {one} step shown is =
        let next = step_seen t p u step in
        let all = rw (points_seen t p u step, ← shown) at c.all in
        let low = one_at_most previous pixel in
        let few = c.few in
        record { all = omega (arith, all, is); few = omega (arith, next.i_next, is); good = step_good t p u c.good step }

    -- once the scan is done, all is counted
    pub all_counted : (from to : Point) {u : BresenhamScan} → first ≡ shown_at pic width height from → s ≡ scan_of from to → step_of t ≡ (None, u) → count ≡ changes (bytes_along pic width height from to)
    unfolding changes_after bytes_along
    all_counted from to {u} shown made done =
        let start = (scan_walks from to).first in
        let all = rw (points_done t u done, made, start.1, shown) at c.all in
        let whole = same_start (shown_at pic width height from) (bytes start.0) in
        rw start.1 (sym (add-zero count) ∙ all ∙ whole)

-- ---- how many changes there can be

no_more_than : (a : ℕ) (bs : List ℕ) → changes_after a bs ≤ length bs
unfolding changes_after
no_more_than a [] = zero-le
no_more_than a (b ∷ bs) = let rest = no_more_than b bs in let low = one_at_most a b in omega arith

-- one less than there are bytes
below_length : (bs : List ℕ) {n : ℕ} → length bs ≡ n + 1 → changes bs ≤ n
unfolding changes
below_length [] e = absurd (omega arith)
below_length (b ∷ bs) e = let few = no_more_than b bs in omega arith

-- a scan between stated points counts no more than the limit
pub changes_few : (pic : List ℕ) (width height : ℕ) (from to : Point) → Near from → Near to → changes (bytes_along pic width height from to) ≤ most_changes
unfolding bytes_along
changes_few pic width height from to f t =
    let across = size_sub to.x from.x in
    let down = size_sub to.y from.y in
    let many = length-map (points (scan_of from to)) (shown_at pic width height) ∙ (scan_walks from to).count in
    let few = below_length (map (shown_at pic width height) (points (scan_of from to))) many in
    let fx = f.x_low in
    let fy = f.y_low in
    let tx = t.x_low in
    let ty = t.y_low in
    omega arith
