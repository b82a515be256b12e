-- A scan's points, written one behind the other into a lent slice. Assumes nothing.
use Prim.Native.Nat.{ℕ, zero, suc, ◌+◌, ◌-◌, ◌*◌, ◌≤◌}
use native.Mathlib.Omega.{arith}
use mathlib.Core.Path.{◌≡◌, refl, sym, ap, ◌∙◌}
use mathlib.Core.Bool.{Bool, true, false, cond}
use mathlib.Core.List.{List, [], ◌∷◌, ◌++◌, append_assoc, append-nil}
use lib.Dec.{ltb}
use lib.IntN.{ℤ, nat_abs, ◌-ℤ◌}
use lib.ListN.{length, drop, set, length-append, length-drop}
use Rattle.std.specs.Prelude.{Some, None}
use Rattle.points.specs.declared.Point.{Point}
use Rattle.scans.specs.declared.BresenhamScan.{BresenhamScan}
use Rattle.scans.specs.Scan.{Good, start_of, scan_of, here, next_of, step_of}
use Rattle.scans.specs.Points.{points_of, points}
use Rattle.scans.proofs.Steps.{next_d, next_i, step_is, step_good, points_seen, points_done}
use Rattle.told_lines.specs.Answers.{flat}
use Rattle.told.proofs.Tell.{stored_two}

-- from `before`, the points that stand in `after` and those that t has still to see are all that s had
pub record Written (before after : List ℤ) (at : ℕ) (s t : BresenhamScan) : Type 0 where
  pub seen : List ℤ
  pub places : at ≡ length seen
  pub put : after ≡ seen ++ drop (length seen) before
  pub all : seen ++ flat (points t) ≡ flat (points s)
  pub good : Good t

pub none_written : (before : List ℤ) (s : BresenhamScan) → Good s → Written before before 0 s s
none_written before s good = record { seen = []; places = refl; put = refl; all = refl; good = good }

module _ {before after : List ℤ} {at : ℕ} {s t : BresenhamScan} (w : Written before after at s t) where
  -- a scan that is done has written them all
  pub all_written : {u : BresenhamScan} → step_of t ≡ (None, u) → after ≡ flat (points s) ++ drop (length (flat (points s))) before
  unfolding flat
  all_written {u} done =
      let none : flat (points t) ≡ [] = rw (points_done t u done) in
      let whole : w.seen ≡ flat (points s) = sym (append-nil w.seen) ∙ rw none at w.all in
      rw whole at w.put

  -- the slice keeps its length
  pub same_room : length (flat (points s)) ≤ length before → length after ≡ length before
  same_room enough =
      let total = sym (length-append w.seen (flat (points t))) ∙ ap length w.all in
      let held = ap length w.put ∙ length-append w.seen (drop (length w.seen) before) in
      let rest = length-drop (length w.seen) before in
      omega arith

  module _ {p : Point} {u : BresenhamScan} (step : step_of t ≡ (Some p, u)) where
    left : (w.seen ++ (p.x ∷ p.y ∷ flat (points u))) ≡ flat (points s)
    unfolding flat
    left = rw (points_seen t p u step) at w.all

    -- one that sees a point has two places for it
    pub two_left : length (flat (points s)) ≤ length before → at + 2 ≤ length after
    two_left enough =
        let total = sym (length-append w.seen (p.x ∷ p.y ∷ flat (points u))) ∙ ap length left in
        let same = same_room enough in
        let h = w.places in
        omega arith

    -- and writes it there
    pub more_written : length (flat (points s)) ≤ length before → Written before (set (set after at p.x) (at + 1) p.y) (at + 2) s u
    more_written enough =
        let total = sym (length-append w.seen (p.x ∷ p.y ∷ flat (points u))) ∙ ap length left in
        let two = stored_two w.seen p.x p.y before (omega arith) in
        let next : at + 1 ≡ suc (length w.seen) = let h = w.places in omega arith in
        let wider : suc (suc (length w.seen)) ≡ length (w.seen ++ (p.x ∷ p.y ∷ [])) = let h = length-append w.seen (p.x ∷ p.y ∷ []) in omega arith in
        record {
          seen = w.seen ++ (p.x ∷ p.y ∷ []);
          places = let h = w.places in omega arith;
          put = rw (next, w.places, w.put) (two ∙ rw wider refl);
          all = append_assoc w.seen (p.x ∷ p.y ∷ []) (flat (points u)) ∙ left;
          good = step_good t p u w.good step;
        }

-- ---- how many points there are

points_length : (k : ℕ) (s : BresenhamScan) → s.d + 1 - s.i ≡ k → length (points s) ≡ k
unfolding points points_of
points_length zero s e = rw e
points_length (suc k) s e =
    let d = next_d s in
    let i = next_i s in
    let rest : (next_of s).d + 1 - (next_of s).i ≡ k = omega arith in
    rw (points_seen s (here s) (next_of s) (step_is s (omega arith))) (ap suc (points_length k (next_of s) rest))

flat_length : (ps : List Point) → length (flat ps) ≡ 2 * length ps
unfolding flat
flat_length [] = refl
flat_length (p ∷ ps) = let h = flat_length ps in omega arith

starts : (p q : Point) → (scan_of p q).i ≡ 0
unfolding scan_of start_of
starts p q = go (ltb (nat_abs (q.y -ℤ p.y)) (nat_abs (q.x -ℤ p.x)))
  where
    go : (t : Bool) → (cond t (start_of p (q.x -ℤ p.x) (q.y -ℤ p.y) true) (start_of p (q.y -ℤ p.y) (q.x -ℤ p.x) false)).i ≡ 0
    go true = refl
    go false = refl

-- two numbers for each step, and for the first point
pub scan_length : (p q : Point) → length (flat (points (scan_of p q))) ≡ 2 * ((scan_of p q).d + 1)
scan_length p q =
    let i = starts p q in
    let numbers = flat_length (points (scan_of p q)) in
    let steps = points_length ((scan_of p q).d + 1 - (scan_of p q).i) (scan_of p q) refl in
    omega arith
