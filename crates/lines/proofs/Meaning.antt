-- An answer of `line_intersect` says what is true of the two lines, and no other answer does. Assumes nothing.
use Rattle.std.specs.Prelude.{Option, Some, None}
use Prim.Native.Nat.{ℕ, zero, suc, ◌<◌}
use native.Mathlib.Omega.{arith}
use borrow.Author.Tests.{eqb-true, eqb-false}
use mathlib.Core.Path.{◌≡◌, refl, sym, ap, ◌∙◌}
use mathlib.Core.Bool.{Bool, true, false, cond}
use mathlib.Core.List.{[], ◌∷◌}
use lib.Dec.{eqb}
use lib.IntN.{nat_abs, ◌-ℤ◌, ◌*ℤ◌}
use lib.Signed.{quot_z}
use Rattle.points.specs.declared.Point.{Point}
use Rattle.sizes.proofs.Size.{size_zero}
use Rattle.sizes.proofs.Algebra.{same_terms, var, ⊝, ◌⊖◌, ◌⊗◌, equal, no_diff}
use Rattle.lines.specs.declared.Line.{Line}
use Rattle.lines.specs.Meet.{line_of, det, num_x, num_y, crossing, meet_of}
use Rattle.lines.specs.Meaning.{Parallel, Cut, Crossing, Said}
use Rattle.lines.proofs.Cramer.{Solves, on_solves, solves_on, cramer_first, cramer_second, same_x, same_y}
use Rattle.lines.proofs.Cut.{quot_cut, cut_only, cut_same}

module _ (p0 p1 q0 q1 : Point) where
  abbrev lp : Line
  lp = line_of p0 p1

  abbrev lq : Line
  lq = line_of q0 q1

  -- the determinant is 0 exactly where the lines are parallel
  det_is : det lp lq ≡ (p1.x -ℤ p0.x) *ℤ (q1.y -ℤ q0.y) -ℤ (p1.y -ℤ p0.y) *ℤ (q1.x -ℤ q0.x)
  unfolding line_of
  det_is =
      same_terms ((p1.y -ℤ p0.y) ∷ (p1.x -ℤ p0.x) ∷ (q1.y -ℤ q0.y) ∷ (q1.x -ℤ q0.x) ∷ [])
      (⊝ (var 0) ⊗ var 3 ⊖ var 1 ⊗ ⊝ (var 2))
      (var 1 ⊗ var 2 ⊖ var 0 ⊗ var 3)
      refl

  flat_parallel : nat_abs (det lp lq) ≡ 0 → Parallel p0 p1 q0 q1
  flat_parallel h = equal (sym det_is ∙ size_zero (det lp lq) h)

  parallel_flat : Parallel p0 p1 q0 q1 → nat_abs (det lp lq) ≡ 0
  parallel_flat h = ap nat_abs (det_is ∙ no_diff h)

  apart_det : (Parallel p0 p1 q0 q1 → ⊥) → 0 < nat_abs (det lp lq)
  apart_det f = go (nat_abs (det lp lq)) (λ z. f (flat_parallel z))
    where
      go : (n : ℕ) → (n ≡ 0 → ⊥) → 0 < n
      go zero f = absurd (f refl)
      go (suc n) f = omega arith

  -- a crossing cuts Cramer's quotients
  module _ (r : Point) (t : Crossing p0 p1 q0 q1 r) where
    solves_p : Solves lp t.x t.y t.w
    solves_p = on_solves p0 p1 t.x t.y t.w t.on_p

    solves_q : Solves lq t.x t.y t.w
    solves_q = on_solves q0 q1 t.x t.y t.w t.on_q

    x_of : Cut (num_x lp lq) (det lp lq) r.x
    x_of = cut_same t.x t.w _ _ _ (same_x lp lq t.x t.y t.w solves_p solves_q) t.whole (apart_det t.apart) t.x_cut

    y_of : Cut (num_y lp lq) (det lp lq) r.y
    y_of = cut_same t.y t.w _ _ _ (same_y lp lq t.x t.y t.w solves_p solves_q) t.whole (apart_det t.apart) t.y_cut

  -- the answer is true
  pub meet_true : Said p0 p1 q0 q1 (meet_of p0 p1 q0 q1)
  unfolding meet_of crossing
  meet_true = go (eqb (nat_abs (det lp lq)) 0) (eqb-true (nat_abs (det lp lq)) 0) (eqb-false (nat_abs (det lp lq)) 0)
    where
      go : (s : Bool) → (s ≡ true → nat_abs (det lp lq) ≡ 0) → (s ≡ false → nat_abs (det lp lq) ≡ 0 → ⊥)
          → Said p0 p1 q0 q1 (cond s None (Some (record { x = quot_z (num_x lp lq) (det lp lq); y = quot_z (num_y lp lq) (det lp lq) })))
      go true f g = flat_parallel (f refl)
      go false f g =
          let apart : Parallel p0 p1 q0 q1 → ⊥ = λ h. g refl (parallel_flat h) in
          record {
            apart = apart;
            x = num_x lp lq;
            y = num_y lp lq;
            w = det lp lq;
            whole = apart_det apart;
            on_p = solves_on p0 p1 (num_x lp lq) (num_y lp lq) (det lp lq) (cramer_first lp lq);
            on_q = solves_on q0 q1 (num_x lp lq) (num_y lp lq) (det lp lq) (cramer_second lp lq);
            x_cut = quot_cut (num_x lp lq) (det lp lq) (apart_det apart);
            y_cut = quot_cut (num_y lp lq) (det lp lq) (apart_det apart);
          }

  -- and it is the only one that is
  pub meet_only : (m n : Option Point) → Said p0 p1 q0 q1 m → Said p0 p1 q0 q1 n → m ≡ n
  meet_only None None s t = refl
  meet_only None (Some r) s t = absurd (t.apart s)
  meet_only (Some r) None s t = absurd (s.apart t)
  meet_only (Some r) (Some u) s t =
      let ex = cut_only (num_x lp lq) (det lp lq) r.x u.x (x_of r s) (x_of u t) in
      let ey = cut_only (num_y lp lq) (det lp lq) r.y u.y (y_of r s) (y_of u t) in
      λ i. Some (record { x = ex i; y = ey i })
