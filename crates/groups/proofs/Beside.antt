-- Sides of a line: no step towards them leaves the range of an i32, and in the opposite direction they are opposite. Assumes nothing.
use Prim.Native.Nat.{◌+◌, ◌*◌, ◌^◌, ◌<◌}
use native.Mathlib.Nat.{lt_of_le_of_lt}
use native.Mathlib.Omega.{arith}
use mathlib.Core.Path.{◌≡◌, refl}
use mathlib.Core.List.{[], ◌∷◌}
use lib.Dec.{lit<}
use lib.IntN.{ℤ, nat_abs, neg_ℤ, ◌+ℤ◌, ◌-ℤ◌, ◌*ℤ◌}
use Rattle.points.specs.declared.Point.{Point}
use Rattle.sizes.proofs.Size.{size_neg, products}
use Rattle.sizes.proofs.Algebra.{var, ⊝, ◌⊕◌, ◌⊖◌, ◌⊗◌, same_terms}
use Rattle.corners.specs.Scores.{Span, Direction, across_of, line_from}
use Rattle.corners.proofs.Signed.{back, is_own, is_back}
use Rattle.groups.specs.Side.{side_of, reversed}

-- a difference of two coordinates that a stated point may have, as the code reads it
pub span_back : {a : ℤ} → Span a → back a ≡ a
span_back S = is_back (is_own S.low (lit< tt))

-- such numbers are low enough for `opposite` and `cross`, as a search looks for it
pub opposite_low : (a : ℤ) → Span a → nat_abs (back a) < 2 ^ 31
opposite_low a S = rw (span_back S) (let h = S.low in omega arith)

pub cross_low : (a x b y : ℤ) → Span a → Span x → Span b → Span y → nat_abs (back a) * nat_abs (back x) + nat_abs (back b) * nat_abs (back y) < 2 ^ 31
cross_low a x b y A X B Y =
    rw (span_back A, span_back X, span_back B, span_back Y)
    (lt_of_le_of_lt (products 20000 20000 20000 20000 A.low X.low B.low Y.low) (lit< tt))

-- the opposite of a direction is one, too
pub reversed_direction : {d : Point} → Direction d → Direction (reversed d)
unfolding reversed
reversed_direction {d} D =
    let x = size_neg d.x in
    let y = size_neg d.y in
    record { x = record { low = omega (arith, D.x.low) }; y = record { low = omega (arith, D.y.low) } }

module _ (h0 hd p : Point) where
  -- the Rust's own formula
  pub side_is : side_of h0 hd p ≡ (p.x -ℤ h0.x) *ℤ neg_ℤ hd.y +ℤ (p.y -ℤ h0.y) *ℤ hd.x
  unfolding side_of across_of line_from
  side_is =
      let px = var 0 in
      let py = var 1 in
      let hx = var 2 in
      let hy = var 3 in
      let dx = var 4 in
      let dy = var 5 in
      same_terms (p.x ∷ p.y ∷ h0.x ∷ h0.y ∷ hd.x ∷ hd.y ∷ [])
      ((py ⊖ hy) ⊗ dx ⊖ (px ⊖ hx) ⊗ dy) ((px ⊖ hx) ⊗ ⊝ dy ⊕ (py ⊖ hy) ⊗ dx) refl

  pub side_reversed : side_of h0 (reversed hd) p ≡ neg_ℤ (side_of h0 hd p)
  unfolding side_of across_of line_from reversed
  side_reversed =
      let px = var 0 in
      let py = var 1 in
      let hx = var 2 in
      let hy = var 3 in
      let dx = var 4 in
      let dy = var 5 in
      same_terms (p.x ∷ p.y ∷ h0.x ∷ h0.y ∷ hd.x ∷ hd.y ∷ [])
      ((py ⊖ hy) ⊗ ⊝ dx ⊖ (px ⊖ hx) ⊗ ⊝ dy) (⊝ ((py ⊖ hy) ⊗ dx ⊖ (px ⊖ hx) ⊗ dy)) refl

module _ (a b : Point) where
  -- the way back
  pub line_reversed : reversed (line_from a b) ≡ line_from b a
  unfolding reversed line_from
  line_reversed = λ i. record { x = back_is a.x b.x i; y = back_is a.y b.y i }
    where
      back_is : (u v : ℤ) → neg_ℤ (v -ℤ u) ≡ u -ℤ v
      back_is u v = same_terms (u ∷ v ∷ []) (⊝ (var 1 ⊖ var 0)) (var 0 ⊖ var 1) refl

  -- a line is the same from either of its ends
  pub either_end : (p : Point) → side_of a (line_from b a) p ≡ side_of b (line_from b a) p
  unfolding side_of across_of line_from
  either_end p =
      let px = var 0 in
      let py = var 1 in
      let ax = var 2 in
      let ay = var 3 in
      let bx = var 4 in
      let by = var 5 in
      same_terms (p.x ∷ p.y ∷ a.x ∷ a.y ∷ b.x ∷ b.y ∷ [])
      ((py ⊖ ay) ⊗ (ax ⊖ bx) ⊖ (px ⊖ ax) ⊗ (ay ⊖ by)) ((py ⊖ by) ⊗ (ax ⊖ bx) ⊖ (px ⊖ bx) ⊗ (ay ⊖ by)) refl
