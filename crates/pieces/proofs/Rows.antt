-- Rows: two that share a pixel are one, a row reaches as far as its set does, and the pairs that overlap are fewer than the picture's pixels. Assumes nothing.
use Prim.Native.Nat.{ℕ, suc, ◌*◌, ◌-◌, ◌<◌, ◌≤◌, max}
use native.Mathlib.Nat.{mul_comm, suc-mul}
use native.Mathlib.Omega.{arith}
use mathlib.Core.Path.{◌≡◌, refl, sym, ap, ◌∙◌, subst}
use mathlib.Core.List.{List, map}
use mathlib.Core.Logic.{⊎_elim}
use Rattle.pieces.specs.Picture.{Pixel, pixel}
use Rattle.pieces.specs.Count.{Mem, Distinct}
use Rattle.pieces.specs.Chain.{Chain, west, east}
use Rattle.pieces.specs.Piece.{Piece}
use Rattle.pieces.specs.Row.{RowOf, InRow}
use Rattle.pieces.specs.declared.Row.{Row}
use Rattle.pieces.specs.Pairs.{RowPair, Overlap, Pushes, Room}
use Rattle.pieces.proofs.Numbers.{split}
use Rattle.pieces.proofs.Counting.{map_mem, map_length, map_distinct}
use Rattle.pieces.proofs.Chains.{last_of, go_right}
use Rattle.pieces.proofs.Index.{pixels_below}

module _ {S : ℕ → ℕ → Type 0} where
  -- of two rows that share the column a, neither starts or ends before the other
  no_later : {r s : Row} → RowOf S r → RowOf S s → r.y ≡ s.y → (a : ℕ) → r.left ≤ a → a ≤ s.right → r.left ≤ s.left
  no_later {r} {s} R Q e a l u =
      ⊎_elim
      (λ g. g)
      (λ g. absurd (R.before (r.left - 1) (omega arith) (subst (λ (k : ℕ). S (r.left - 1) k) (sym e) (Q.all (r.left - 1) (omega arith) (omega arith)))))
      (split r.left s.left)

  no_earlier : {r s : Row} → RowOf S r → RowOf S s → r.y ≡ s.y → (a : ℕ) → s.left ≤ a → a ≤ r.right → s.right ≤ r.right
  no_earlier {r} {s} R Q e a l u =
      ⊎_elim
      (λ g. g)
      (λ g. absurd (R.after (subst (λ (k : ℕ). S (suc r.right) k) (sym e) (Q.all (suc r.right) (omega arith) (omega arith)))))
      (split s.right r.right)

  -- two rows that share a pixel are one
  pub one_row : {r s : Row} → RowOf S r → RowOf S s → (a b : ℕ) → InRow r a b → InRow s a b → r ≡ s
  one_row {r} {s} R Q a b h g =
      let line : r.y ≡ s.y = h.0 ∙ sym g.0 in
      let left : r.left ≡ s.left = omega (arith, no_later R Q line a h.1 g.2, no_later Q R (sym line) a g.1 h.2) in
      let right : r.right ≡ s.right = omega (arith, no_earlier R Q line a g.1 h.2, no_earlier Q R (sym line) a h.1 g.2) in
      λ i. record { left = left i; right = right i; y = line i }

  -- a pixel that is joined along the line to one of the row is in the row
  pub row_reaches : {r : Row} → RowOf S r → (a b c : ℕ) → InRow r a b → ((k : ℕ) → a ≤ k → k ≤ c → S k b) → ((k : ℕ) → c ≤ k → k ≤ a → S k b) → InRow r c b
  row_reaches {r} R a b c q on back =
      let line : (k : ℕ) → S k b → S k r.y = λ k s. subst (λ (v : ℕ). S k v) (sym q.0) s in
      let low : r.left ≤ c =
      ⊎_elim
      (λ g. g)
      (λ g. absurd (R.before (r.left - 1) (omega arith) (line (r.left - 1) (back (r.left - 1) (omega arith) (omega (arith, q.1))))))
      (split r.left c) in
      let high : c ≤ r.right =
      ⊎_elim
      (λ g. g)
      (λ g. absurd (R.after (line (suc r.right) (on (suc r.right) (omega (arith, q.2)) (omega arith)))))
      (split c r.right) in
      (q.0, low, high)

-- a row of the pixels that chains of S reach is a row of S, and a row of S that a chain reaches is one of those
module _ {S : ℕ → ℕ → Type 0} {x y : ℕ} {r : Row} where
  pub row_of_set : RowOf (Chain S x y) r → RowOf S r
  row_of_set R =
      record {
        order = R.order;
        all = λ k u v. last_of (R.all k u v);
        before = λ k e s. R.before k e (west (subst (λ (v : ℕ). Chain S x y v r.y) (sym e) (R.all r.left (omega arith) R.order)) s);
        after = λ s. R.after (east (R.all r.right R.order (omega arith)) s);
      }

  pub row_of_chain : RowOf S r → Chain S x y r.left r.y → RowOf (Chain S x y) r
  row_of_chain R c =
      record {
        order = R.order;
        all = λ k u v. go_right k r.left r.y u c (λ j a b. R.all j a (omega arith));
        before = λ k e d. R.before k e (last_of d);
        after = λ d. R.after (last_of d);
      }

-- the first column in which a pair overlaps, on the upper line
pub joint_of : RowPair → Pixel
joint_of q = pixel (max q.upper.left q.lower.left) q.upper.y

module _ {S : ℕ → ℕ → Type 0} where
  -- it says which pair it is
  joint_inj : (q u : RowPair) → Overlap S q → Overlap S u → joint_of q ≡ joint_of u → q ≡ u
  unfolding joint_of
  joint_inj q u O U e =
      let c = max q.upper.left q.lower.left in
      let col = ap (λ (j : Pixel). j.col) e in
      let line = ap (λ (j : Pixel). j.line) e in
      let i = O.in_upper in
      let j = O.in_lower in
      let k = U.in_upper in
      let m = U.in_lower in
      let upper = one_row O.above U.above c q.upper.y (refl, omega arith, omega (arith, i.1, i.2, j.1)) (sym line, omega arith, omega (arith, k.1, k.2, m.1)) in
      let lower = one_row O.below U.below c q.lower.y (refl, omega arith, omega (arith, i.1, j.1, j.2)) (omega (arith, O.next, U.next), omega arith, omega (arith, k.1, m.1, m.2)) in
      λ n. record { upper = upper n; lower = lower n }

-- a fill pushes at most as many entries as the picture has pixels
module _ (p : List ℕ) (w h x y : ℕ) (in_x : x < w) (in_y : y < h) where
  joint_in_lem : (q : RowPair) → Overlap (Piece p w h x y) q → ((joint_of q).col < w) × ((joint_of q).line < h - 1)
  unfolding joint_of
  joint_in_lem q O =
      let i = O.in_upper in
      let j = O.in_lower in
      let s = last_of (O.above.all O.column i.1 i.2) in
      let t = last_of (O.below.all O.column j.1 j.2) in
      (omega (arith, s.0, i.1, j.1), omega (arith, t.1, O.next))

  pub pushes_few : (n : ℕ) → Pushes (Piece p w h x y) n → n ≤ w * h
  pushes_few n P =
      let l = P.number.list in
      let of = P.number.lists.1 in
      let once : Distinct (map joint_of l) = map_distinct joint_of l P.number.lists.0 (λ q u mq mu. joint_inj q u (of q mq) (of u mu)) in
      let within : (a : Pixel) → Mem a (map joint_of l) → (a.col < w) × (a.line < h - 1) = λ a m.
      let r = map_mem joint_of l a m in
      subst (λ (v : Pixel). (v.col < w) × (v.line < h - 1)) (sym r.2) (joint_in_lem r.0 (of r.0 r.1)) in
      let top : h ≡ suc (h - 1) = omega (arith, in_y) in
      omega (arith, pixels_below w (h - 1) (map joint_of l) once within, map_length joint_of l, P.number.count, P.is, mul_comm w h, ap (λ (k : ℕ). k * w) top, suc-mul (h - 1) w, in_x)

  -- so that a stack of as many entries is enough
  pub room_enough : (room : ℕ) → w * h ≤ room → Room (Piece p w h x y) room
  room_enough room e n P = omega (arith, pushes_few n P)
