-- How many pixels a piece of a bitmap has: some, and no more than a picture. Assumes nothing.
use Prim.Native.Nat.{ℕ, ◌<◌, ◌≤◌}
use native.Mathlib.Nat.{mul-le-mul}
use native.Mathlib.Omega.{arith}
use mathlib.Core.List.{List, [], ◌∷◌}
use lib.ListN.{length}
use Rattle.picture.specs.Sides.{Sized}
use Rattle.pieces.specs.Picture.{Pixel, pixel}
use Rattle.pieces.specs.Count.{Mem}
use Rattle.pieces.specs.Chain.{start}
use Rattle.pieces.specs.Piece.{Dark, BitmapPiece, Pixels}
use Rattle.pieces.proofs.Chains.{last_of}
use Rattle.pieces.proofs.Index.{pixels_below}
use Rattle.rings.specs.Ratio.{most_pixels}

some_in : (a : Pixel) (l : List Pixel) → Mem a l → 0 < length l
some_in a [] m = absurd m
some_in a (b ∷ l) m = omega arith

module _ (B : List ℕ) {w h x y n : ℕ} (N : Pixels (BitmapPiece B w h x y) n) where
  pub some_pixels : Dark B w h x y → 0 < n
  some_pixels dark = omega (arith, some_in (pixel x y) N.list (N.lists.2 (pixel x y) (start dark)), N.count)

  pub few_pixels : {len : ℕ} → Sized w h len → n ≤ most_pixels
  few_pixels S =
      let within : (a : Pixel) → Mem a N.list → (a.col < w) × (a.line < h) = λ a m. let s = last_of (N.lists.1 a m) in (s.0, s.1) in
      omega (arith, pixels_below w h N.list N.lists.0 within, N.count, mul-le-mul S.tall S.wide)
