-- What of a picture of a given size lies inside its list. Assumes nothing.
use Prim.Native.Nat.{ℕ, ◌+◌, ◌*◌, ◌<◌, ◌≤◌}
use mathlib.Core.List.{List}
use lib.ListN.{length}
use Rattle.pieces.proofs.Index.{in_picture, line_fits}
use Rattle.fill.specs.Fill.{Sized}

module _ {p : List ℕ} {w h : ℕ} (S : Sized p w h) where
  pub pixel_inside : (x y : ℕ) → x < w → y < h → y * w + x < length p
  pixel_inside = in_picture w h p S.size

  pub line_inside : (y : ℕ) → y < h → y * w + w ≤ length p
  line_inside = line_fits w h p S.size
