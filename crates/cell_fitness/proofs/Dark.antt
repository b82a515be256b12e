-- What `dark_at` says of coordinates from 0 on: 0 beside the picture, and its pixel's darkness inside. Assumes nothing.
use Prim.Native.Nat.{ℕ, ◌≤◌, ◌<◌}
use mathlib.Core.Path.{◌≡◌}
use mathlib.Core.List.{List}
use lib.IntN.{pos, negsuc}
use borrow.Author.Tests.{lt-ltb, le-ltb, eq-eqb, ne_eqb}
use Rattle.pieces.specs.Picture.{px}
use Rattle.cell_fitness.specs.Seen.{dark_at}

module _ (pic : List ℕ) (width height : ℕ) where
  pub dark_behind : (x y : ℕ) → width ≤ x → pos 0 ≡ dark_at pic width height (pos x) (pos y)
  unfolding dark_at
  dark_behind x y h = rw (le-ltb x width h)

  pub dark_below : (x y : ℕ) → x < width → height ≤ y → pos 0 ≡ dark_at pic width height (pos x) (pos y)
  unfolding dark_at
  dark_below x y g h = rw (lt-ltb x width g, le-ltb y height h)

  pub dark_white : (x y : ℕ) → x < width → y < height → px pic width x y ≡ 0 → negsuc 0 ≡ dark_at pic width height (pos x) (pos y)
  unfolding dark_at
  dark_white x y g h e = rw (lt-ltb x width g, lt-ltb y height h, eq-eqb (px pic width x y) 0 e)

  pub dark_coloured : (x y : ℕ) → x < width → y < height → (px pic width x y ≡ 0 → ⊥) → pos 1 ≡ dark_at pic width height (pos x) (pos y)
  unfolding dark_at
  dark_coloured x y g h n = rw (lt-ltb x width g, lt-ltb y height h, ne_eqb (px pic width x y) 0 n)
