-- Where coordinates lie: what is negative or beyond a side is beside the picture, all else is a pixel of it. Assumes nothing.
use Rattle.std.specs.Prelude.{Option, Some, None}
use Rattle.std.proofs.lemmas.Option.{some_pair_parts}
use Prim.Native.Nat.{ℕ, ◌≤◌, ◌<◌}
use native.Mathlib.Omega.{arith}
use mathlib.Core.Path.{◌≡◌, refl, ap}
use mathlib.Core.Bool.{Bool, true, false, cond, ◌&&◌}
use lib.Dec.{ltb}
use lib.IntN.{ℤ, pos, negsuc}
use lib.Signed.{lt_z}
use borrow.Author.Tests.{ltb-true, lt-ltb, le-ltb}
use Rattle.alignment.specs.Visit.{place_at}

module _ (w h : ℕ) where
  pub left_of : (x y : ℤ) → lt_z x (pos 0) ≡ true → place_at w h x y ≡ None
  unfolding place_at
  left_of (pos n) y l = let k = ltb-true n 0 l in absurd (omega arith)
  left_of (negsuc n) y l = refl

  pub above : (x y : ℤ) → lt_z y (pos 0) ≡ true → place_at w h x y ≡ None
  unfolding place_at
  above (pos m) (pos n) l = let k = ltb-true n 0 l in absurd (omega arith)
  above (negsuc m) (pos n) l = refl
  above (pos m) (negsuc n) l = refl
  above (negsuc m) (negsuc n) l = refl

  pub right_of : (x y : ℕ) → w ≤ x → place_at w h (pos x) (pos y) ≡ None
  unfolding place_at
  right_of x y l = rw (le-ltb x w l)

  pub under : (x y : ℕ) → x < w → h ≤ y → place_at w h (pos x) (pos y) ≡ None
  unfolding place_at
  under x y k l = rw (lt-ltb x w k, le-ltb y h l)

  pub on_picture_lem : (x y : ℕ) → x < w → y < h → place_at w h (pos x) (pos y) ≡ Some (x, y)
  unfolding place_at
  on_picture_lem x y k l = rw (lt-ltb x w k, lt-ltb y h l)

  -- a pixel has its column and line as coordinates, and is in the picture
  pub pixel_in : (x y : ℤ) (a b : ℕ) → place_at w h x y ≡ Some (a, b) → (x ≡ pos a) × (y ≡ pos b) × (a < w) × (b < h)
  unfolding place_at
  pixel_in (pos m) (pos n) a b e = go (ltb m w) (ltb n h) refl refl e
    where
      go : (s t : Bool) → ltb m w ≡ s → ltb n h ≡ t → cond {A = Option (ℕ × ℕ)} (s && t) (Some (m, n)) None ≡ Some (a, b) → (pos m ≡ pos a) × (pos n ≡ pos b) × (a < w) × (b < h)
      go true true i j g = let same = some_pair_parts m a n b g in (ap pos same.0, ap pos same.1, omega (arith, ltb-true m w i), omega (arith, ltb-true n h j))
      go true false i j g = let z : ◌≡◌ {A = ℕ} 0 1 = cc in absurd (omega arith)
      go false true i j g = let z : ◌≡◌ {A = ℕ} 0 1 = cc in absurd (omega arith)
      go false false i j g = let z : ◌≡◌ {A = ℕ} 0 1 = cc in absurd (omega arith)
  pixel_in (pos m) (negsuc n) a b e = let z : ◌≡◌ {A = ℕ} 0 1 = cc in absurd (omega arith)
  pixel_in (negsuc m) y a b e = let z : ◌≡◌ {A = ℕ} 0 1 = cc in absurd (omega arith)
