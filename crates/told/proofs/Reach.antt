-- A point that leaves a range at neither end lies in it. Assumes nothing.
use Prim.Native.Nat.{ℕ, ◌≤◌}
use native.Mathlib.Omega.{arith}
use mathlib.Core.Path.{◌≡◌, refl}
use mathlib.Core.Bool.{Bool, true, false, ◌&&◌}
use lib.Dec.{leb}
use lib.IntN.{ℤ, pos, negsuc, nat_abs}
use borrow.Author.Tests.{leb-true, not-false}
use Rattle.points.specs.declared.Point.{Point}
use Rattle.points.specs.Range.{Inside, Within, Near}
use Rattle.told.specs.Points.{between, leaves}

both : (a b : Bool) → (a && b) ≡ true → (a ≡ true) × (b ≡ true)
both true b e = (refl, e)
both false b e = let z : ◌≡◌ {A = ℕ} 0 1 = cc in absurd (omega arith)

inside : (z : ℤ) → between (pos 0) z (pos 799) ≡ true → Inside z
unfolding between
inside (pos n) e = let h = leb-true n 799 (both (leb 0 n) _ e).1 in record { n = n; is = refl; low = omega arith }
inside (negsuc n) e = let z : ◌≡◌ {A = ℕ} 0 1 = cc in absurd (omega arith)

near : (z : ℤ) → between (negsuc 9999) z (pos 10000) ≡ true → nat_abs z ≤ 10000
unfolding between
near (pos n) e = leb-true n 10000 e
near (negsuc n) e = let h = leb-true n 9999 (both (leb n 9999) _ e).0 in omega arith

module _ (p : Point) (low high : ℤ) where
  stays : leaves p low high ≡ false → (between low p.x high ≡ true) × (between low p.y high ≡ true)
  unfolding leaves
  stays e = both (between low p.x high) (between low p.y high) (not-false _ e)

pub pixel : (p : Point) → leaves p (pos 0) (pos 799) ≡ false → Within p
pixel p e = let h = stays p (pos 0) (pos 799) e in record { x = inside p.x h.0; y = inside p.y h.1 }

pub reached : (p : Point) → leaves p (negsuc 9999) (pos 10000) ≡ false → Near p
reached p e = let h = stays p (negsuc 9999) (pos 10000) e in record { x_low = near p.x h.0; y_low = near p.y h.1 }
