-- A point that is not refused is near; a number from -10,000 to 10,000 is within 10,000 of 0. Assumes nothing.
use Prim.Native.Nat.{ℕ, suc}
use native.Mathlib.Decide.{dec_le}
use native.Mathlib.Omega.{arith}
use mathlib.Core.Path.{◌≡◌, refl}
use mathlib.Core.Bool.{Bool, true, false, not, cond, ◌&&◌, and-eq-true_iff}
use mathlib.Core.Logic.{by_cases}
use lib.Dec.{leb}
use lib.IntN.{ℤ, pos, negsuc, nat_abs}
use lib.Signed.{le_z}
use borrow.Author.Tests.{leb-true, le-leb, lt-leb}
use Rattle.refusals.specs.Limits.{farthest}
use Rattle.refusals.specs.Finding.{Finding, found, refused, refused_by}
use Rattle.refusals.specs.declared.Refusal.TheVariants as refusal
use Rattle.points.specs.Range.{Near}
use Rattle.points.specs.declared.Point.{Point}
use Rattle.stated.specs.Stated.{near, judged, stated}

pub in_reach : (z : ℤ) → (le_z (negsuc 9999) z && le_z z (pos 10000)) ≡ leb (nat_abs z) farthest
in_reach (pos n) = refl
in_reach (negsuc n) =
    by_cases (dec_le n 9999)
    (λ low. rw (le-leb n 9999 low, le-leb (suc n) 10000 (omega arith)))
    (λ high. rw (lt-leb n 9999 (omega arith), lt-leb (suc n) 10000 (omega arith)))

pub near_is : (p : Point) → near p ≡ true → Near p
unfolding near
near_is p e =
    let both = (and-eq-true_iff (leb (nat_abs p.x) farthest) (leb (nat_abs p.y) farthest)).0 e in
    record { x_low = leb-true _ _ both.0; y_low = leb-true _ _ both.1 }

told : (b : Bool) (p q : Point) → cond (not b) (refused_by refusal.Far) (found p) ≡ found q → (b ≡ true) × (p ≡ q)
told true p q e = (refl, (cc))
told false p q e = let z : ◌≡◌ {A = ℕ} 0 1 = cc in absurd (omega arith)

-- a point that is judged and not refused is itself, and near
pub judged_near : (p q : Point) → judged p ≡ found q → (p ≡ q) × Near p
unfolding judged
judged_near p q e = let t = told (near p) p q e in (t.1, near_is p t.0)

pub stated_near : (f : Finding Point) (q : Point) → stated f ≡ found q → (f ≡ found q) × Near q
unfolding stated
stated_near (found p) q e = let j = judged_near p q e in (rw j.0, rw j.0 at j.1)
stated_near (refused n) q e = let z : ◌≡◌ {A = ℕ} 0 1 = cc in absurd (omega arith)
