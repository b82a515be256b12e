-- Whole numbers of 32 bits, written with 2^31 added to them. Assumes nothing.
use Prim.Native.Nat.{ℕ, suc, ◌^◌, ◌<◌}
use native.Mathlib.Decide.{dec_lt}
use native.Mathlib.Omega.{arith}
use mathlib.Core.Path.{◌≡◌, refl}
use mathlib.Core.Logic.{by_cases}
use lib.IntN.{ℤ, pos, negsuc, nat_abs, ◌+ℤ◌, ◌-ℤ◌}
use mir.Syntax.{w32, w64}
use mir.Val.{SFits}
use borrow.Author.Tests.{lt-ltb, le-ltb}

-- with 2^31 added it is not negative
pub raised : (z : ℤ) → SFits w32 z → z +ℤ pos (2 ^ 31) ≡ pos (nat_abs (z +ℤ pos (2 ^ 31)))
raised (pos n) f = refl
raised (negsuc n) f = let k = f.sfits in rw (le-ltb (2 ^ 31) (suc n) (omega arith))

-- and below 2^32
pub raised_low : (z : ℤ) → SFits w32 z → nat_abs (z +ℤ pos (2 ^ 31)) < 2 ^ 32
raised_low (pos n) f = let k = f.sfits in omega arith
raised_low (negsuc n) f = let k = f.sfits in rw (le-ltb (2 ^ 31) (suc n) (omega arith)) (omega arith)

-- a number of 32 bits with 2^31 taken off
pub lowered_fits : (n : ℕ) → n < 2 ^ 32 → SFits w32 (pos n -ℤ pos (2 ^ 31))
lowered_fits n h =
    by_cases (dec_lt n (2 ^ 31))
    (λ low. rw (lt-ltb n (2 ^ 31) low) (record { sfits = omega arith }))
    (λ high. rw (le-ltb n (2 ^ 31) (omega arith)) (record { sfits = omega arith }))

-- what fits 32 bits fits 64
pub wider : {z : ℤ} → SFits w32 z → SFits w64 z
wider f = record { sfits = let k = f.sfits in omega arith }
