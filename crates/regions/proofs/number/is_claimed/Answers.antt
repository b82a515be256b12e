-- `is_claimed` holds of 2, 3 and 4. Assumes nothing.
use Prim.Native.Nat.{ℕ}
use native.Mathlib.Omega.{arith}
use mathlib.Core.Path.{◌≡◌}
use borrow.Author.Tests.{ltb-true, ltb-false}
use Rattle.regions.proofs.number.is_claimed.Goals as goal

pub returns-then-byte-lt2 : goal.returns-then-byte-lt2
returns-then-byte-lt2 c = ((λ e. let z : ◌≡◌ {A = ℕ} 0 1 = cc in absurd (omega arith)), (λ e low. omega arith))

pub returns : goal.returns
returns c =
    ((λ e. let l = ltb-true c.args.byte 5 e in (omega arith, omega arith)), (λ e low. let l = ltb-false c.args.byte 5 e in absurd (omega arith)))
