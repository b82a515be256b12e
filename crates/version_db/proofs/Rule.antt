-- Annex E's table is what its rule says, at each of the seven places of each of the 41 lines: one test, computed. Assumes nothing.
use Prim.Native.Nat.{ℕ, ◌≤◌, ◌<◌}
use native.Mathlib.Omega.{arith}
use mathlib.Core.Path.{◌≡◌, refl}
use mathlib.Core.Bool.{Bool}
use mathlib.Core.List.{[]}
use lib.Dec.{T, eqb, eqb→eq}
use lib.ListN.{length, get_or}
use Rattle.version_db.specs.AnnexE.{position_of, printed}
use Rattle.version_db.proofs.Table.{every, filled, at_place}

-- x is position k of version v
right : ℕ → ℕ → ℕ → Bool
right v k x = eqb x (position_of v k)

passes : T (every (filled right 7) [] 0 printed)
unfolding right position_of printed
passes = tt

pub lines : length printed ≡ 41
unfolding printed
lines = refl

pub printed_right : (v k : ℕ) → v ≤ 40 → k < 7 → get_or (get_or printed v []) k 0 ≡ position_of v k
unfolding right
printed_right v k few low = eqb→eq (get_or (get_or printed v []) k 0) (position_of v k) (at_place right 7 printed passes v k (omega (arith, lines)) low)
