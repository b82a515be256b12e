-- Each alignment position lies inside its grid, with six modules before it and seven more after, and the last one stands exactly seven from the end. Assumes nothing.
use Prim.Native.Nat.{ℕ, ◌+◌, ◌-◌, ◌*◌, ◌/◌, ◌≤◌, ◌<◌}
use native.Mathlib.Omega.{arith}
use mathlib.Core.Path.{◌≡◌}
use mathlib.Core.Bool.{Bool, true, false, cond}
use mathlib.Core.List.{[]}
use lib.Dec.{T, eqb, ltb, leb, leb→le}
use borrow.Author.Tests.{lt-ltb, le-ltb, ne_eqb}
use Rattle.version_db.specs.AnnexE.{size_of, count_of, gap_of, placed, position_of, printed}
use Rattle.version_db.proofs.Table.{every, filled, at_place}
use Rattle.version_db.proofs.Rule.{lines}

either : (t : Bool) (a b n : ℕ) → a ≤ n → b ≤ n → cond t a b ≤ n
either true a b n p q = p
either false a b n p q = q

pub inside : (v k : ℕ) → position_of v k + 7 ≤ size_of v
unfolding position_of
inside v k =
    let first-or-later = either (eqb k 0) 6 (4 * v + 10 - (count_of v - 1 - k) * gap_of v) (4 * v + 10) (omega arith) (omega arith) in
    let any = either (ltb k (count_of v)) (placed v k) 0 (4 * v + 10) first-or-later (omega arith) in
    omega arith

pub last_position : (v : ℕ) → 2 ≤ v → position_of v (count_of v - 1) + 7 ≡ size_of v
unfolding position_of
last_position v some =
    let n = v / 7 + 2 in
    let nothing-below : (n - 1 - (n - 1)) ≡ 0 = omega arith in
    rw (le-ltb v 2 some, lt-ltb (n - 1) n (omega arith), ne_eqb (n - 1) 0 (λ e. omega arith), nothing-below) (omega arith)

-- there are at most seven
pub few_positions : (v : ℕ) → v ≤ 40 → count_of v ≤ 7
few_positions v few = either (ltb v 2) 0 (v / 7 + 2) 7 (omega arith) (omega arith)

-- position k of version v, where there is one, is at least 6
high : ℕ → ℕ → ℕ → Bool
high v k x = cond (ltb k (count_of v)) (leb 6 (position_of v k)) true

passes : T (every (filled high 7) [] 0 printed)
unfolding high position_of printed
passes = tt

pub from_six : (v k : ℕ) → v ≤ 40 → k < count_of v → 6 ≤ position_of v k
unfolding high
from_six v k few there =
    let low = few_positions v few in
    leb→le 6 (position_of v k) (rw (lt-ltb k (count_of v) there) at (at_place high 7 printed passes v k (omega (arith, lines)) (omega arith)))
