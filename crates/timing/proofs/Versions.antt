-- The grid size that a count tells is a version's, from 17 on, and lies in the table of versions exactly up to a count of 165. Assumes nothing.
use Prim.Native.Nat.{ℕ, ◌+◌, ◌-◌, ◌*◌, ◌/◌, ◌≤◌, ◌<◌}
use native.Mathlib.Omega.{arith}
use borrow.Author.Tests.{ltb-true}
use mathlib.Core.Path.{◌≡◌, refl}
use mathlib.Core.Bool.{Bool, true, false, cond}
use mathlib.Core.Logic.{◌↔◌}
use lib.Dec.{ltb}
use Rattle.version_db.specs.AnnexE.{size_of, version_of}
use Rattle.timing.specs.Counted.{most_changes, grid_size}

-- below 6 the rule says no other than from 6 on
pub one_rule : (k : ℕ) → grid_size k ≡ (k - 2) / 4 * 4 + 17
unfolding grid_size
one_rule k = go (ltb k 6) (ltb-true k 6)
  where
    go : (t : Bool) → (t ≡ true → k < 6) → cond t 17 ((k - 2) / 4 * 4 + 17) ≡ (k - 2) / 4 * 4 + 17
    go true low = let few = low refl in omega arith
    go false low = refl

pub size_least : (k : ℕ) → 17 ≤ grid_size k
size_least k = let e = one_rule k in omega arith

-- a count of a scan gives a size that any integer holds
pub size_most : (k : ℕ) → k ≤ most_changes → grid_size k ≤ most_changes + 15
size_most k few = let e = one_rule k in omega arith

-- it is the size of its version
pub size_of_version : (k : ℕ) → grid_size k ≡ size_of (version_of (grid_size k))
size_of_version k = let e = one_rule k in omega arith

-- and there is a version of that size exactly up to 165
pub size_in_table : (k : ℕ) → (grid_size k ≤ size_of 40) ↔ (k ≤ 165)
size_in_table k = let e = one_rule k in (λ low. omega arith, λ low. omega arith)

pub version_in_table : (k : ℕ) → (version_of (grid_size k) ≤ 40) ↔ (k ≤ 165)
version_in_table k = let e = one_rule k in (λ low. omega arith, λ low. omega arith)
