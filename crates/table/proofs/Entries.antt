-- Which entry a number has after each operation, and that what is the newest stays so. Assumes nothing.
use Prim.Native.Nat.{ℕ, ◌<◌}
use native.Mathlib.Omega.{arith}
use mathlib.Core.Path.{◌≡◌, refl}
use lib.ListN.{length}
use lib.Seq.{get_or-set_same, get_or-set_other}
use borrow.Author.Tests.{eq-eqb}
use Rattle.table.specs.Age.{without}
use Rattle.table.specs.Table.{most, blank, entry_of, newest, added, replaced}
use Rattle.table.specs.declared.Entry.{Entry}
use Rattle.table.specs.declared.Table.{Table}

module _ (T : Table) (whole : length T.entries ≡ most) (e : Entry) where
  pub added_here : T.n < most → entry_of (added T e) T.n ≡ e
  added_here room = get_or-set_same T.entries T.n e blank (omega arith)

  pub added_other : (j : ℕ) → (j ≡ T.n → ⊥) → entry_of (added T e) j ≡ entry_of T j
  added_other j m = get_or-set_other T.entries T.n j e blank m

  pub replaced_here : (k : ℕ) → k < most → entry_of (replaced T k e) k ≡ e
  replaced_here k h = get_or-set_same T.entries k e blank (omega arith)

  pub replaced_other : (k j : ℕ) → (j ≡ k → ⊥) → entry_of (replaced T k e) j ≡ entry_of T j
  replaced_other k j m = get_or-set_other T.entries k j e blank m

-- the newest, made the newest again
pub newest_again : (T : Table) (k : ℕ) → newest (newest T k) k ≡ newest T k
unfolding without
newest_again T k = rw (eq-eqb k k refl)
