-- Which call is refused, and with which number: more than 64 stones, whatever the index; then an index outside the list. Assumes nothing.
use Prim.Native.Nat.{ℕ, ◌≤◌, ◌<◌}
use mathlib.Core.Path.{◌≡◌}
use mathlib.Core.List.{List}
use borrow.Author.Tests.{lt-ltb, le-ltb, lt-leb, le-leb}
use lib.ListN.{take}
use Rattle.refusals.specs.Limits.{most_stones}
use Rattle.refusals.specs.Finding.{found, refused}
use Rattle.capstones.specs.declared.CapStone.{CapStone}
use Rattle.match_capstones.specs.Answer.{pairs_of, ranking}

module _ (stones : List CapStone) (n idx : ℕ) where
  pub ranking_many : most_stones < n → ranking stones n idx ≡ refused 11
  unfolding ranking
  ranking_many many = rw (lt-ltb most_stones n many)

  pub ranking_outside : n ≤ most_stones → n ≤ idx → ranking stones n idx ≡ refused 16
  unfolding ranking
  ranking_outside few out = rw (le-ltb most_stones n few, le-leb n idx out)

  pub ranking_found : n ≤ most_stones → idx < n → ranking stones n idx ≡ found (pairs_of (take n stones) idx)
  unfolding ranking
  ranking_found few low = rw (le-ltb most_stones n few, lt-leb n idx low)
