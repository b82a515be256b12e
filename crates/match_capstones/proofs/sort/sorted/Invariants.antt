-- `sorted` inserts each set where it ranks: the list ranks as it did after each exchange, and is in order at the end. Assumes nothing.
use Prim.Native.Nat.{◌≤◌}
use mathlib.Core.Path.{◌≡◌}
use lib.ListN.{length, take}
use Rattle.match_capstones.specs.Order.{ranked}
use Rattle.match_capstones.proofs.Rising.{Rising}
use Rattle.match_capstones.proofs.sort.sorted.Given as goal

abbrev pub invariant-loop-i : goal.invariant-loop-i
invariant-loop-i l =
    (length l.all ≡ 992) × (ranked (take l.n l.all) ≡ ranked (take l.n l.initial.all)) × Rising l.all l.i l.i

abbrev pub invariant-loop-j : goal.invariant-loop-j
invariant-loop-j l =
    (l.j ≤ l.i) × (length l.all ≡ 992) × (ranked (take l.n l.all) ≡ ranked (take l.n l.initial.all)) × Rising l.all l.i l.j

abbrev pub decreases-loop-j : goal.decreases-loop-j
decreases-loop-j l = l.j
