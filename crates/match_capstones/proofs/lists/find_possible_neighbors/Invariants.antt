-- `find_possible_neighbors` lists those of the stones passed that lie in line. A stone of the first list is not of the second. Assumes nothing.
use Prim.Native.Nat.{◌≤◌, ◌-◌}
use Rattle.match_capstones.proofs.Passed.{Passed}
use Rattle.match_capstones.proofs.lists.find_possible_neighbors.Given as goal

abbrev pub invariant-loop-i : goal.invariant-loop-i
invariant-loop-i l =
    (l.i ≤ l.n) × Passed (λ p. p.u) (λ p. p.v) l.c l.idx l.stones l.hs l.h l.i × Passed (λ p. p.v) (λ p. p.u) l.c l.idx l.stones l.vs l.v l.i

abbrev pub decreases-loop-i : goal.decreases-loop-i
decreases-loop-i l = l.n - l.i
