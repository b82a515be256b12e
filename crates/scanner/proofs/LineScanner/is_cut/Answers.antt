-- `is_cut` tests the count of edges, the shade of the run that ends, and the five runs. Assumes nothing.
use Prim.Native.Nat.{ℕ, zero, suc, ◌≤◌}
use native.Mathlib.Omega.{arith}
use borrow.Author.Tests.{le-leb, lt-leb}
use Rattle.refusals.specs.Limits.{longest_side}
use Rattle.runs.specs.Mark.{Short}
use Rattle.scanner.specs.Cuts.{lengths}
use Rattle.scanner.proofs.RunEnds.{is_light, is_dark}
use Rattle.scanner.proofs.LineScanner.is_cut.Goals as goal

-- no run between columns of a line is longer than the line may be
short : (a b c d e f : ℕ) → (b ≤ longest_side) × (c ≤ longest_side) × (d ≤ longest_side) × (e ≤ longest_side) × (f ≤ longest_side) → Short (lengths a b c d e f)
short a b c d e f h zero k = omega (arith, h.0)
short a b c d e f h (suc zero) k = omega (arith, h.1)
short a b c d e f h (suc (suc zero)) k = omega (arith, h.2)
short a b c d e f h (suc (suc (suc zero))) k = omega (arith, h.3)
short a b c d e f h (suc (suc (suc (suc zero)))) k = omega (arith, h.4)
short a b c d e f h (suc (suc (suc (suc (suc n))))) k = absurd (omega arith)

pub returns-then-self-lt5 : goal.returns-then-self-lt5
returns-then-self-lt5 c = rw (lt-leb 5 _ c.if-self-lt5.true)

pub returns-then-pic-base-eq0 : goal.returns-then-pic-base-eq0
returns-then-pic-base-eq0 c =
    rw (le-leb 5 c.args.self.met c.if-self-lt5.false, is_light c.args.pic.now c.args.base c.args.self.e4 c.if-pic-base-eq0.true)

pub is_mark_like-requires : goal.is_mark_like-requires
is_mark_like-requires c =
    short c.args.self.e0 c.args.self.e1 c.args.self.e2 c.args.self.e3 c.args.self.e4 c.args.edge (omega arith, omega arith, omega arith, omega arith, omega arith)

pub returns : goal.returns
returns c =
    rw (le-leb 5 c.args.self.met c.if-self-lt5.false, is_dark c.args.pic.now c.args.base c.args.self.e4 c.if-pic-base-eq0.false) c.is_mark_like.ensures
