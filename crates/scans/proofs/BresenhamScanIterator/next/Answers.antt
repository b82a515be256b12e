-- `next` meets its contract, whether a point is left or not. Assumes nothing.
use Prim.Native.Nat.{◌≤◌}
use borrow.Author.Rules.{rules}
use borrow.Author.Tests.{lt-ltb, le-ltb}
use native.Mathlib.Omega.{arith}
use mathlib.Core.Path.{◌≡◌}
use mir.Syntax.{w32}
use mir.Val.{to_z, of_z}
use Rattle.scans.specs.Scan.{Good, step_of}
use Rattle.scans.proofs.Steps.{next_good, next_d, next_i}
use Rattle.scans.proofs.BresenhamScanIterator.next.Goals as goal

pub returns-then-self-clause-steps : goal.returns-then-self-clause-steps
unfolding step_of
returns-then-self-clause-steps c = rw (lt-ltb _ _ c.if-self.true)

pub returns-clause-steps : goal.returns-clause-steps
unfolding step_of
returns-clause-steps c =
    let x : to_z w32 (of_z w32 c.args.self.now.x) ≡ c.args.self.now.x = search rules in
    let y : to_z w32 (of_z w32 c.args.self.now.y) ≡ c.args.self.now.y = search rules in
    rw (le-ltb _ _ c.if-self.false, c.moved_on.ensures, x, y)

pub returns-clause-goes : goal.returns-clause-goes
returns-clause-goes c =
    let s = c.args.self.now in
    let more : s.i ≤ s.d = omega (arith, c.if-self.false) in
    let good : Good c.moved_on.result = rw c.moved_on.ensures (next_good s c.requires more) in
    record {
      on = λ _. (good, tt, rw c.moved_on.ensures (omega (arith, more, next_d s, next_i s)));
      keeps = good;
      rests = λ _. tt;
    }
