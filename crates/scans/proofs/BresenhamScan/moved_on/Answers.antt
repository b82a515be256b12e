-- `moved_on` meets its contract, whether enough has gathered or not. Assumes nothing.
use borrow.Author.Rules.{rules}
use borrow.Author.Tests.{le-leb, lt-leb}
use mathlib.Core.Path.{◌≡◌}
use mir.Syntax.{w32}
use mir.Val.{to_z, of_z}
use Rattle.scans.specs.Scan.{next_of}
use Rattle.scans.proofs.BresenhamScan.moved_on.Goals as goal

pub returns-then-a-d : goal.returns-then-a-d
unfolding next_of
returns-then-a-d c =
    let e : to_z w32 (of_z w32 c.args.self.nonstep) ≡ c.args.self.nonstep = search rules in
    rw (c.moved.ensures, e, le-leb _ _ c.if-a-d.true)

pub returns : goal.returns
unfolding next_of
returns c = rw (c.moved-2.ensures, lt-leb _ _ c.if-a-d.false)
