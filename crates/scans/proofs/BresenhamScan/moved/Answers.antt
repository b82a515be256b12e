-- `moved` meets its contract, whichever direction leads. Assumes nothing.
use borrow.Author.Rules.{rules}
use mathlib.Core.Path.{◌≡◌}
use mir.Syntax.{w32}
use mir.Val.{to_z, of_z}
use mir.Facts.{to_z-of_z}
use Rattle.scans.specs.Scan.{moved_by}
use Rattle.scans.proofs.BresenhamScan.moved.Goals as goal

pub returns-then-self : goal.returns-then-self
unfolding moved_by
returns-then-self c =
    let dom : to_z w32 (of_z w32 c.args.self.domstep) ≡ c.args.self.domstep = search rules in
    rw (c.placed.ensures, dom, to_z-of_z c.ranges.off, c.if-self.true)

pub returns : goal.returns
unfolding moved_by
returns c =
    let dom : to_z w32 (of_z w32 c.args.self.domstep) ≡ c.args.self.domstep = search rules in
    rw (c.placed-2.ensures, dom, to_z-of_z c.ranges.off, c.if-self.false)
