-- `newest` answers the entry at the front of the age order. Assumes nothing.
use mathlib.Core.Path.{refl}
use native.Mathlib.Omega.{arith}
use borrow.Author.Tests.{lt-ltb, le-ltb}
use Rattle.lookup.specs.Newest.{newest_of}
use Rattle.lookup.proofs.newest.Goals as goal

pub returns-then-first-lt251 : goal.returns-then-first-lt251
unfolding newest_of
returns-then-first-lt251 c = (rw (lt-ltb _ _ c.if-first-lt251.true), c.if-first-lt251.true, refl)

pub returns : goal.returns
unfolding newest_of
returns c = (rw (le-ltb _ _ c.if-first-lt251.false), omega arith, refl)
