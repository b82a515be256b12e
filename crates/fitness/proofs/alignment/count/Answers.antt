-- `count` is Annex E's number of positions. Assumes nothing.
use native.Mathlib.Omega.{arith}
use borrow.Author.Tests.{lt-ltb, le-ltb}
use Rattle.fitness.proofs.alignment.count.Goals as goal

pub returns-then-version-lt2 : goal.returns-then-version-lt2
returns-then-version-lt2 c = (rw (lt-ltb _ 2 c.if-version-lt2.true), omega arith)

pub returns : goal.returns
returns c = (rw (le-ltb _ 2 c.if-version-lt2.false), omega arith)
