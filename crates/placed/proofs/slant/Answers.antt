-- `slant` answers the limits in their order. Assumes nothing.
use lib.Ieee.{of_bits}
use borrow.Author.Tests.{le-leb, lt-leb}
use Rattle.placed.specs.Tame.{slant}
use Rattle.placed.proofs.slant.Goals as goal

pub returns-then-size-le32 : goal.returns-then-size-le32
unfolding slant of_bits
returns-then-size-le32 c = rw (le-leb _ 32 c.if-size-le32.true)

pub returns-then-size-le64 : goal.returns-then-size-le64
unfolding slant of_bits
returns-then-size-le64 c = rw (lt-leb _ 32 c.if-size-le32.false, le-leb _ 64 c.if-size-le64.true)

pub returns-then-size-le128 : goal.returns-then-size-le128
unfolding slant of_bits
returns-then-size-le128 c = rw (lt-leb _ 32 c.if-size-le32.false, lt-leb _ 64 c.if-size-le64.false, le-leb _ 128 c.if-size-le128.true)

pub returns : goal.returns
unfolding slant of_bits
returns c = rw (lt-leb _ 32 c.if-size-le32.false, lt-leb _ 64 c.if-size-le64.false, lt-leb _ 128 c.if-size-le128.false)
