-- `once_each` is the test of OnceEach: it goes down and marks what it has seen. Assumes nothing.
use Rattle.table.proofs.Marks.{Marked}
use Rattle.table.proofs.age.once_each.Given as goal

abbrev pub invariant-loop-i : goal.invariant-loop-i
invariant-loop-i l = Marked l.n l.age l.seen l.i
