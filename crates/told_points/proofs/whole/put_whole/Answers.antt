-- `put_whole` writes a whole number that an `i32` holds, and refuses any other. Assumes nothing.
use mathlib.Core.Path.{◌≡◌}
use mir.Syntax.{w32}
use mir.Val.{to_z, of_z}
use Rattle.told_points.specs.Answers.{whole_values}
use Rattle.told.proofs.Tell.{tell_refused}
use borrow.Author.Rules.{rules}
use Rattle.told_points.proofs.whole.put_whole.Goals as goal

pub returns-in-Some : goal.returns-in-Some
unfolding whole_values
returns-in-Some c =
    let same : to_z w32 (of_z w32 c.in-Some.z) ≡ c.in-Some.z = search rules in
    rw c.in-Some.is (rw same at c.number.ensures)

pub returns-in-None : goal.returns-in-None
unfolding whole_values
returns-in-None c = rw c.in-None.is (tell_refused 13 _)
