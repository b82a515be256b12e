-- `put_meet` writes the coordinates of a crossing, and nothing where there is none. Assumes nothing.
use mathlib.Core.Path.{◌≡◌}
use mir.Syntax.{w32}
use mir.Val.{to_z, of_z}
use Rattle.told_lines.specs.Answers.{meet_values}
use Rattle.told.proofs.Tell.{tell_nothing}
use borrow.Author.Rules.{rules}
use Rattle.told_lines.proofs.line.put_meet.Goals as goal

pub returns-in-Some : goal.returns-in-Some
unfolding meet_values
returns-in-Some c =
    let same_x : to_z w32 (of_z w32 c.in-Some.p.x) ≡ c.in-Some.p.x = search rules in
    let same_y : to_z w32 (of_z w32 c.in-Some.p.y) ≡ c.in-Some.p.y = search rules in
    rw c.in-Some.is (rw (same_x, same_y) at c.numbers.ensures)

pub returns-in-None : goal.returns-in-None
unfolding meet_values
returns-in-None c = rw c.in-None.is (tell_nothing _)
