-- `put_spot` writes the coordinates of a point that is placed, and refuses one that is not. Assumes nothing.
use mathlib.Core.Path.{◌≡◌}
use mir.Syntax.{w32}
use mir.Val.{to_z, of_z}
use Rattle.told_points.specs.Answers.{place_values}
use Rattle.told.proofs.Tell.{tell_refused}
use borrow.Author.Rules.{rules}
use Rattle.told_points.proofs.perspective.put_spot.Goals as goal

pub returns-in-Some : goal.returns-in-Some
unfolding place_values
returns-in-Some c =
    let same_x : to_z w32 (of_z w32 c.in-Some.p.x) ≡ c.in-Some.p.x = search rules in
    let same_y : to_z w32 (of_z w32 c.in-Some.p.y) ≡ c.in-Some.p.y = search rules in
    rw c.in-Some.is (rw (same_x, same_y) at c.numbers.ensures)

pub returns-in-None : goal.returns-in-None
unfolding place_values
returns-in-None c = rw c.in-None.is (tell_refused 13 _)
