-- `unmap` is `unmap_at` of the whole coordinates as floats. Assumes nothing.
use mathlib.Core.Path.{◌≡◌}
use mir.Syntax.{w32}
use mir.Val.{to_z, of_z}
use Rattle.geometry.specs.Unmap.{unmapped}
use borrow.Author.Rules.{rules}
use Rattle.geometry.proofs.Perspective.unmap.Goals as goal

pub returns : goal.returns
unfolding unmapped
returns c =
    let ex : to_z w32 (of_z w32 c.args.q.x) ≡ c.args.q.x = search rules in
    let ey : to_z w32 (of_z w32 c.args.q.y) ≡ c.args.q.y = search rules in
    rw (c.unmap_at.ensures, ex, ey)
