-- `opposite` turns a score's sign round. Assumes nothing.
use mathlib.Core.Path.{◌≡◌}
use mir.Syntax.{w32}
use mir.Val.{to_z, of_z}
use Rattle.sizes.proofs.Size.{read_back}
use Rattle.cell_fitness.specs.Score.{opposite, extent}
use Rattle.cell_fitness.proofs.Sums.{scores_opposite}
use borrow.Author.Rules.{rules}
use Rattle.cell_fitness.proofs.Fitness.opposite.Goals as goal

pub opposite-requires : goal.opposite-requires
unfolding extent
opposite-requires c =
    let e : to_z w32 (of_z w32 c.in-Score.a) ≡ c.in-Score.a = search rules in
    rw e (rw c.in-Score.is at c.requires)

pub returns-in-Score : goal.returns-in-Score
unfolding opposite
returns-in-Score c =
    let e : to_z w32 (of_z w32 c.in-Score.a) ≡ c.in-Score.a = search rules in
    scores_opposite _ _ (rw (c.in-Score.is, read_back _ c.opposite.type_inv, c.opposite.ensures, e))

pub returns-in-Unplaced : goal.returns-in-Unplaced
unfolding opposite
returns-in-Unplaced c = scores_opposite _ _ (rw c.in-Unplaced.is)
