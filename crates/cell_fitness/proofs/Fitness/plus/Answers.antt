-- `plus` adds two scores; where one is refused, so are both. Assumes nothing.
use mathlib.Core.Path.{◌≡◌}
use mir.Syntax.{w32}
use mir.Val.{to_z, of_z}
use Rattle.sizes.proofs.Size.{read_back}
use Rattle.cell_fitness.specs.Score.{◌⊞◌, extent}
use Rattle.cell_fitness.specs.Scores.{meaning}
use Rattle.cell_fitness.proofs.Sums.{scores_sum}
use borrow.Author.Rules.{rules}
use Rattle.cell_fitness.proofs.Fitness.plus.Goals as goal

pub sum-requires : goal.sum-requires
unfolding extent
sum-requires c =
    let ea : to_z w32 (of_z w32 c.in-Score.a) ≡ c.in-Score.a = search rules in
    let eb : to_z w32 (of_z w32 c.in-Score-other.b) ≡ c.in-Score-other.b = search rules in
    simp (ea, eb) (rw (c.in-Score.is, c.in-Score-other.is) at c.requires)

pub returns-in-Score-other : goal.returns-in-Score-other
unfolding ◌⊞◌
returns-in-Score-other c =
    let ea : to_z w32 (of_z w32 c.in-Score.a) ≡ c.in-Score.a = search rules in
    let eb : to_z w32 (of_z w32 c.in-Score-other.b) ≡ c.in-Score-other.b = search rules in
    scores_sum (meaning c.args.self) (meaning c.args.other) _
    (rw (c.in-Score.is, c.in-Score-other.is, read_back _ c.sum.type_inv, c.sum.ensures) (simp (ea, eb)))

pub returns-in-Unplaced-other : goal.returns-in-Unplaced-other
unfolding ◌⊞◌
returns-in-Unplaced-other c =
    scores_sum (meaning c.args.self) (meaning c.args.other) _ (rw (c.in-Score.is, c.in-Unplaced-other.is))

pub returns-in-Unplaced : goal.returns-in-Unplaced
unfolding ◌⊞◌
returns-in-Unplaced c =
    scores_sum (meaning c.args.self) (meaning c.args.other) _ (rw c.in-Unplaced.is)
