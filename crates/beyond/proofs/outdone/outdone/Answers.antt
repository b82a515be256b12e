-- `outdone`: a refusal is not given up. Assumes nothing.
use mathlib.Core.Path.{◌≡◌}
use mir.Syntax.{w32}
use mir.Val.{to_z, of_z}
use borrow.Author.Rules.{rules}
use Rattle.cell_fitness.specs.Score.{extent}
use Rattle.beyond.specs.Capped.{outdone}
use Rattle.beyond.proofs.outdone.outdone.Goals as goal

pub is_low-requires : goal.is_low-requires
unfolding extent
is_low-requires c =
    let e : to_z w32 (of_z w32 c.in-Score.score) ≡ c.in-Score.score = search rules in
    record { fact_1 = rw e (rw c.in-Score.is at c.requires.fact_1); fact_2 = c.requires.fact_2 }

pub returns-in-Score : goal.returns-in-Score
unfolding outdone
returns-in-Score c =
    let e : to_z w32 (of_z w32 c.in-Score.score) ≡ c.in-Score.score = search rules in
    let b : to_z w32 (of_z w32 c.args.best) ≡ c.args.best = search rules in
    rw c.in-Score.is (rw (e, b) at c.is_low.ensures)

pub returns-in-Unplaced : goal.returns-in-Unplaced
unfolding outdone
returns-in-Unplaced c = rw c.in-Unplaced.is
