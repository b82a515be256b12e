-- `fitness_cell` takes one line of a cell after the other, where their points lie. Assumes nothing.
use Rattle.cell_fitness.specs.Seen.{cell_of}
use Rattle.cell_fitness.proofs.Decimals.{three_tenths, five_tenths, seven_tenths}
use Rattle.cell_fitness.proofs.Shown.{line_landed}
use Rattle.cell_fitness.proofs.Sums.{scores_three}
use Rattle.cell_fitness.proofs.cell.fitness_cell.Goals as goal

pub returns : goal.returns
unfolding cell_of
returns c =
    let lines = line_landed c.args.pic.now c.args.width c.args.height c.requires.wide c.requires.tall c.args.c in
    let first = simp (c.land_line-first.ensures, three_tenths, ← lines) at c.fitness_line-one.ensures in
    let second = simp (c.land_line-second.ensures, five_tenths, ← lines) at c.fitness_line.ensures in
    let third = simp (c.land_line-third.ensures, seven_tenths, ← lines) at c.fitness_line-2.ensures in
    scores_three first second third c.plus-two.ensures c.plus.ensures
