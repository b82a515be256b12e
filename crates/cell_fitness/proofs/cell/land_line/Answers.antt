-- `land_line` takes three points, the decimals apart. Assumes nothing.
use Rattle.cell_fitness.specs.Landed.{landed_line}
use Rattle.cell_fitness.proofs.Decimals.{three_tenths, five_tenths, seven_tenths}
use Rattle.cell_fitness.proofs.cell.land_line.Goals as goal

pub returns : goal.returns
unfolding landed_line
returns c =
    simp (c.land-first.ensures, c.land-second.ensures, c.land-third.ensures, three_tenths, five_tenths, seven_tenths)
