-- `meet_row` paints the row, then pushes for the line above and for the line below, as the rule says. Assumes nothing.
use native.Mathlib.Omega.{arith}
use borrow.Author.Rules.{rules}
use Rattle.fill.proofs.Stepping.{row_fits, row_wide, painted_sized, room_above, room_below, row_met}
use Rattle.fill.proofs.step.meet_row.Goals as goal

pub overflow_mul-base : goal.overflow_mul-base
overflow_mul-base c = omega (arith, row_fits c.requires, c.well_formed)

pub overflow_add-base : goal.overflow_add-base
overflow_add-base c = omega (arith, row_fits c.requires, c.well_formed)

pub paint_run-requires : goal.paint_run-requires
paint_run-requires c = row_fits c.requires

pub seed_above-top-requires : goal.seed_above-top-requires
seed_above-top-requires c =
    record { sized = (painted_sized c.requires c.paint_run.ensures, c.requires.deep, row_wide c.requires); sp_in_bounds = room_above c.requires c.paint_run.ensures }

pub seed_below-requires : goal.seed_below-requires
seed_below-requires c =
    record { sized = (painted_sized c.requires c.paint_run.ensures, c.requires.deep, row_wide c.requires); sp_in_bounds = room_below c.requires c.paint_run.ensures _ _ c.seed_above-top.ensures (search rules) }

pub returns : goal.returns
returns c = row_met c.requires c.paint_run.ensures _ _ _ c.seed_above-top.ensures c.seed_below.ensures
