-- `fill_step` does a turn: it takes the entry on top, and meets its row unless the pixel is painted by now. Assumes nothing.
use Prim.Native.Nat.{◌-◌}
use native.Mathlib.Omega.{arith}
use mathlib.Core.Path.{refl}
use Rattle.fill.proofs.Stepping.{entry_in, entry_fits, entry_line, step_passed, found_meetable, step_met}
use Rattle.fill.proofs.step.fill_step.Goals as goal

pub overflow_cast-e : goal.overflow_cast-e
overflow_cast-e c = omega (arith, c.slice_known-3-1.given (c.args.sp - 1))

pub overflow_mul-base : goal.overflow_mul-base
overflow_mul-base c = omega (arith, entry_fits c.requires, c.well_formed)

pub overflow_add-base : goal.overflow_add-base
overflow_add-base c = omega (arith, entry_fits c.requires, c.well_formed)

pub bounds-pic-base : goal.bounds-pic-base
bounds-pic-base c = entry_fits c.requires

pub returns-then-pic-base : goal.returns-then-pic-base
returns-then-pic-base c = step_passed c.requires c.if-pic-base.true

pub row_at-r-requires : goal.row_at-r-requires
row_at-r-requires c = (refl, (entry_in c.requires).0, entry_line c.requires)

pub meet_row-end-requires : goal.meet_row-end-requires
meet_row-end-requires c = found_meetable c.requires c.if-pic-base.false c.row_at-r.ensures

pub returns : goal.returns
returns c = step_met c.requires c.if-pic-base.false c.row_at-r.ensures c.meet_row-end.ensures
