-- `fill_back` fills an entry's piece back to black where it still shows its number. Assumes nothing.
use native.Mathlib.Omega.{arith}
use mathlib.Core.Path.{refl}
use Rattle.regions.specs.Lookup.{in_paint, out_of_paint}
use Rattle.regions.proofs.Asks.{place, can_paint}
use Rattle.regions.proofs.number.fill_back.Goals as goal

pub overflow_mul-base : goal.overflow_mul-base
overflow_mul-base c =
    omega (arith, place c.requires.0 c.requires.1.in_x c.requires.1.in_y)

pub overflow_add-base : goal.overflow_add-base
overflow_add-base c =
    omega (arith, place c.requires.0 c.requires.1.in_x c.requires.1.in_y)

pub bounds-pic-base : goal.bounds-pic-base
bounds-pic-base c =
    place c.requires.0 c.requires.1.in_x c.requires.1.in_y

pub returns-then-pic-base : goal.returns-then-pic-base
returns-then-pic-base c = out_of_paint c.if-pic-base.true refl

pub fill_black-requires : goal.fill_black-requires
fill_black-requires c =
    can_paint c.requires.0 c.requires.1.in_x c.requires.1.in_y c.requires.2 (λ e. omega arith)

pub returns : goal.returns
returns c = in_paint c.if-pic-base.false c.fill_black.ensures
