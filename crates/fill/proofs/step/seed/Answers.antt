-- `seed` leaves the seed alone on the stack. Assumes nothing.
use native.Mathlib.Omega.{arith}
use mathlib.Core.Path.{refl, ap, ◌∙◌}
use mathlib.Core.List.{List, ◌∷◌}
use Rattle.pieces.specs.Picture.{Pixel, pixel}
use Rattle.fill.proofs.Inside.{pixel_inside}
use Rattle.fill.proofs.Entries.{held_none, held_push}
use Rattle.fill.proofs.step.seed.Goals as goal

pub overflow_mul-base : goal.overflow_mul-base
overflow_mul-base c = omega (arith, pixel_inside c.requires.0 _ _ c.requires.1 c.requires.2, c.well_formed)

pub overflow_add-result : goal.overflow_add-result
overflow_add-result c = omega (arith, pixel_inside c.requires.0 _ _ c.requires.1 c.requires.2, c.well_formed)

pub bounds-pic-base : goal.bounds-pic-base
bounds-pic-base c = pixel_inside c.requires.0 _ _ c.requires.1 c.requires.2

pub returns : goal.returns
returns c =
    (refl, held_push c.args.stack.now 0 _ _ 1 c.requires.3 (omega (arith, c.requires.1, c.requires.0.wide)) refl ∙ ap (λ (st : List Pixel). pixel c.args.x c.args.y ∷ st) (held_none _))
