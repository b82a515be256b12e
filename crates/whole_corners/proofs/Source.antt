-- The source's steps are those of the formulas. Assumes nothing.
use mathlib.Core.Path.{◌≡◌, refl}
use Rattle.geometry.specs.Create.{sight_of, judged, width_den, height_den, coefficients}
use Rattle.exact.specs.Formula.{worth}
use Rattle.whole_corners.specs.Formulas.{formula}
use Rattle.whole_corners.specs.Frame.{Frame, sight}
use Rattle.whole_corners.specs.Outcome.{stepped}

pub source_steps : (f : Frame) → sight f ≡ stepped f
unfolding sight_of judged width_den height_den coefficients stepped worth formula
source_steps f = refl
