-- The examples of marks, computed. Assumes nothing.
use mathlib.Core.Path.{refl}
use Rattle.runs.specs.Mark.{average, all_near, mark_like}
use Rattle.rings.specs.Ratio.{ratio, ring_like}
use Rattle.cases.specs.Case.{AllHold}
use Rattle.cases.specs.Marks.{marks}

pub marks_hold : AllHold marks
unfolding AllHold marks average all_near mark_like ratio ring_like
marks_hold = (refl, (refl, (refl, (refl, (refl, (refl, (refl, (refl, (refl, (refl, tt))))))))))
