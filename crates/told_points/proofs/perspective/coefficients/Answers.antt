-- `coefficients` writes a perspective's eight coefficients into the first places. Assumes nothing.
use mathlib.Core.Path.{◌∙◌}
use Rattle.told.proofs.Tell.{tell_values, stored_eight}
use Rattle.told_places.specs.Put.{put_at}
use Rattle.told_points.specs.Answers.{sight_values}
use Rattle.told_points.proofs.perspective.coefficients.Goals as goal

pub returns : goal.returns
unfolding sight_values put_at
returns c =
    let p = c.args.p in
    tell_values _ (c.put_floats.ensures ∙ stored_eight p.c0 p.c1 p.c2 p.c3 p.c4 p.c5 p.c6 p.c7 c.args.out.now c.requires)
