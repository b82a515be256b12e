-- `map` places both quotients, rounded. Assumes nothing.
use Rattle.geometry.specs.Map.{mapped, map_x, map_y}
use Rattle.geometry.proofs.Perspective.map.Goals as goal

pub returns : goal.returns
unfolding mapped map_x map_y
returns c = rw (c.place.ensures, c.map_den-den.ensures)
