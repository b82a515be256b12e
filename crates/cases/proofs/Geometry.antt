-- The examples of geometry, computed. Assumes nothing.
use mathlib.Core.Path.{refl}
use lib.Ieee as Ieee
use Rattle.rounding.specs.Nearest.{nearest_of, held, half_up}
use Rattle.geometry.specs.Create.{sight_of, judged, width_den, height_den, coefficients}
use Rattle.geometry.specs.Map.{mapped, map_x, map_y, map_den, placed}
use Rattle.lines.specs.Meet.{meet_of, crossing, line_of}
use Rattle.scans.specs.Scan.{scan_of, start_of, way_of, step_of, next_of, moved_by, placed_by}
use Rattle.scans.specs.Points.{points, points_of, after}
use Rattle.cases.specs.Case.{AllHold}
use Rattle.cases.specs.Geometry.{geometry}

pub geometry_holds : AllHold geometry
unfolding AllHold geometry meet_of crossing line_of points points_of after scan_of start_of way_of step_of next_of moved_by placed_by sight_of judged width_den height_den coefficients mapped map_x map_y map_den placed nearest_of held half_up Ieee.of_int Ieee.add Ieee.sub Ieee.mul Ieee.div Ieee.neg Ieee.lt
geometry_holds = (refl, (refl, (refl, (refl, (refl, (refl, tt))))))
