-- Document 01's examples marked P, all of them. Assumes nothing.
use Rattle.std.specs.Prelude.{List, ◌++◌}
use Rattle.cases.specs.Case.{Case}
use Rattle.cases.specs.Geometry.{geometry}
use Rattle.cases.specs.Pictures.{pictures}
use Rattle.cases.specs.Marks.{marks}
use Rattle.cases.specs.Grids.{grids}

unfoldable pub table : List Case
table = geometry ++ (pictures ++ (marks ++ grids))
