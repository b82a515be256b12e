-- Document 01's examples marked P hold: one claim for the whole table. Assumes nothing.
use mathlib.Core.List.{List, [], ◌∷◌, ◌++◌}
use Rattle.cases.specs.Case.{Case, ◌answers◌, states, AllHold}
use Rattle.cases.specs.Geometry.{geometry}
use Rattle.cases.specs.Pictures.{pictures}
use Rattle.cases.specs.Marks.{marks}
use Rattle.cases.specs.Grids.{grids}
use Rattle.cases.specs.Table.{table}
use Rattle.cases.proofs.Geometry.{geometry_holds}
use Rattle.cases.proofs.Pictures.{pictures_hold}
use Rattle.cases.proofs.Marks.{marks_hold}
use Rattle.cases.proofs.Grids.{grids_hold}

both : (cs ds : List Case) → AllHold cs → AllHold ds → AllHold (cs ++ ds)
unfolding AllHold
both [] ds p q = q
both ((asked answers answer) ∷ cs) ds p q = (p.0, both cs ds p.1 q)
both (states fact ∷ cs) ds p q = (p.0, both cs ds p.1 q)

pub document_01 : AllHold table
unfolding table
document_01 =
    both geometry (pictures ++ (marks ++ grids)) geometry_holds
    (both pictures (marks ++ grids) pictures_hold
    (both marks grids marks_hold grids_hold))
