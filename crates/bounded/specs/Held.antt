-- How grids with their bounds are held in an array of 31 (document 01, "31 groups"). Definitions alone.
use Rattle.std.specs.Prelude.{List, take, Result, Ok, Err}
use Rattle.refusals.specs.Finding.{Finding, found, refused_by}
use Rattle.refusals.specs.declared.Refusal.{Refusal}
use Rattle.laid.specs.Laid.{Laid}
use Rattle.capstones.specs.Blank.{nowhere, no_sight}
use Rattle.bounds.specs.declared.Grid.{Grid}
use Rattle.groupings.specs.Held.{most_groups}
use Rattle.bounded.specs.declared.Grids.{Grids}

-- the blank grid, which stands in an array wherever there is none
abbrev pub no_grid : Grid
no_grid = record { size = 0; c = no_sight; bound0 = nowhere; bound1 = nowhere; bound2 = nowhere; bound3 = nowhere }

-- the grids that stand in an array
abbrev pub grids_of : Grids → List Grid
grids_of s = take s.n s.all

-- they are laid out in the array: blanks alone past them
abbrev pub Held : Grids → Type 0
Held s = Laid most_groups no_grid (Ok tt) s.n s.all

-- what grids come to, or what refuses them
abbrev pub outcome_of : Result Grids Refusal → Finding (List Grid)
outcome_of (Ok s) = found (grids_of s)
outcome_of (Err why) = refused_by why

-- the grids that there are, are laid out in their array
abbrev pub LaidOut : Result Grids Refusal → Type 0
LaidOut (Ok s) = Held s
LaidOut (Err why) = Unit {0}
