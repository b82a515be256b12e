-- How located grids are held in an array of 31 (document 01, "31 groups"). Definitions alone.
use Rattle.std.specs.Prelude.{List, take}
use Rattle.refusals.specs.Finding.{Finding}
use Rattle.laid.specs.Laid.{outcome, Laid, Holds}
use Rattle.capstones.specs.Blank.{no_sight}
use Rattle.grids.specs.declared.SkewedGridLocation.{SkewedGridLocation}
use Rattle.groupings.specs.Held.{most_groups}
use Rattle.locations.specs.declared.Locations.{Locations}

-- the blank location, which stands in an array wherever there is none
abbrev pub no_location : SkewedGridLocation
no_location = record { size = 0; c = no_sight }

-- the locations that stand in an array
abbrev pub locations_of : Locations → List SkewedGridLocation
locations_of s = take s.n s.all

-- what the pass comes to: the locations, or a refusal
abbrev pub outcome_of : Locations → Finding (List SkewedGridLocation)
outcome_of s = outcome most_groups no_location s.verdict s.n s.all

-- they are laid out in the array
abbrev pub LaidOut : Locations → Type 0
LaidOut s = Laid most_groups no_location s.verdict s.n s.all

-- and nothing is refused so far
abbrev pub Held : Locations → Type 0
Held s = Holds most_groups no_location s.verdict s.n s.all
