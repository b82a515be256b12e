-- The blank stone, which stands in an array wherever there is none. Past the end of a list of stones the logic reads the same record. Assumes nothing.
use Rattle.std.specs.Prelude.{pos}
use Rattle.std.specs.Float.{nan}
use Rattle.points.specs.declared.Point.{Point}
use Rattle.geometry.specs.declared.Perspective.{Perspective}
use Rattle.capstones.specs.declared.CapStone.{CapStone}

abbrev pub nowhere : Point
nowhere = record { x = pos 0; y = pos 0 }

-- no coefficient is a number
abbrev pub no_sight : Perspective
no_sight = record { c0 = nan; c1 = nan; c2 = nan; c3 = nan; c4 = nan; c5 = nan; c6 = nan; c7 = nan }

abbrev pub no_stone : CapStone
no_stone =
    record { corner0 = nowhere; corner1 = nowhere; corner2 = nowhere; corner3 = nowhere; center = nowhere; c = no_sight }
