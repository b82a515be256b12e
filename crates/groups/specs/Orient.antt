-- A group put in order. Taken from the Rust (`from_group`, "Make sure A-B-C is clockwise"). Definitions alone.
use Rattle.std.specs.Prelude.{cond, pos}
use Rattle.std.specs.Int.Signed.{lt_z}
use Rattle.corners.specs.Scores.{line_from}
use Rattle.groups.specs.Side.{side_of, reversed}
use Rattle.groups.specs.declared.CapStoneGroup.{CapStoneGroup}
use Rattle.groups.specs.declared.Oriented.{Oriented}

-- the first stone and the third change places
abbrev pub swapped : CapStoneGroup → CapStoneGroup
swapped g = record { first = g.third; second = g.second; third = g.first }

-- the line leads from the first centre to the third. Where the second centre lies to its right, the two stones are swapped and the direction is turned round; document 01: h0 "stays the old one"
unfoldable pub oriented : CapStoneGroup → Oriented
oriented g =
    let h0 = g.first.center in
    let hd = line_from h0 g.third.center in
    cond (lt_z (pos 0) (side_of h0 hd g.second.center))
    (record { group = swapped g; h0 = h0; hd = reversed hd })
    (record { group = g; h0 = h0; hd = hd })
