-- What fitting a group refuses first, in order: document 01, "fit a group 1, 2, 3, 9, 12 for the caller's corners and centres". Definitions alone.
use Rattle.std.specs.Prelude.{ℕ, Bool, false, not, ◌&&◌, List, [], ◌∷◌, ◌++◌, ltb, ℤ, pos, negsuc}
use Rattle.refusals.specs.First.{Test, ◌when◌}
use Rattle.refusals.specs.declared.Refusal.TheVariants as refusal
use Rattle.points.specs.declared.Point.{Point}
use Rattle.picture.specs.Sides.{room_test, room_tests}
use Rattle.stated.specs.Stated.{near}
use Rattle.capstones.specs.declared.CapStone.{CapStone}
use Rattle.table.specs.declared.Table.{Table}
use Rattle.regions.specs.Tests.{table_test}
use Rattle.groups.specs.declared.CapStoneGroup.{CapStoneGroup}

-- a coordinate along a side
unfoldable pub along : ℕ → ℤ → Bool
along side (pos n) = ltb n side
along side (negsuc n) = false

-- a point is a pixel of the picture
unfoldable pub on_picture : ℕ → ℕ → Point → Bool
on_picture w h p = along w p.x && along h p.y

-- all corners of a stone are
unfoldable pub stone_inside : ℕ → ℕ → CapStone → Bool
stone_inside w h s = on_picture w h s.corner0 && (on_picture w h s.corner1 && (on_picture w h s.corner2 && on_picture w h s.corner3))

-- a stone that fit takes: its corners are inside the picture, and its centre is in the range of 12
unfoldable pub stone_taken : ℕ → ℕ → CapStone → Bool
stone_taken w h s = stone_inside w h s && near s.center

-- so are all three
unfoldable pub group_taken : ℕ → ℕ → CapStoneGroup → Bool
group_taken w h g = stone_taken w h g.first && (stone_taken w h g.second && stone_taken w h g.third)

-- 12: a caller's corner is outside the picture, or a caller's centre leaves -10,000..10,000
abbrev pub group_test : ℕ → ℕ → CapStoneGroup → Test
group_test w h g = refusal.Far when not (group_taken w h g)

-- the tests of fit that are its own: 3 for the scratch, 9, 12
abbrev pub own_tests : ℕ → ℕ → ℕ → Table → CapStoneGroup → List Test
own_tests w h room T g = room_test w h room ∷ table_test T w h ∷ group_test w h g ∷ []

-- 1, 2, 3 for the stack, and then its own
abbrev pub fit_tests : ℕ → ℕ → ℕ → ℕ → ℕ → Table → CapStoneGroup → List Test
fit_tests w h len lent room T g = room_tests w h len lent ++ own_tests w h room T g
