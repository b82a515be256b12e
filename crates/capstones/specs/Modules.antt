-- A stone in modules, the cells of its symbol: it is seven of them wide and high. Definitions alone.
use Rattle.std.specs.Prelude.{false, pos, negsuc, Float}
use Rattle.std.specs.Float.{fin}

-- its width and its height
abbrev pub seven : Float
seven = fin false 7 (pos 0)

-- its middle, on either axis: 3.5, which is 7 x 2^-1
abbrev pub middle : Float
middle = fin false 7 (negsuc 0)
