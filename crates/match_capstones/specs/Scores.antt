-- The sets that a stone's neighbours make, one of each list, and their scores. The float steps and the order in which the sets are made are the source's.
-- A score that is no number keeps its set: document 01, "Groups and grids"; the Rust drops it. Assumes nothing.
use Rattle.std.specs.Prelude.{Bool, false, ◌||◌, cond, negsuc, Float}
use mathlib.Core.List.{List, flat_map}
use Rattle.std.specs.Float.{fin}
use Rattle.std.specs.Float.Ieee.{lt, is_nan}
use Rattle.floats.specs.Float64.{◌⊖◌, ◌⊘◌, one}
use Rattle.match_capstones.specs.Only.{only}
use Rattle.match_capstones.specs.Neighbors.{absolute}
use Rattle.match_capstones.specs.declared.Neighbor.{Neighbor}
use Rattle.match_capstones.specs.declared.NeighborSet.{NeighborSet}

-- how unlike two distances are: the share of the longer by which the shorter falls short
unfoldable pub score_of : Float → Float → Float
score_of h v = cond (lt h v) (absolute (one ⊖ h ⊘ v)) (absolute (one ⊖ v ⊘ h))

-- a set is kept where its score is below 0.25, or no number
unfoldable pub viable : Float → Bool
viable score = lt score (fin false 1 (negsuc 1)) || is_nan score

-- a neighbour of each list
abbrev pub set_of : Neighbor → Neighbor → NeighborSet
set_of hn vn = record { score = score_of hn.distance vn.distance; h = hn.index; v = vn.index }

-- that set, where it is kept
abbrev pub one_set : Neighbor → Neighbor → List NeighborSet
one_set hn vn = only (viable (set_of hn vn).score) (set_of hn vn)

-- the sets that one neighbour makes with each of a list
abbrev pub sets_of : List Neighbor → Neighbor → List NeighborSet
sets_of vns hn = flat_map (one_set hn) vns

-- all sets, in the order made
abbrev pub made : List Neighbor → List Neighbor → List NeighborSet
made hns vns = flat_map (sets_of vns) hns
