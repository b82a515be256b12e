-- The neighbours of a stone: the other stones whose centres lie in line with its own, as its perspective shows them.
-- The float steps are the source's, in the source's order. Taken from the Rust. Assumes nothing.
use Rattle.std.specs.Prelude.{ℕ, suc, Bool, false, not, eqb, negsuc, get_or, Float}
use mathlib.Core.List.{List, [], ◌∷◌, ◌++◌, flat_map}
use Rattle.std.specs.Float.{nan, inf, fin}
use Rattle.std.specs.Float.Ieee.{lt}
use Rattle.floats.specs.Float64.{◌⊖◌, ◌⊗◌}
use Rattle.points.specs.declared.Point.{Point}
use Rattle.geometry.specs.declared.Perspective.{Perspective}
use Rattle.geometry.specs.declared.GridPoint.{GridPoint}
use Rattle.geometry.specs.Unmap.{unmapped}
use Rattle.capstones.specs.declared.CapStone.{CapStone}
use Rattle.capstones.specs.Blank.{no_stone}
use Rattle.capstones.specs.Modules.{middle}
use Rattle.match_capstones.specs.Only.{only}
use Rattle.match_capstones.specs.declared.Neighbor.{Neighbor}

-- x without its sign: `f64::abs`
unfoldable pub absolute : Float → Float
absolute nan = nan
absolute (inf s) = inf false
absolute (fin s m e) = fin false m e

-- 0.2: the float nearest to a fifth
abbrev pub fifth : Float
fifth = fin false 3602879701896397 (negsuc 53)

-- how far a point lies from a stone's middle along each axis of the stone's grid
unfoldable pub offset : Perspective → Point → GridPoint
offset c q = record { u = absolute ((unmapped c q).u ⊖ middle); v = absolute ((unmapped c q).v ⊖ middle) }

-- a stone lies in line where its distance across is less than a fifth of its distance along
unfoldable pub in_line : Float → Float → Bool
in_line across along = lt across (fifth ⊗ along)

-- stone i as a neighbour
abbrev pub neighbor : ℕ → Float → Neighbor
neighbor i along = record { index = i; distance = along }

-- the same, where it lies in line
abbrev pub one_in_line : ℕ → Float → Float → List Neighbor
one_in_line i across along = only (in_line across along) (neighbor i along)

-- another stone: its index and where it lies
pub record Other : Type 0 where
  pub index : ℕ
  pub at : GridPoint

-- stone i, seen with the perspective c
abbrev pub other : Perspective → ℕ → CapStone → Other
other c i stone = record { index = i; at = offset c stone.center }

-- the same, seen by stone idx, which does not see itself
abbrev pub one_other : Perspective → ℕ → ℕ → CapStone → List Other
one_other c idx i stone = only (not (eqb i idx)) (other c i stone)

-- the stones of a list that starts at index i, seen by stone idx with its perspective c
unfoldable pub others : Perspective → ℕ → ℕ → List CapStone → List Other
others c idx i [] = []
others c idx i (stone ∷ stones) = one_other c idx i stone ++ others c idx (suc i) stones

-- those of them that lie in line, by the coordinates across and along, each with its distance along
abbrev pub neighbors : (GridPoint → Float) → (GridPoint → Float) → List Other → List Neighbor
neighbors across along = flat_map (λ o. one_in_line o.index (across o.at) (along o.at))

-- the others, as stone idx sees them
abbrev pub others_of : List CapStone → ℕ → List Other
others_of stones idx = others (get_or stones idx no_stone).c idx 0 stones

-- in line along v
abbrev pub hlist : List Other → List Neighbor
hlist = neighbors (λ p. p.u) (λ p. p.v)

-- in line along u
abbrev pub vlist : List Other → List Neighbor
vlist = neighbors (λ p. p.v) (λ p. p.u)
