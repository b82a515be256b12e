-- The order of sets: by score, those that rank alike in the order made, and those whose score is no number after all others (document 01, "Groups and grids").
-- `RankingOf` says what a list in that order is, `ranked` computes it, and laws say that it is the only one. Assumes nothing.
use Rattle.std.specs.Prelude.{◌≡◌, Bool, false, not, ◌&&◌, ◌||◌, cond, Float}
use mathlib.Core.List.{List, [], ◌∷◌, flat_map}
use Rattle.std.specs.Float.Ieee.{lt, is_nan}
use Rattle.match_capstones.specs.Only.{only}
use Rattle.match_capstones.specs.All.{Pairwise}
use Rattle.match_capstones.specs.declared.NeighborSet.{NeighborSet}

-- a score ranks before another: it is less, or it is a number and the other is none
unfoldable pub ranks_before : Float → Float → Bool
ranks_before a b = lt a b || (not (is_nan a) && is_nan b)

-- neither ranks before the other
abbrev pub alike : Float → Float → Bool
alike a b = not (ranks_before a b) && not (ranks_before b a)

-- no set of the list ranks before one that stands ahead of it
abbrev pub Sorted : List NeighborSet → Type 0
Sorted = Pairwise (λ s t. ranks_before t.score s.score ≡ false)

-- the sets of a list that rank as x does, in the list's order
abbrev pub alikes : Float → List NeighborSet → List NeighborSet
alikes x = flat_map (λ s. only (alike x s.score) s)

-- l holds the sets made, sorted, and sets that rank alike stand in it as they were made
pub record RankingOf (made l : List NeighborSet) : Type 0 where
  pub sorted : Sorted l
  pub same : (x : Float) → alikes x l ≡ alikes x made

-- s goes into a list before the first that does not rank before it
unfoldable pub inserted : NeighborSet → List NeighborSet → List NeighborSet
inserted s [] = s ∷ []
inserted s (t ∷ ts) = cond (ranks_before t.score s.score) (t ∷ inserted s ts) (s ∷ t ∷ ts)

-- the sets in their order: the last made is a list, and each one made before goes into it
unfoldable pub ranked : List NeighborSet → List NeighborSet
ranked [] = []
ranked (s ∷ ss) = inserted s (ranked ss)
