-- What a ranking answers, in document 01's terms: the pairs in their order, or refusal 11 or 16. Assumes nothing.
use Rattle.std.specs.Prelude.{ℕ, ◌-◌, ◌≡◌, List, [], ◌∷◌, ◌++◌, map, leb, ltb, length, take, replicate, Result, Ok, Err}
use Rattle.refusals.specs.declared.Refusal.{Refusal}
use Rattle.refusals.specs.Limits.{most_stones}
use Rattle.refusals.specs.Finding.{Finding, found, refused, refused_by}
use Rattle.refusals.specs.First.{Test, ◌when◌, first}
use Rattle.refusals.specs.declared.Refusal.TheVariants.{Stones, Index}
use Rattle.capstones.specs.declared.CapStone.{CapStone}
use Rattle.match_capstones.specs.Neighbors.{others_of, hlist, vlist}
use Rattle.match_capstones.specs.Scores.{made}
use Rattle.match_capstones.specs.Order.{ranked}
use Rattle.match_capstones.specs.declared.NeighborSet.{NeighborSet}
use Rattle.match_capstones.specs.declared.Pair.{Pair}
use Rattle.match_capstones.specs.declared.Ranked.{Ranked}

-- no stone has more pairs: of 63 others at most 31 and 32 make the two lists
abbrev pub most_pairs : ℕ
most_pairs = 992

-- how many pairs there are, or a refusal by its number
abbrev pub meaning : Result ℕ Refusal → Finding ℕ
meaning (Ok count) = found count
meaning (Err why) = refused_by why

-- a set without its score
abbrev pub pair_of : NeighborSet → Pair
pair_of s = record { h = s.h; v = s.v }

-- the pairs of stone idx's neighbours, in their order
unfoldable pub pairs_of : List CapStone → ℕ → List Pair
pairs_of stones idx = map pair_of (ranked (made (hlist (others_of stones idx)) (vlist (others_of stones idx))))

-- 11: there are more than 64 stones
abbrev pub stones_test : ℕ → Test
stones_test n = Stones when ltb most_stones n

-- 16: the index is outside the list of stones
abbrev pub index_test : ℕ → ℕ → Test
index_test n idx = Index when leb n idx

-- what ranking the neighbours of stone idx of the first n finds: 11, 16, or the pairs
unfoldable pub ranking : List CapStone → ℕ → ℕ → Finding (List Pair)
ranking stones n idx = first (stones_test n ∷ index_test n idx ∷ []) (found (pairs_of (take n stones) idx))

-- the blank pair
abbrev pub no_pair : Pair
no_pair = record { h = 0; v = 0 }

-- the count of what was found
abbrev pub counted : Finding (List Pair) → Finding ℕ
counted (found pairs) = found (length pairs)
counted (refused n) = refused n

-- what was found, and blank pairs to the array's end
unfoldable pub laid_out : Finding (List Pair) → List Pair
laid_out (found pairs) = pairs ++ replicate (most_pairs - length pairs) no_pair
laid_out (refused n) = replicate most_pairs no_pair

-- r tells a finding, and nothing else
pub record Tells (finding : Finding (List Pair)) (r : Ranked) : Type 0 where
  pub answer : meaning r.answer ≡ counted finding
  pub pairs : r.pairs ≡ laid_out finding
