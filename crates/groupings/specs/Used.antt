-- Groups by the indices of their stones, and which stones are used: taken from the Rust, `find_groupings`. Definitions alone.
use Rattle.std.specs.Prelude.{ℕ, Bool, false, ◌||◌, List, [], ◌∷◌, eqb, get_or}
use Rattle.capstones.specs.Blank.{no_stone}
use Rattle.capstones.specs.declared.CapStone.{CapStone}
use Rattle.match_capstones.specs.declared.Pair.{Pair}
use Rattle.groups.specs.declared.CapStoneGroup.{CapStoneGroup}
use Rattle.groupings.specs.declared.Trio.{Trio}

-- the stones that a trio names
abbrev pub group_of : List CapStone → Trio → CapStoneGroup
group_of stones t = record { first = get_or stones t.first no_stone; second = get_or stones t.second no_stone; third = get_or stones t.third no_stone }

-- a centre with a pair of its neighbours: h stands first, the centre second, v third
abbrev pub trio_of : ℕ → Pair → Trio
trio_of idx pair = record { first = pair.h; second = idx; third = pair.v }

-- a trio names stone i
unfoldable pub names : Trio → ℕ → Bool
names t i = eqb t.first i || (eqb t.second i || eqb t.third i)

-- stone i is used: one of the groups names it
unfoldable pub is_used : List Trio → ℕ → Bool
is_used [] i = false
is_used (t ∷ groups) i = names t i || is_used groups i

-- one of a pair's stones is used
abbrev pub pair_used : List Trio → Pair → Bool
pair_used groups pair = is_used groups pair.h || is_used groups pair.v
