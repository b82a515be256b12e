-- How groups are held in an array of 31 (document 01, "arrays of 64 stones, 992 pairs, 31 groups"), what is asked of stones, and how groups are counted. Definitions alone.
use Rattle.std.specs.Prelude.{ℕ, ◌+◌, ◌-◌, ◌≤◌, ◌<◌, ◌≡◌, true, List, length, get_or, take}
use Rattle.refusals.specs.Limits.{most_stones}
use Rattle.refusals.specs.Finding.{Finding}
use Rattle.points.specs.Range.{Near}
use Rattle.laid.specs.Laid as laid
use Rattle.pieces.specs.Count.{Mem, Distinct}
use Rattle.capstones.specs.Blank.{no_stone}
use Rattle.capstones.specs.declared.CapStone.{CapStone}
use Rattle.match_capstones.specs.Proper.{Proper}
use Rattle.match_capstones.specs.declared.Pair.{Pair}
use Rattle.groups.specs.Group.{Framed, Centred, Cornered}
use Rattle.groupings.specs.Used.{group_of, trio_of, is_used}
use Rattle.groupings.specs.declared.Trio.{Trio}
use Rattle.groupings.specs.declared.Groupings.{Groupings}

-- "At most 31 groups result"
abbrev pub most_groups : ℕ
most_groups = 31

-- the blank trio, which stands in an array wherever there is no group
abbrev pub no_trio : Trio
no_trio = record { first = 0; second = 0; third = 0 }

-- the groups that stand in an array
abbrev pub groups_of : Groupings → List Trio
groups_of s = take s.n s.groups

-- what a search for groups comes to: the groups, or a refusal
abbrev pub outcome : Groupings → Finding (List Trio)
outcome s = laid.outcome most_groups no_trio s.verdict s.n s.groups

-- they are laid out in an array of 31
abbrev pub Laid : Groupings → Type 0
Laid s = laid.Laid most_groups no_trio s.verdict s.n s.groups

-- and nothing is refused so far
abbrev pub Holds : Groupings → Type 0
Holds s = laid.Holds most_groups no_trio s.verdict s.n s.groups

-- a stone as the search for marks makes them: its corners are a picture's, its centre is near
pub record Placed (s : CapStone) : Type 0 where
  pub framed : Framed s
  pub near : Near s.center

-- so are the first n of an array, and there are no more than 64
pub record Stones (stones : List CapStone) (n : ℕ) : Type 0 where
  pub few : n ≤ most_stones
  pub each : (k : ℕ) → k < n → Placed (get_or stones k no_stone)

-- the three stones of a trio are of n
pub record Low (n : ℕ) (t : Trio) : Type 0 where
  pub first : t.first < n
  pub second : t.second < n
  pub third : t.third < n

-- groups of n stones: two stones of each group are its own, so that they can be counted; one stone at least is none of these
pub record Counted (n : ℕ) (groups : List Trio) : Type 0 where
  pub own : List ℕ
  pub apart : Distinct own
  pub count : length own ≡ length groups + length groups
  pub used : (i : ℕ) → Mem i own → is_used groups i ≡ true
  pub low : (t : Trio) → Mem t groups → Low n t
  pub own_low : (i : ℕ) → Mem i own → i < n
  pub spare : length groups + length groups ≤ n - 1

-- the same, and a centre that is none of the stones counted
pub record Beside (n idx : ℕ) (groups : List Trio) : Type 0 where
  pub counted : Counted n groups
  pub other : Mem idx counted.own → ⊥
  pub centre_low : idx < n

-- a pair beside a centre can be put on trial
pub record Triable (stones : List CapStone) (idx : ℕ) (pair : Pair) : Type 0 where
  pub proper : Proper most_stones idx pair
  pub centred : Centred (group_of stones (trio_of idx pair))
  pub cornered : Cornered (group_of stones (trio_of idx pair))
