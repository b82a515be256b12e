-- Which stones are grouped, centre by centre and pair by pair: document 01, "Groups and grids"; the order of centres and pairs is taken from the Rust, `find_groupings`. Definitions alone.
use Rattle.std.specs.Prelude.{ℕ, suc, ◌≡◌, true, false, List, [], ◌∷◌, ◌++◌, length}
use Rattle.refusals.specs.Finding.{Finding, found, refused}
use Rattle.table.specs.declared.Table.{Table}
use Rattle.capstones.specs.declared.CapStone.{CapStone}
use Rattle.match_capstones.specs.Answer.{pairs_of}
use Rattle.match_capstones.specs.declared.Pair.{Pair}
use Rattle.grids.specs.declared.SkewedGridLocation.{SkewedGridLocation}
use Rattle.groupings.specs.Trial.{Trial}
use Rattle.groupings.specs.Used.{group_of, trio_of, is_used, pair_used}
use Rattle.groupings.specs.declared.Trio.{Trio}

-- the groups after a trial: a grid makes one more, no grid none, and "a refusal met in a trial is detect's own"
unfoldable pub after_trial : List Trio → Trio → Finding (List SkewedGridLocation) → Finding (List Trio)
after_trial groups t (found []) = found groups
after_trial groups t (found (grid ∷ more)) = found (groups ++ (t ∷ []))
after_trial groups t (refused n) = refused n

-- a pair of the centre idx, after some groups: passed over where one of its stones is used, else put on trial
pub data PairTried (p : List ℕ) (w h : ℕ) (T : Table) (stones : List CapStone) (idx : ℕ) (pair : Pair) (groups : List Trio) (f : Finding (List Trio)) : Type 0 where
  passed_over : pair_used groups pair ≡ true → f ≡ found groups → PairTried p w h T stones idx pair groups f
  on_trial : pair_used groups pair ≡ false → (fit : Finding (List SkewedGridLocation)) → Trial p w h T (group_of stones (trio_of idx pair)) fit
      → f ≡ after_trial groups (trio_of idx pair) fit → PairTried p w h T stones idx pair groups f

-- the pairs of a centre, one after the other: "After a group is found, the remaining pairs of the same centre stone are still tried"; the first refusal ends it
pub data PairsTried (p : List ℕ) (w h : ℕ) (T : Table) (stones : List CapStone) (idx : ℕ) : List Pair → List Trio → Finding (List Trio) → Type 0 where
  no_pair_left : {groups : List Trio} → PairsTried p w h T stones idx [] groups (found groups)
  next_pair : {pair : Pair} {more : List Pair} {groups next : List Trio} {f : Finding (List Trio)}
      → PairTried p w h T stones idx pair groups (found next) → PairsTried p w h T stones idx more next f → PairsTried p w h T stones idx (pair ∷ more) groups f
  pair_refused : {pair : Pair} {more : List Pair} {groups : List Trio} {n : ℕ}
      → PairTried p w h T stones idx pair groups (refused n) → PairsTried p w h T stones idx (pair ∷ more) groups (refused n)

-- a centre, after some groups: passed over where it is used, else all its pairs are tried in their order
pub data CentreTried (p : List ℕ) (w h : ℕ) (T : Table) (stones : List CapStone) (idx : ℕ) (groups : List Trio) (f : Finding (List Trio)) : Type 0 where
  used_before : is_used groups idx ≡ true → f ≡ found groups → CentreTried p w h T stones idx groups f
  with_pairs : is_used groups idx ≡ false → PairsTried p w h T stones idx (pairs_of stones idx) groups f → CentreTried p w h T stones idx groups f

-- so many centres from idx on, one after the other; the first refusal ends it
pub data CentresTried (p : List ℕ) (w h : ℕ) (T : Table) (stones : List CapStone) : ℕ → ℕ → List Trio → Finding (List Trio) → Type 0 where
  no_centre_left : {idx : ℕ} {groups : List Trio} → CentresTried p w h T stones 0 idx groups (found groups)
  next_centre : {left idx : ℕ} {groups next : List Trio} {f : Finding (List Trio)}
      → CentreTried p w h T stones idx groups (found next) → CentresTried p w h T stones left (suc idx) next f → CentresTried p w h T stones (suc left) idx groups f
  centre_refused : {left idx : ℕ} {groups : List Trio} {n : ℕ}
      → CentreTried p w h T stones idx groups (refused n) → CentresTried p w h T stones (suc left) idx groups (refused n)

-- what stones come to: every one is a centre in its turn, and at first there is no group
abbrev pub Grouped : List ℕ → ℕ → ℕ → Table → List CapStone → Finding (List Trio) → Type 0
Grouped p w h T stones f = CentresTried p w h T stones (length stones) 0 [] f
