-- How the loops go on from pair to pair and from centre to centre. Assumes nothing.
use Prim.Native.Nat.{ℕ, suc, ◌+◌, ◌-◌, ◌≤◌, ◌<◌}
use native.Mathlib.Numerals.{add-one}
use native.Mathlib.Omega.{arith}
use mathlib.Core.Path.{◌≡◌, sym, ap, ◌∙◌, subst}
use mathlib.Core.Bool.{true, false}
use mathlib.Core.List.{List, [], ◌∷◌}
use lib.ListN.{length, get_or, take, drop}
use lib.Seq.{drop-cons, drop-length, get_or-take, length-take-le}
use Rattle.refusals.specs.Limits.{most_stones}
use Rattle.refusals.specs.Finding.{Finding, found, refused}
use Rattle.laid.specs.Laid.{goes, count_in}
use Rattle.laid.proofs.Standing.{held_count, goes_holds, stops_refused}
use Rattle.table.specs.declared.Table.{Table}
use Rattle.capstones.specs.declared.CapStone.{CapStone}
use Rattle.match_capstones.specs.Answer.{no_pair}
use Rattle.match_capstones.specs.Proper.{Proper}
use Rattle.match_capstones.specs.declared.Pair.{Pair}
use Rattle.groupings.specs.Used.{pair_used}
use Rattle.groupings.specs.Groups.{PairTried, PairsTried, no_pair_left, next_pair, pair_refused, CentreTried, CentresTried, no_centre_left, next_centre, centre_refused, Grouped}
use Rattle.groupings.specs.Held.{most_groups, no_trio, groups_of, outcome, Laid, Holds, Counted, Beside, Triable}
use Rattle.groupings.specs.declared.Trio.{Trio}
use Rattle.groupings.specs.declared.Groupings.{Groupings}
use Rattle.groupings.proofs.Few.{counted_none, pair_room, pair_counted, centre_counted}

-- k pairs are tried, and nothing is refused: what the others come to, all come to
pub record AfterPairs (p : List ℕ) (w h : ℕ) (T : Table) (stones : List CapStone) (idx : ℕ) (pairs : List Pair) (start : List Trio) (k : ℕ) (s : Groupings) : Type 0 where
  pub holds : Holds s
  pub beside : Beside most_stones idx (groups_of s)
  pub leads : (f : Finding (List Trio)) → PairsTried p w h T stones idx (drop k pairs) (groups_of s) f → PairsTried p w h T stones idx pairs start f

module _ {p : List ℕ} {w h : ℕ} {T : Table} {stones : List CapStone} {idx : ℕ} {pairs : List Pair} where
  pub pairs_begin : {s : Groupings} → Holds s → Beside most_stones idx (groups_of s) → AfterPairs p w h T stones idx pairs (groups_of s) 0 s
  pairs_begin H B = record { holds = H; beside = B; leads = λ f X. X }

  module _ {start : List Trio} {k : ℕ} {s : Groupings} (A : AfterPairs p w h T stones idx pairs start k s) where
    pub pairs_end : k ≡ length pairs → PairsTried p w h T stones idx pairs start (outcome s)
    pairs_end e =
        let none : drop k pairs ≡ [] = ap (λ (j : ℕ). drop j pairs) e ∙ drop-length pairs in
        rw A.holds.going (A.leads (found (groups_of s)) (rw none no_pair_left))

    module _ (low : k < length pairs) (r : Groupings) (X : PairTried p w h T stones idx (get_or pairs k no_pair) (groups_of s) (outcome r)) where
      one_first : drop k pairs ≡ get_or pairs k no_pair ∷ drop (suc k) pairs
      one_first = drop-cons pairs k no_pair low

      pub pairs_stop : goes r.verdict ≡ false → PairsTried p w h T stones idx pairs start (outcome r)
      pairs_stop stops =
          let n = stops_refused most_groups no_trio r.verdict (groups_of r) stops in
          let Y : PairTried p w h T stones idx (get_or pairs k no_pair) (groups_of s) (refused n.0) = rw n.1 at X in
          rw n.1 (A.leads (refused n.0) (rw one_first (pair_refused Y)))

      pub pairs_next : Triable stones idx (get_or pairs k no_pair) → Laid r → goes r.verdict ≡ true → AfterPairs p w h T stones idx pairs start (k + 1) r
      pairs_next P L on =
          let H = goes_holds most_groups no_trio L on in
          let g = H.going in
          let Y : PairTried p w h T stones idx (get_or pairs k no_pair) (groups_of s) (found (groups_of r)) = subst (PairTried p w h T stones idx (get_or pairs k no_pair) (groups_of s)) g X in
          record {
            holds = H;
            beside = pair_counted A.beside P.proper Y;
            leads = λ f S. A.leads f (rw one_first (next_pair Y (rw add-one at S)));
          }

-- there is room for a group more
pub held_room : (s : Groupings) {idx : ℕ} {pair : Pair} → Holds s → Beside most_stones idx (groups_of s) → Proper most_stones idx pair → pair_used (groups_of s) pair ≡ false → s.n < most_groups
held_room s H B P free = omega (arith, held_count most_groups no_trio H, pair_room B P free)

-- the pairs are the first of an array
module _ {p : List ℕ} {w h : ℕ} {T : Table} {stones : List CapStone} {idx : ℕ} (all : List Pair) (count : ℕ) (whole : count ≤ length all) {start : List Trio} {k : ℕ} {s : Groupings} (A : AfterPairs p w h T stones idx (take count all) start k s) where
  long : length (take count all) ≡ count
  long = length-take-le count all whole

  pub array_end : count ≤ k → k ≤ count → PairsTried p w h T stones idx (take count all) start (outcome s)
  array_end above below = pairs_end A (omega (arith, long))

  module _ (low : k < count) (r : Groupings) (X : PairTried p w h T stones idx (get_or all k no_pair) (groups_of s) (outcome r)) where
    same : get_or (take count all) k no_pair ≡ get_or all k no_pair
    same = get_or-take count all k no_pair low

    there : PairTried p w h T stones idx (get_or (take count all) k no_pair) (groups_of s) (outcome r)
    there = subst (λ (q : Pair). PairTried p w h T stones idx q (groups_of s) (outcome r)) (sym same) X

    pub array_stop : goes r.verdict ≡ false → PairsTried p w h T stones idx (take count all) start (outcome r)
    array_stop = pairs_stop A (omega (arith, long)) r there

    pub array_next : Triable stones idx (get_or all k no_pair) → Laid r → goes r.verdict ≡ true → AfterPairs p w h T stones idx (take count all) start (k + 1) r
    array_next P = pairs_next A (omega (arith, long)) r there (subst (Triable stones idx) (sym same) P)

-- the centres before idx are tried, and nothing is refused: what the others come to, all come to
pub record AfterCentres (p : List ℕ) (w h : ℕ) (T : Table) (stones : List CapStone) (idx : ℕ) (s : Groupings) : Type 0 where
  pub holds : Holds s
  pub counted : Counted (length stones) (groups_of s)
  pub leads : (f : Finding (List Trio)) → CentresTried p w h T stones (length stones - idx) idx (groups_of s) f → Grouped p w h T stones f

module _ {p : List ℕ} {w h : ℕ} {T : Table} {stones : List CapStone} where
  pub centres_begin : (s : Groupings) → outcome s ≡ found [] → Laid s → AfterCentres p w h T stones 0 s
  unfolding count_in
  centres_begin s e L =
      let none : groups_of s ≡ [] = ap (λ (k : ℕ). take k s.groups) (L.count ∙ ap count_in e) in
      let all_left : length stones - 0 ≡ length stones = omega arith in
      record { holds = record { laid = L; going = e ∙ ap found (sym none) }; counted = rw none (counted_none (length stones)); leads = λ f X. rw (all_left, none) at X }

  module _ {idx : ℕ} {s : Groupings} (A : AfterCentres p w h T stones idx s) where
    pub centres_end : length stones ≤ idx → Grouped p w h T stones (outcome s)
    centres_end all =
        let none : length stones - idx ≡ 0 = omega arith in
        rw A.holds.going (A.leads (found (groups_of s)) (rw none no_centre_left))

    module _ (low : idx < length stones) (r : Groupings) (X : CentreTried p w h T stones idx (groups_of s) (outcome r)) where
      one_left : length stones - idx ≡ suc (length stones - suc idx)
      one_left = omega arith

      pub centres_stop : goes r.verdict ≡ false → Grouped p w h T stones (outcome r)
      centres_stop stops =
          let n = stops_refused most_groups no_trio r.verdict (groups_of r) stops in
          let Y : CentreTried p w h T stones idx (groups_of s) (refused n.0) = rw n.1 at X in
          rw n.1 (A.leads (refused n.0) (rw one_left (centre_refused Y)))

      pub centres_next : Laid r → goes r.verdict ≡ true → AfterCentres p w h T stones (idx + 1) r
      centres_next L on =
          let H = goes_holds most_groups no_trio L on in
          let g = H.going in
          let Y : CentreTried p w h T stones idx (groups_of s) (found (groups_of r)) = subst (CentreTried p w h T stones idx (groups_of s)) g X in
          record {
            holds = H;
            counted = centre_counted low A.counted Y;
            leads = λ f S. A.leads f (rw one_left (next_centre Y (rw add-one at S)));
          }
