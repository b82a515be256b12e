-- An array that holds the neighbours among the stones passed, by one axis, and what one stone more does to it. Assumes nothing.
use Prim.Native.Nat.{ℕ, ◌+◌, ◌*◌, ◌≤◌, ◌<◌}
use native.Mathlib.Numerals.{add-one}
use native.Mathlib.Omega.{arith}
use mathlib.Core.Path.{◌≡◌}
use mathlib.Core.Bool.{true, false}
use mathlib.Core.List.{List, ◌++◌, append-nil, flat_map}
use borrow.Author.Tests.{eq-eqb, ne_eqb}
use lib.Ieee.{Float}
use lib.ListN.{length, get_or, take, set, length-take}
use Rattle.geometry.specs.declared.Perspective.{Perspective}
use Rattle.geometry.specs.declared.GridPoint.{GridPoint}
use Rattle.capstones.specs.declared.CapStone.{CapStone}
use Rattle.capstones.specs.Blank.{no_stone}
use Rattle.match_capstones.specs.Arrays.{Holds}
use Rattle.match_capstones.specs.Neighbors.{Other, offset, in_line, neighbor, one_in_line, others, neighbors}
use Rattle.match_capstones.specs.declared.Neighbor.{Neighbor}
use Rattle.match_capstones.proofs.Arrays.{holds_more}
use Rattle.match_capstones.proofs.Next.{flat_map_append, flat_map_few, only_few, others_next, others_few}

module _ (across along : GridPoint → Float) where
  -- a list of neighbours is no longer than the list of the others
  neighbors_few : (l : List Other) → length (neighbors across along l) ≤ length l
  neighbors_few l =
      let few : length (neighbors across along l) ≤ length l * 1 = flat_map_few _ 1 (λ o. only_few (in_line (across o.at) (along o.at)) (neighbor o.index (along o.at))) l in
      omega arith

  module _ (c : Perspective) (idx : ℕ) (l : List CapStone) where
    -- the first n places hold the neighbours among the first k stones
    abbrev pub Passed : List Neighbor → ℕ → ℕ → Type 0
    Passed all n k = Holds 64 all n (neighbors across along (others c idx 0 (take k l)))

    pub passed_few : {all : List Neighbor} {n : ℕ} (k : ℕ) → Passed all n k → n ≤ k
    passed_few k h = omega (arith, h.count, neighbors_few (others c idx 0 (take k l)), others_few c idx 0 (take k l), length-take k l)

    module _ {all : List Neighbor} {n : ℕ} (i : ℕ) (low : i < length l) (h : Passed all n i) where
      -- stone idx itself
      pub passed_itself : i ≡ idx → Passed all n (i + 1)
      passed_itself e = rw (add-one i, others_next c idx l i no_stone low, eq-eqb i idx e, append-nil) h

      -- another, which lies so
      module _ (other : i ≡ idx → ⊥) {at : GridPoint} (seen : at ≡ offset c (get_or l i no_stone).center) where
        next : neighbors across along (others c idx 0 (take (i + 1) l)) ≡ neighbors across along (others c idx 0 (take i l)) ++ one_in_line i (across at) (along at)
        unfolding flat_map
        next = rw (seen, add-one i, others_next c idx l i no_stone low, ne_eqb i idx other, flat_map_append, append-nil)

        pub passed_out : in_line (across at) (along at) ≡ false → Passed all n (i + 1)
        passed_out t = rw (next, t, append-nil) h

        pub passed_in : in_line (across at) (along at) ≡ true → i < 64 → Passed (set all n (neighbor i (along at))) (n + 1) (i + 1)
        passed_in t fits = rw (next, t) (holds_more h (neighbor i (along at)) (omega (arith, passed_few i h)))
