-- The two lists of a stone's neighbours have no stone in common, so that of 64 stones they have no more than 63 in all. Assumes nothing.
use Prim.Native.Nat.{ℕ, suc, ◌+◌, ◌≤◌, ◌<◌}
use native.Mathlib.Decide.{ℕ_discrete}
use native.Mathlib.Omega.{arith}
use mathlib.Core.Path.{◌≡◌, refl}
use mathlib.Core.Bool.{Bool, true, false}
use mathlib.Core.List.{List, [], ◌∷◌, flat_map}
use mathlib.Core.Logic.{by_cases}
use borrow.Author.Tests.{eq-eqb, ne_eqb}
use lib.Ieee.{binary64}
use lib.Ieee.Fits.{sub-fits}
use lib.ListN.{length, get_or, length-append}
use Rattle.points.specs.declared.Point.{Point}
use Rattle.geometry.specs.declared.Perspective.{Perspective}
use Rattle.geometry.specs.declared.GridPoint.{GridPoint}
use Rattle.geometry.specs.Unmap.{unmapped}
use Rattle.floats.specs.Float64.{◌⊖◌}
use Rattle.capstones.specs.declared.CapStone.{CapStone}
use Rattle.capstones.specs.Blank.{no_stone}
use Rattle.capstones.specs.Modules.{middle}
use Rattle.match_capstones.specs.Only.{only}
use Rattle.match_capstones.specs.Neighbors.{offset, in_line, neighbor, Other, others, others_of, hlist, vlist}
use Rattle.match_capstones.specs.All.{All, all_none, all_one}
use Rattle.match_capstones.proofs.Fifth.{above_fifth, one_way}
use Rattle.match_capstones.proofs.All.{all_others}
use Rattle.match_capstones.proofs.Next.{others_few}

-- no point lies in line both ways
pub seen_apart : (c : Perspective) (q : Point) → in_line (offset c q).u (offset c q).v ≡ true → in_line (offset c q).v (offset c q).u ≡ true → ⊥
unfolding offset
seen_apart c q =
    one_way _ _
    (above_fifth ((unmapped c q).u ⊖ middle) (sub-fits binary64 (unmapped c q).u middle))
    (above_fifth ((unmapped c q).v ⊖ middle) (sub-fits binary64 (unmapped c q).v middle))

pub seen_once : (c : Perspective) (q : Point) {at : GridPoint} → at ≡ offset c q → in_line at.u at.v ≡ true → in_line at.v at.u ≡ false
seen_once c q {at} seen t = either (in_line at.v at.u) refl
  where
    either : (x : Bool) → in_line at.v at.u ≡ x → in_line at.v at.u ≡ false
    either true e = absurd (seen_apart c q (rw seen at t) (rw seen at e))
    either false e = e

abbrev Apart : Other → Type 0
Apart o = in_line o.at.u o.at.v ≡ true → in_line o.at.v o.at.u ≡ true → ⊥

others_apart : (c : Perspective) (idx k : ℕ) (l : List CapStone) → All Apart (others c idx k l)
others_apart c idx k l = all_others Apart c idx k l (λ i low ne. seen_apart c (get_or l i no_stone).center)

one_at_most : {A : Type 0} (a b : Bool) (x y : A) → (a ≡ true → b ≡ true → ⊥) → length (only a x) + length (only b y) ≤ 1
one_at_most true true x y apart = absurd (apart refl refl)
one_at_most true false x y apart = omega arith
one_at_most false true x y apart = omega arith
one_at_most false false x y apart = omega arith

apart_few : {os : List Other} → All Apart os → length (hlist os) + length (vlist os) ≤ length os
unfolding flat_map
apart_few all_none = omega arith
apart_few (all_one {x = o} {l = os} apart rest) =
    let one = one_at_most (in_line o.at.u o.at.v) (in_line o.at.v o.at.u) (neighbor o.index o.at.v) (neighbor o.index o.at.u) apart in
    simp length-append (omega (arith, one, apart_few rest))

-- stone idx does not see itself
others_fewer : (c : Perspective) (idx k : ℕ) (l : List CapStone) → k ≤ idx → idx < k + length l → length (others c idx k l) < length l
unfolding others
others_fewer c idx k [] from to = absurd (omega arith)
others_fewer c idx k (s ∷ l) from to =
    by_cases (ℕ_discrete k idx)
    (λ e. rw (eq-eqb k idx e) (omega (arith, others_few c idx (suc k) l)))
    (λ ne. rw (ne_eqb k idx ne) (omega (arith, others_fewer c idx (suc k) l (omega arith) (omega arith))))

pub lists_few : (stones : List CapStone) (idx : ℕ) → idx < length stones → length stones ≤ 64 → length (hlist (others_of stones idx)) + length (vlist (others_of stones idx)) ≤ 63
lists_few stones idx low few =
    let c = (get_or stones idx no_stone).c in
    omega (arith, apart_few (others_apart c idx 0 stones), others_fewer c idx 0 stones (omega arith) (omega arith))
