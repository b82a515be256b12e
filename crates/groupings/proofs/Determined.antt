-- The groups that stones come to are determined, and so is the array that holds them. Assumes nothing.
use Prim.Native.Nat.{ℕ, suc, ◌+◌, ◌<◌}
use native.Mathlib.Omega.{arith}
use mathlib.Core.Path.{◌≡◌, refl, sym, ap, ◌∙◌, subst}
use mathlib.Core.List.{List}
use lib.ListN.{length}
use Rattle.refusals.specs.Finding.{Finding}
use Rattle.picture.specs.Sides.{Roomy}
use Rattle.laid.proofs.Same.{laid_same}
use Rattle.table.specs.declared.Table.{Table}
use Rattle.table.proofs.Kept.{Proper, proper_copy}
use Rattle.capstones.specs.declared.CapStone.{CapStone}
use Rattle.match_capstones.specs.All.{All, all_one}
use Rattle.match_capstones.specs.Proper as pairs
use Rattle.match_capstones.specs.declared.Pair.{Pair}
use Rattle.match_capstones.proofs.Pairs.{pairs_proper}
use Rattle.groups.specs.Group.{Centred, Cornered}
use Rattle.groups.specs.declared.CapStoneGroup.{CapStoneGroup}
use Rattle.grids.specs.declared.SkewedGridLocation.{SkewedGridLocation}
use Rattle.fit.proofs.Determined.{fits_same}
use Rattle.groupings.specs.Trial.{Trial}
use Rattle.groupings.specs.Used.{trio_of}
use Rattle.groupings.specs.Groups.{after_trial, PairTried, passed_over, on_trial, PairsTried, no_pair_left, next_pair, pair_refused, CentreTried, used_before, with_pairs, CentresTried, no_centre_left, next_centre, centre_refused, Grouped}
use Rattle.groupings.specs.Held.{most_groups, no_trio, outcome, Laid, Stones}
use Rattle.groupings.specs.declared.Trio.{Trio}
use Rattle.groupings.specs.declared.Groupings.{Groupings}
use Rattle.groupings.proofs.Few.{same_groups}
use Rattle.groupings.proofs.Front.{triable}

module _ {p : List ℕ} {w h lent : ℕ} {T : Table} (R : Roomy w h (length p) lent) (P : Proper T w h) where
  trial_same : {k : CapStoneGroup} {f g : Finding (List SkewedGridLocation)} → Centred k → Cornered k → Trial p w h T k f → Trial p w h T k g → f ≡ g
  trial_same A C X Y = (fits_same R (proper_copy P) A C X.fits Y.fits).0

  module _ {stones : List CapStone} (S : Stones stones (length stones)) where
    pair_same : {idx : ℕ} {pair : Pair} {groups : List Trio} {f g : Finding (List Trio)} → idx < length stones → pairs.Proper (length stones) idx pair
        → PairTried p w h T stones idx pair groups f → PairTried p w h T stones idx pair groups g → f ≡ g
    pair_same low D (passed_over u e) (passed_over v i) = e ∙ sym i
    pair_same low D (passed_over u e) (on_trial free fit Y i) = let z : ◌≡◌ {A = ℕ} 0 1 = cc in absurd (omega arith)
    pair_same low D (on_trial free fit X e) (passed_over v i) = let z : ◌≡◌ {A = ℕ} 0 1 = cc in absurd (omega arith)
    pair_same {idx} {pair} {groups} low D (on_trial free fit X e) (on_trial free' fit' Y i) =
        let Q = triable stones low D S in
        e ∙ ap (after_trial groups (trio_of idx pair)) (trial_same Q.centred Q.cornered X Y) ∙ sym i

    pairs_same : {idx : ℕ} {l : List Pair} {groups : List Trio} {f g : Finding (List Trio)} → idx < length stones → All (pairs.Proper (length stones) idx) l
        → PairsTried p w h T stones idx l groups f → PairsTried p w h T stones idx l groups g → f ≡ g
    pairs_same low all no_pair_left no_pair_left = refl
    pairs_same {idx} {g = g} low (all_one D all) (next_pair {more = more} {next = next} X U) (next_pair {next = other} Y Z) =
        let same : other ≡ next = sym (same_groups next other (pair_same low D X Y)) in
        pairs_same low all U (subst (λ (m : List Trio). PairsTried p w h T stones idx more m g) same Z)
    pairs_same low (all_one D all) (next_pair X U) (pair_refused Y) = let s = pair_same low D X Y in let z : ◌≡◌ {A = ℕ} 0 1 = cc in absurd (omega arith)
    pairs_same low (all_one D all) (pair_refused X) (next_pair Y Z) = let s = pair_same low D X Y in let z : ◌≡◌ {A = ℕ} 0 1 = cc in absurd (omega arith)
    pairs_same low (all_one D all) (pair_refused X) (pair_refused Y) = pair_same low D X Y

    centre_same : {idx : ℕ} {groups : List Trio} {f g : Finding (List Trio)} → idx < length stones → CentreTried p w h T stones idx groups f → CentreTried p w h T stones idx groups g → f ≡ g
    centre_same low (used_before u e) (used_before v i) = e ∙ sym i
    centre_same low (used_before u e) (with_pairs free Y) = let z : ◌≡◌ {A = ℕ} 0 1 = cc in absurd (omega arith)
    centre_same low (with_pairs free X) (used_before v i) = let z : ◌≡◌ {A = ℕ} 0 1 = cc in absurd (omega arith)
    centre_same {idx} low (with_pairs free X) (with_pairs free' Y) = pairs_same low (pairs_proper stones idx) X Y

    centres_same : {left idx : ℕ} {groups : List Trio} {f g : Finding (List Trio)} → idx + left ≡ length stones
        → CentresTried p w h T stones left idx groups f → CentresTried p w h T stones left idx groups g → f ≡ g
    centres_same at no_centre_left no_centre_left = refl
    centres_same {g = g} at (next_centre {left = left} {idx = idx} {next = next} X U) (next_centre {next = other} Y Z) =
        let same : other ≡ next = sym (same_groups next other (centre_same (omega (arith, at)) X Y)) in
        centres_same (omega (arith, at)) U (subst (λ (m : List Trio). CentresTried p w h T stones left (suc idx) m g) same Z)
    centres_same at (next_centre X U) (centre_refused Y) = let s = centre_same (omega (arith, at)) X Y in let z : ◌≡◌ {A = ℕ} 0 1 = cc in absurd (omega arith)
    centres_same at (centre_refused X) (next_centre Y Z) = let s = centre_same (omega (arith, at)) X Y in let z : ◌≡◌ {A = ℕ} 0 1 = cc in absurd (omega arith)
    centres_same at (centre_refused X) (centre_refused Y) = centre_same (omega (arith, at)) X Y

    -- what the stones come to
    pub grouped_same : {f g : Finding (List Trio)} → Grouped p w h T stones f → Grouped p w h T stones g → f ≡ g
    grouped_same = centres_same {left = length stones} {idx = 0} (omega arith)

-- groups of one outcome are held in one way
pub same_held : (s t : Groupings) → outcome s ≡ outcome t → Laid s → Laid t → (s.groups ≡ t.groups) × (s.n ≡ t.n) × (s.verdict ≡ t.verdict)
same_held s t e X Y = let same = laid_same most_groups no_trio e X Y in (same.2, same.1, same.0)

-- so what a search for groups finds is determined; what it remembers is no finding
pub groupings_determined : {p : List ℕ} {w h lent : ℕ} {T : Table} {stones : List CapStone} → Roomy w h (length p) lent → Proper T w h → Stones stones (length stones)
    → (s t : Groupings) → Grouped p w h T stones (outcome s) × Laid s → Grouped p w h T stones (outcome t) × Laid t → (s.groups ≡ t.groups) × (s.n ≡ t.n) × (s.verdict ≡ t.verdict)
groupings_determined R P S s t X Y = same_held s t (grouped_same R P S X.0 Y.0) X.1 Y.1
