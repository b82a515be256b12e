-- How the final pass goes on from group to group. Assumes nothing.
use Prim.Native.Nat.{ℕ, suc, ◌+◌, ◌≤◌, ◌<◌}
use native.Mathlib.Numerals.{add-one}
use native.Mathlib.Omega.{arith}
use mathlib.Core.Path.{◌≡◌, refl, sym, ap, ◌∙◌, subst}
use mathlib.Core.Bool.{true, false}
use mathlib.Core.List.{List, [], ◌∷◌, ◌++◌}
use lib.ListN.{length, get_or, take, drop, drop_of_length-le}
use lib.Seq.{drop-cons, get_or-take, length-take-le}
use Rattle.refusals.specs.Finding.{Finding, found, refused}
use Rattle.picture.specs.Sides.{Roomy}
use Rattle.laid.specs.Laid.{goes, added, count_in}
use Rattle.laid.proofs.Standing.{goes_holds, stops_refused}
use Rattle.table.specs.declared.Table.{Table}
use Rattle.table.proofs.Kept.{Proper}
use Rattle.capstones.specs.declared.CapStone.{CapStone}
use Rattle.groups.specs.declared.CapStoneGroup.{CapStoneGroup}
use Rattle.alignment.proofs.Kept.{Kept, kept_on, kept_still}
use Rattle.alignment.proofs.Spiralling.{still_roomy}
use Rattle.alignment.proofs.Visiting.{proper_test}
use Rattle.grids.specs.declared.SkewedGridLocation.{SkewedGridLocation}
use Rattle.fourth_corner.specs.Corner.{Workable}
use Rattle.fit.specs.Fit.{Fits}
use Rattle.fit.proofs.Kept.{fits_keeps}
use Rattle.groupings.specs.Used.{group_of}
use Rattle.groupings.specs.Held.{most_groups, no_trio}
use Rattle.groupings.specs.declared.Trio.{Trio}
use Rattle.locations.specs.Held.{no_location, locations_of, outcome_of, LaidOut, Held}
use Rattle.locations.specs.Pass.{Ready, FitsOne, FitsAll, finished, fitted, stopped}
use Rattle.locations.specs.declared.Locations.{Locations}

-- what is taken is the group's
pub takes : {p : List ℕ} {w h : ℕ} {stones : List CapStone} {t : Trio} {s r : Locations} {g : CapStoneGroup} {f : Finding (List SkewedGridLocation)} {q : List ℕ} {U : Table}
    → g ≡ group_of stones t → Fits p w h s.table g f q U → (outcome_of r ≡ added (locations_of s) f) × LaidOut r × (r.table ≡ U) × (r.n ≤ s.n + 1) → FitsOne p w h stones t s q r
takes {p} {w} {h} {s = s} {f = f} {q = q} e F R = record { finding = f; fits = rw (R.2, ← e) F; is = R.0; laid = R.1; few = R.3 }

-- a refusal is added only by a refusal
refusal : {p : List ℕ} {w h : ℕ} {T : Table} {g : CapStoneGroup} {n : ℕ} {q : List ℕ} {U : Table} (l : List SkewedGridLocation) (f : Finding (List SkewedGridLocation)) → added l f ≡ refused n → Fits p w h T g f q U → Fits p w h T g (refused n) q U
unfolding added
refusal l (found new) e F = let z : ◌≡◌ {A = ℕ} 0 1 = cc in absurd (omega arith)
refusal {p} {w} {h} {T} {g} {n = n} {q = q} {U = U} l (refused m) e F = let same : m ≡ n = cc in subst (λ (k : ℕ). Fits p w h T g (refused k) q U) same F

-- what is found after a step is what it adds
new_found : (l : List SkewedGridLocation) {m : List SkewedGridLocation} (f : Finding (List SkewedGridLocation)) → added l f ≡ found m → (new : List SkewedGridLocation) × (f ≡ found new) × (l ++ new ≡ m)
unfolding added
new_found l (found new) e = (new, refl, (cc))
new_found l (refused n) e = let z : ◌≡◌ {A = ℕ} 0 1 = cc in absurd (omega arith)

-- k groups are fitted, and nothing is refused: what the others come to, all come to
pub record AfterGroups (w h : ℕ) (stones : List CapStone) (groups : List Trio) (p0 : List ℕ) (T0 : Table) (k : ℕ) (p : List ℕ) (s : Locations) : Type 0 where
  pub held : Held s
  pub few : s.n ≤ k
  pub kept : Kept p0 w h p s.table
  pub leads : (f : Finding (List SkewedGridLocation)) (q : List ℕ) (U : Table) → FitsAll w h stones (drop k groups) p s.table (locations_of s) f q U → FitsAll w h stones groups p0 T0 [] f q U

module _ {w h : ℕ} {stones : List CapStone} {groups : List Trio} {p0 : List ℕ} {T0 : Table} where
  pub groups_begin : (s : Locations) → Proper T0 w h → outcome_of s ≡ found [] → LaidOut s → s.table ≡ T0 → AfterGroups w h stones groups p0 T0 0 p0 s
  unfolding count_in
  groups_begin s P e L same =
      let none : s.n ≡ 0 = L.count ∙ ap count_in e in
      let empty : locations_of s ≡ [] = ap (λ (k : ℕ). take k s.all) none in
      record {
        held = record { laid = L; going = e ∙ ap found (sym empty) };
        few = omega (arith, none);
        kept = kept_still P refl same;
        leads = λ f q U X. rw (same, empty) at X;
      }

  module _ {k : ℕ} {p : List ℕ} {s : Locations} (A : AfterGroups w h stones groups p0 T0 k p s) where
    pub groups_end : length groups ≤ k → FitsAll w h stones groups p0 T0 [] (outcome_of s) p s.table
    groups_end all =
        let none : drop k groups ≡ [] = drop_of_length-le groups all in
        rw A.held.going (A.leads (found (locations_of s)) p s.table (rw none finished))

    module _ (low : k < length groups) {q : List ℕ} {r : Locations} (X : FitsOne p w h stones (get_or groups k no_trio) s q r) where
      one_first : drop k groups ≡ get_or groups k no_trio ∷ drop (suc k) groups
      one_first = drop-cons groups k no_trio low

      pub groups_stop : goes r.verdict ≡ false → FitsAll w h stones groups p0 T0 [] (outcome_of r) q r.table
      groups_stop stops =
          let n = stops_refused most_groups no_location r.verdict (locations_of r) stops in
          let F : Fits p w h s.table (group_of stones (get_or groups k no_trio)) (refused n.0) q r.table = refusal (locations_of s) X.finding (sym X.is ∙ n.1) X.fits in
          rw n.1 (A.leads (refused n.0) q r.table (rw one_first (stopped F)))

      pub groups_next : {lent : ℕ} → Roomy w h (length p) lent → Ready stones (get_or groups k no_trio) → goes r.verdict ≡ true → AfterGroups w h stones groups p0 T0 (k + 1) q r
      groups_next R P on =
          let H = goes_holds most_groups no_location X.laid on in
          let N = new_found (locations_of s) X.finding (sym X.is ∙ H.going) in
          let F : Fits p w h s.table (group_of stones (get_or groups k no_trio)) (found N.0) q r.table = subst (λ (f : Finding (List SkewedGridLocation)). Fits p w h s.table (group_of stones (get_or groups k no_trio)) f q r.table) N.1 X.fits in
          record {
            held = H;
            few = omega (arith, X.few, A.few);
            kept = kept_on A.kept (fits_keeps R A.kept.proper P.centred P.cornered X.fits);
            leads = λ f u U Y.
                let Z : FitsAll w h stones (drop (suc k) groups) q r.table (locations_of s ++ N.0) f u U = subst (λ (l : List SkewedGridLocation). FitsAll w h stones (drop (suc k) groups) q r.table l f u U) (sym N.2) (rw add-one at Y) in
                A.leads f u U (rw one_first (fitted F Z));
          }

-- the groups are the first of an array
module _ {w h : ℕ} {stones : List CapStone} (all : List Trio) (n : ℕ) (whole : n ≤ length all) {p0 : List ℕ} {T0 : Table} {k : ℕ} {p : List ℕ} {s : Locations} (A : AfterGroups w h stones (take n all) p0 T0 k p s) where
  long : length (take n all) ≡ n
  long = length-take-le n all whole

  pub array_end : n ≤ k → FitsAll w h stones (take n all) p0 T0 [] (outcome_of s) p s.table
  array_end above = groups_end A (omega (arith, long))

  module _ (low : k < n) {q : List ℕ} {r : Locations} (X : FitsOne p w h stones (get_or all k no_trio) s q r) where
    same : get_or (take n all) k no_trio ≡ get_or all k no_trio
    same = get_or-take n all k no_trio low

    there : FitsOne p w h stones (get_or (take n all) k no_trio) s q r
    there = subst (λ (t : Trio). FitsOne p w h stones t s q r) (sym same) X

    pub array_stop : goes r.verdict ≡ false → FitsAll w h stones (take n all) p0 T0 [] (outcome_of r) q r.table
    array_stop = groups_stop A (omega (arith, long)) there

    pub array_next : {lent : ℕ} → Roomy w h (length p) lent → Ready stones (get_or all k no_trio) → goes r.verdict ≡ true → AfterGroups w h stones (take n all) p0 T0 (k + 1) q r
    array_next R P = groups_next A (omega (arith, long)) there R (subst (Ready stones) (sym same) P)

-- what a group asks, after others
pub next_workable : {w h lent room : ℕ} {p0 p : List ℕ} {T0 U : Table} → Workable p0 w h lent T0 → Kept p0 w h p U → lent ≤ room → Workable p w h room U
next_workable W K enough = record { roomy = still_roomy W.roomy K.len enough; sound = proper_test K.proper }
