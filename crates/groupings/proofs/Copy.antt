-- A trial's copies: the picture stands in the scratch, and a copy of a table that can be worked with can be worked with. Assumes nothing.
use Prim.Native.Nat.{ℕ, ◌-◌, ◌≤◌}
use native.Mathlib.Omega.{arith}
use mathlib.Core.Path.{◌≡◌, refl, subst}
use mathlib.Core.Bool.{true, ◌&&◌, and-eq-true_iff}
use mathlib.Core.List.{List, ◌++◌}
use lib.Dec.{leb}
use lib.ListN.{length, take, drop}
use borrow.Author.Tests.{leb-true}
use Rattle.table.specs.Table.{most, copy_of}
use Rattle.table.specs.Sound.{once_each, all_inside, sound_test}
use Rattle.table.specs.declared.Table.{Table}
use Rattle.table.proofs.Exact.{sound_exact}
use Rattle.table.proofs.Kept.{Proper, proper_copy}
use Rattle.refusals.specs.Finding.{Finding}
use Rattle.groups.specs.declared.CapStoneGroup.{CapStoneGroup}
use Rattle.grids.specs.declared.SkewedGridLocation.{SkewedGridLocation}
use Rattle.fourth_corner.specs.Corner.{Workable}
use Rattle.fit.specs.Fit.{Fits}
use Rattle.fit.proofs.Scratch.{kept_front}
use Rattle.groupings.specs.Trial.{Trial}

pub few_entries : (T : Table) (w h : ℕ) → sound_test T w h ≡ true → T.n ≤ most
unfolding sound_test
few_entries T w h e = leb-true T.n most ((and-eq-true_iff (leb T.n most) (once_each T.n (take T.n T.age) && all_inside T.entries T.n w h)).0 e).0

-- a table in its type's arrays, which 9 does not refuse
pub proper_table : (T : Table) (w h : ℕ) → length T.entries ≡ most → length T.age ≡ most → sound_test T w h ≡ true → Proper T w h
proper_table T w h entries age e = record { entries = entries; age = age; sound = (sound_exact T w h (omega (arith, age))).0 e }

pub copy_workable : (p q : List ℕ) (w h lent room : ℕ) (T U : Table) → length T.entries ≡ most → length T.age ≡ most → Workable p w h lent T
    → q ≡ p → lent ≤ room → U ≡ copy_of T → Workable q w h room U
copy_workable p q w h lent room T U entries age W same more copy =
    let C = proper_copy (proper_table T w h entries age W.sound) in
    rw (same, copy)
    (record {
      roomy = record { sized = W.roomy.sized; room = omega (arith, W.roomy.room, more) };
      sound = (sound_exact (copy_of T) w h (omega (arith, C.age))).1 C.sound;
    })

-- the copy in the scratch is the picture
pub copy_same : (p s l : List ℕ) → l ≡ take (length p) p ++ drop (length p) s → take (length p - 0) l ≡ p
copy_same p s l e = let same : length p - 0 ≡ length p = omega arith in rw same (kept_front p p s l refl e)

pub trial_of : {p q : List ℕ} {w h : ℕ} {T U : Table} {g : CapStoneGroup} {f : Finding (List SkewedGridLocation)} {m : List ℕ} {Left : Table}
    → q ≡ p → U ≡ copy_of T → Fits q w h U g f m Left → Trial p w h T g f
trial_of {p} {q} {w} {h} {T} {U} {g} {f} {m} {Left} same copy F =
    let on-copy : Fits p w h U g f m Left = subst (λ (v : List ℕ). Fits v w h U g f m Left) same F in
    record { picture = m; table = Left; fits = subst (λ (X : Table). Fits p w h X g f m Left) copy on-copy }

pub on_group : {p : List ℕ} {w h : ℕ} {T : Table} {g k : CapStoneGroup} {f : Finding (List SkewedGridLocation)} → g ≡ k → Trial p w h T g f → Trial p w h T k f
on_group {p} {w} {h} {T} {f = f} e X = subst (λ (v : CapStoneGroup). Trial p w h T v f) e X

-- as much room as before
pub still_workable : {p : List ℕ} {w h lent room : ℕ} {T : Table} → Workable p w h lent T → room ≡ lent → Workable p w h room T
still_workable W same = record { roomy = record { sized = W.roomy.sized; room = omega (arith, W.roomy.room, same) }; sound = W.sound }
