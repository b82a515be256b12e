-- What the final pass comes to, the picture and the table after it are determined. Assumes nothing.
use Prim.Native.Nat.{ℕ}
use native.Mathlib.Nat.{le_refl}
use mathlib.Core.Path.{refl, subst}
use mathlib.Core.List.{List, ◌∷◌, ◌++◌}
use mathlib.Core.Logic.{inl, inr}
use lib.ListN.{length}
use Rattle.refusals.specs.Finding.{Finding, found, refused}
use Rattle.picture.specs.Sides.{Roomy}
use Rattle.pieces.specs.Count.{Mem}
use Rattle.table.specs.declared.Table.{Table}
use Rattle.table.proofs.Kept.{Proper}
use Rattle.regions.proofs.Unique.{Alike}
use Rattle.capstones.specs.declared.CapStone.{CapStone}
use Rattle.alignment.proofs.Spiralling.{still_roomy}
use Rattle.grids.specs.declared.SkewedGridLocation.{SkewedGridLocation}
use Rattle.fit.specs.Fit.{Fits}
use Rattle.fit.proofs.Kept.{fits_keeps}
use Rattle.fit.proofs.Determined.{fits_same}
use Rattle.groupings.specs.Used.{group_of}
use Rattle.groupings.specs.declared.Trio.{Trio}
use Rattle.locations.specs.Pass.{Ready, FitsAll, finished, fitted, stopped}

module _ (w h : ℕ) (stones : List CapStone) (more : List Trio) (l : List SkewedGridLocation) (f : Finding (List SkewedGridLocation)) (q : List ℕ) (U : Table) where
  -- what is left after the first group
  abbrev Left : Finding (List SkewedGridLocation) → List ℕ → Table → Type 0
  Left (found new) m B = FitsAll w h stones more m B (l ++ new) f q U
  Left (refused n) m B = Alike {A = Finding (List SkewedGridLocation)} (refused n) m B f q U

  carried : {a b : Finding (List SkewedGridLocation)} {m n : List ℕ} {B C : Table} → Alike a m B b n C → Left a m B → Left b n C
  carried {a} {b} {m} {n} {B} {C} e X =
      let X1 : Left b m B = subst (λ (i : Finding (List SkewedGridLocation)). Left i m B) e.0 X in
      let X2 : Left b n B = subst (λ (i : List ℕ). Left b i B) e.1 X1 in
      subst (λ (i : Table). Left b n i) e.2 X2

-- of any pass after the first group, just that is left
module _ {w h : ℕ} {stones : List CapStone} {t : Trio} (L : Ready stones t) {p : List ℕ} {lent : ℕ} {T : Table} (R : Roomy w h (length p) lent) (P : Proper T w h) where
  after_first : {more : List Trio} {l : List SkewedGridLocation} {f : Finding (List SkewedGridLocation)} {q : List ℕ} {U : Table} {a : Finding (List SkewedGridLocation)} {m : List ℕ} {B : Table}
      → Fits p w h T (group_of stones t) a m B → FitsAll w h stones (t ∷ more) p T l f q U → Left w h stones more l f q U a m B
  after_first {more} {l} {f} {q} {U} F (fitted G X) = carried w h stones more l f q U (fits_same R P L.centred L.cornered G F) X
  after_first {more} {l} {f} {q} {U} F (stopped G) = carried w h stones more l f q U (fits_same R P L.centred L.cornered G F) (refl, refl, refl)

pub pass_same : {w h : ℕ} {stones : List CapStone} {groups : List Trio} {p : List ℕ} {lent : ℕ} {T : Table} {l : List SkewedGridLocation} {f g : Finding (List SkewedGridLocation)} {q r : List ℕ} {U Z : Table}
    → Roomy w h (length p) lent → Proper T w h → ((t : Trio) → Mem t groups → Ready stones t) → FitsAll w h stones groups p T l f q U → FitsAll w h stones groups p T l g r Z → Alike f q U g r Z
pass_same R P L finished finished = (refl, refl, refl)
pass_same {lent = lent} R P L (fitted {t = t} F X) Y =
    let G = L t (inl refl) in
    let K = fits_keeps R P G.centred G.cornered F in
    pass_same (still_roomy R K.len (le_refl lent)) K.proper (λ u m. L u (inr m)) X (after_first (L t (inl refl)) R P F Y)
pass_same R P L (stopped {t = t} F) Y = after_first (L t (inl refl)) R P F Y
