-- The final pass keeps the table sound, the picture's length, and white what is white, also where it is refused. Assumes nothing.
use Prim.Native.Nat.{ℕ}
use native.Mathlib.Nat.{le_refl}
use mathlib.Core.Path.{refl}
use mathlib.Core.List.{List}
use mathlib.Core.Logic.{inl, inr}
use lib.ListN.{length}
use Rattle.refusals.specs.Finding.{Finding}
use Rattle.picture.specs.Sides.{Roomy}
use Rattle.pieces.specs.Count.{Mem}
use Rattle.table.specs.declared.Table.{Table}
use Rattle.table.proofs.Kept.{Proper}
use Rattle.capstones.specs.declared.CapStone.{CapStone}
use Rattle.alignment.proofs.Kept.{Kept, kept_on, kept_still}
use Rattle.alignment.proofs.Spiralling.{still_roomy}
use Rattle.grids.specs.declared.SkewedGridLocation.{SkewedGridLocation}
use Rattle.fit.proofs.Kept.{fits_keeps}
use Rattle.groupings.specs.declared.Trio.{Trio}
use Rattle.locations.specs.Pass.{Ready, FitsAll, finished, fitted, stopped}

pub all_keeps : {w h : ℕ} {stones : List CapStone} {groups : List Trio} {p : List ℕ} {lent : ℕ} {T : Table} {l : List SkewedGridLocation} {f : Finding (List SkewedGridLocation)} {q : List ℕ} {U : Table}
    → Roomy w h (length p) lent → Proper T w h → ((t : Trio) → Mem t groups → Ready stones t) → FitsAll w h stones groups p T l f q U → Kept p w h q U
all_keeps R P L finished = kept_still P refl refl
all_keeps {lent = lent} R P L (fitted {t = t} F X) =
    let G = L t (inl refl) in
    let K = fits_keeps R P G.centred G.cornered F in
    kept_on K (all_keeps (still_roomy R K.len (le_refl lent)) K.proper (λ u m. L u (inr m)) X)
all_keeps R P L (stopped {t = t} F) = let G = L t (inl refl) in fits_keeps R P G.centred G.cornered F
