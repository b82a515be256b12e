-- Fitting a group keeps the table sound, the picture's length, and white what is white: also where it is refused, and the paint stays. Assumes nothing.
use Prim.Native.Nat.{ℕ}
use mathlib.Core.List.{List}
use lib.ListN.{length}
use Rattle.refusals.specs.Finding.{Finding}
use Rattle.picture.specs.Sides.{Roomy}
use Rattle.table.specs.declared.Table.{Table}
use Rattle.table.proofs.Kept.{Proper}
use Rattle.alignment.proofs.Kept.{Kept, kept_still}
use Rattle.groups.specs.Group.{Centred, Cornered}
use Rattle.groups.specs.declared.CapStoneGroup.{CapStoneGroup}
use Rattle.outline.proofs.Drawn.{outline_drawn}
use Rattle.grids.specs.declared.SkewedGridLocation.{SkewedGridLocation}
use Rattle.fourth_corner.proofs.Kept.{corner_keeps}
use Rattle.fit.specs.Fit.{Fits, not_outlined, apart, outlined}

pub fits_keeps : {p : List ℕ} {w h lent : ℕ} {T : Table} {g : CapStoneGroup} {f : Finding (List SkewedGridLocation)} {q : List ℕ} {U : Table}
    → Roomy w h (length p) lent → Proper T w h → Centred g → Cornered g → Fits p w h T g f q U → Kept p w h q U
fits_keeps R P A C (not_outlined n e i same table) = kept_still P same table
fits_keeps R P A C (apart e i same table) = kept_still P same table
fits_keeps {p} {w} {h} {g = g} R P A C (outlined o e X) = corner_keeps R P (outline_drawn p w h o g A C e).direction X.corners
